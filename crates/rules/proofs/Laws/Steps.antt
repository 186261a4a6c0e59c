-- One event: what the engine's parts do, put together.
-- Assumes nothing.
use Rattle.std.specs.Prelude.{Err, Ok, Option}
use mathlib.Core.Path.{◌≡◌, refl, sym, ap, ap₂, subst, ◌∙◌}
use mathlib.Core.Bool.{true, false, or-true}
use mathlib.Core.List.{List, [], ◌∷◌}
use Prim.Native.Nat.{ℕ, zero, suc, ◌+◌, ◌≤◌, ◌<◌}
use native.Mathlib.Numerals.{add-one}
use native.Mathlib.Omega.{arith}
use lib.ListN.{length, get_or, set, length-set}
use lib.Seq.{get_or-set_same, get_or-set_other}
use borrow.Author.Tests.{eqb-false, leb-false, not-false}
use Rattle.model.specs.declared.Name.{Name}
use Rattle.model.specs.declared.Span.{Span}
use Rattle.model.specs.declared.Cap.{Cap}
use Rattle.model.specs.declared.Terms.{Terms}
use Rattle.model.specs.declared.Access.{Access}
use Rattle.model.specs.declared.Sheet.{Sheet}
use Rattle.model.specs.declared.Access.TheVariants.{Reading, Writing}
use Rattle.model.specs.declared.Tally.{Tally}
use Rattle.rules.specs.declared.Outcome.{Outcome}
use Rattle.model.specs.declared.Event.{Event}
use Rattle.model.specs.declared.Event.TheVariants.{Create, Borrow, Read, Write, Drop}
use Rattle.model.specs.declared.Refusal.{Refusal}
use Rattle.model.specs.Lists.{any}
use Rattle.model.specs.Strike.{is_end, is_lower, struck}
use Rattle.model.specs.Slots.{Memory, Slot, unstored}
use Rattle.model.specs.Step.{Verdict, State, view, worked, memory_after, verdict, outcome, after, answer}
use Rattle.model.specs.Table.{row, empty_row, derivations, named, live_rows, lookup, lent_table, in_order}
use Rattle.model.specs.declared.Asked.{Asked}
use Rattle.model.specs.declared.Asked.TheVariants as ask
use Rattle.model.specs.declared.Work.{Work}
use Rattle.model.specs.declared.Work.TheVariants as wk
use Rattle.model.specs.Requests.{Limits, Unlimited, Caller, Request, Single, caller, caller_of, turns_state, work_of, request_of}
use Rattle.model.specs.Refusals.{View, unfit, unfit_stored, view_of, refusals, judge}
use Rattle.model.specs.Bits.{bits_after}
use Rattle.model.specs.Limits.{refused_sheet}
use Rattle.model.specs.Sheet6.{sheet6}
use Rattle.model.specs.Effects.{new_name, after_access, rows_without, rows_after}
use Rattle.model.specs.Counts.{count_allowed, count_refused}
use Rattle.model.specs.Answers.{number, verdict_of}
use Rattle.table.specs.Words.{rows_in}
use Rattle.table.specs.Known.{Sized}
use Rattle.table.specs.Rows.{name_at, before, Filled, Front, Found, Places, Orderly}
use Rattle.rules.specs.Engine.{Marked, kept, Ready, Settled}
use Rattle.rules.specs.Steps.{lends, Stepped, Worked, AllowedOn}
use Rattle.model.proofs.Offered.{allowed, judge_slots, works_memory, stores_nothing, none_sized, fit_not_1, fit_all, fit_sheet, fit_after, Named, live_lent, ordered, live_named, access_in_order, access_named, next_fits, order_after}
use Rattle.table.proofs.Offered.{length_in_lem, before_lent, before_suc, before_same, length_before, extend, Alike, places_more, found_zero, numbered, orderly_live, orderly_rise, orderly_standing, orderly_zeros}
use Rattle.rules.proofs.Laws.Settle.{kept_revoke}

-- a new row after the live ones
appended : (T : List Cap) (n k : ℕ) (c : Cap) → k < n → length T ≡ n → ((j : ℕ) → k ≤ j → j < n → get_or T j empty_row ≡ empty_row) → set T k c ≡ lent_table n (c ∷ before T k)
appended T n k c b l z =
    before_lent (set T k c) n (k + 1) (omega arith) (rw length-set l) (λ j m h. get_or-set_other T k j c empty_row (λ (e : j ≡ k). omega arith) ∙ z j (omega arith) h)
    ∙ ap (lent_table n) (before_suc (set T k c) k ∙ ap₂ {C = List Cap} (λ x xs. x ∷ xs) (get_or-set_same T k c empty_row (omega arith)) (before_same (set T k c) T k (λ j m. get_or-set_other T k j c empty_row (λ (e : j ≡ k). omega arith))))

pub appended_settled : (T : List Cap) (n k q : ℕ) (c : Cap) (places : List ℕ) → k < n → n ≤ 1024 → length T ≡ n → ((j : ℕ) → k ≤ j → j < n → get_or T j empty_row ≡ empty_row) → Filled T k → 0 < c.name.0
    → Found T k c.parent.0 q → Places T k places → Settled (set T k c) n (k + 1) (c ∷ before T k) (set places k q)
appended_settled T n k q c places b few l z f m g p = record {
  table = appended T n k c b l z;
  front = record {
    fits = omega arith;
    filled = extend (λ i. 0 < name_at (set T k c) i) k (λ i h. rw (same i h).0 (f i h)) (rw (ap (λ (d : Cap). d.name.0) new) m);
    stop = λ h. ap (λ (d : Cap). d.name.0) (get_or-set_other T k (k + 1) c empty_row (λ (e : k + 1 ≡ k). omega arith) ∙ z (k + 1) (omega arith) h);
  };
  placed = places_more T (set T k c) k q places (omega arith) same (subst (λ (x : ℕ). Found T k x q) (ap (λ (d : Cap). d.parent.0) (sym new)) g) p;
}
  where
    old : (j : ℕ) → j < k → get_or (set T k c) j empty_row ≡ get_or T j empty_row
    old j h = get_or-set_other T k j c empty_row (λ (e : j ≡ k). omega arith)

    same : Alike T (set T k c) k
    same j h = (ap (λ (d : Cap). d.name.0) (old j h), ap (λ (d : Cap). d.parent.0) (old j h))

    new : get_or (set T k c) k empty_row ≡ c
    new = get_or-set_same T k c empty_row (omega arith)

-- the marks of an access leave what the rules leave
pub kept_used : (sheet : Sheet) (marks : List ℕ) (T : List Cap) (k u : ℕ) (a : Access) (s : Span) → Marked T k marks (struck sheet is_end a (derivations (before T k)) u s) (struck sheet is_lower a (derivations (before T k)) u s)
    → kept marks T k ≡ after_access sheet a u s (before T k)
unfolding after_access
kept_used sheet marks T k u a s m = kept_revoke marks (struck sheet is_end a (derivations (before T k)) u s) (struck sheet is_lower a (derivations (before T k)) u s) T k m

module _ (ws : List (List ℕ)) (k issued : ℕ) (o : Orderly (rows_in ws) (length ws) k issued) where
  abbrev T : List Cap
  T = rows_in ws

  pub ready : Ready ws k
  ready = record { fits = o.front.fits; few = o.few; stands = orderly_standing T (length ws) k issued o; zeros = orderly_zeros T (length ws) k issued o }

  live_is : live_rows T ≡ before T k
  live_is = orderly_live T (length ws) k issued o

  pub room_create : (actor : ℕ) (w : Option Name) (s : Span) (r : Terms) → AllowedOn T issued (wk.Single actor (Create w s r)) [] → (sheet : Sheet) → length (after_access sheet Writing (issued + 1) s (before T k)) < length ws
  unfolding rows_after
  room_create actor w s r h sheet =
      rw (add-one issued)
      (omega (arith, next_fits sheet (view_of T h.bits unstored issued) (ordered T issued o.ordered) (Single (caller actor h.limits) (Create w s r)) h.judged, o.all, ap (λ (rows : List Cap). length (after_access sheet Writing (suc issued) s rows)) live_is))

  module _ (actor : ℕ) (w : Option Name) (u : Name) (s : Span) (r : Terms) (h : AllowedOn T issued (wk.Single actor (Borrow w u s r)) []) where
    abbrev borrowed : Request
    borrowed = Single (caller actor h.limits) (Borrow w u s r)

    pub room_borrow : k < length ws
    unfolding rows_after
    room_borrow = omega (arith, next_fits sheet6 (view_of T h.bits unstored issued) (ordered T issued o.ordered) borrowed h.judged, o.all, ap length live_is, length_before T k)

    pub there_borrow : any (named u.0) (before T k) ≡ true
    unfolding refusals
    there_borrow = rw live_is at (not-false (any (named u.0) (live_rows T)) (allowed (view_of T h.bits unstored issued) borrowed h.judged 5))

    pub depth_borrow : (lookup u.0 (before T k)).depth < 64
    unfolding refusals
    depth_borrow = leb-false 64 (lookup u.0 (before T k)).depth (rw live_is at (allowed (view_of T h.bits unstored issued) borrowed h.judged 8))

-- after an access through any name the table is in order, its live rows are those that are left, and they are no more than before
module _ (ws : List (List ℕ)) (k issued : ℕ) (o : Orderly (rows_in ws) (length ws) k issued) (sheet : Sheet) (a : Access) (u : ℕ) (s : Span) (ws' : List (List ℕ)) {r : ℕ} {places : List ℕ}
    (left : Settled (rows_in ws') (length ws) r (after_access sheet a u s (before (rows_in ws) k)) places) (long : length ws' ≡ length ws) where
  abbrev old : List Cap
  old = before (rows_in ws) k

  live_old : live_rows (rows_in ws) ≡ old
  live_old = orderly_live (rows_in ws) (length ws) k issued o

  access_orderly : Orderly (rows_in ws') (length ws') r issued
  access_orderly = record {
    few = rw long o.few;
    all = length_in_lem ws';
    front = rw long left.front;
    ordered =
        ap (λ (t : List Cap). in_order t issued) (left.table ∙ ap₂ (λ (m : ℕ) (rows : List Cap). lent_table m (after_access sheet a u s rows)) (sym o.all) (sym live_old))
        ∙ access_in_order sheet (view_of (rows_in ws) [] unstored issued) (ordered (rows_in ws) issued o.ordered) a u s;
  }

  pub access_rows : before (rows_in ws') r ≡ after_access sheet a u s old
  access_rows =
      sym (orderly_live (rows_in ws') (length ws') r issued access_orderly) ∙ ap live_rows left.table
      ∙ live_lent (length ws) (after_access sheet a u s old) (access_named sheet old (subst Named live_old (live_named (rows_in ws))) a u s)

  pub access_few : r ≡ length (after_access sheet a u s old)
  access_few = omega (arith, length_before (rows_in ws') r, ap length access_rows)

  pub access_ready : Ready ws' r
  access_ready = ready ws' r issued access_orderly

  -- and a root has no parent among them
  pub access_root : Found (rows_in ws') r 0 r
  access_root = found_zero (rows_in ws') r (orderly_rise (rows_in ws') (length ws') r issued access_orderly)

-- ---- the whole step

-- the limits of what is asked are those that are lent with it
module _ (P : Limits → Type 0) (limits : Limits) where
  pub with_limits : (work : Work) (names : List ℕ) → P limits → P (caller_of (work_of limits work names)).limits
  with_limits (wk.Single actor e) names h = h
  with_limits (wk.Group actor) names h = h

  pub without_limits : (work : Work) (names : List ℕ) → P (caller_of (work_of limits work names)).limits → P limits
  without_limits (wk.Single actor e) names h = h
  without_limits (wk.Group actor) names h = h

pub asked_limits : (P : Limits → Type 0) (limits : Limits) (asked : Asked) (names : List ℕ) → P limits → P (caller_of (request_of limits asked names)).limits
asked_limits P limits (ask.Work work) names h = with_limits P limits work names h
asked_limits P limits (ask.Mark actor k) names h = h
asked_limits P limits (ask.Back actor k) names h = h

settled_refused : (sheet : Sheet) (h : State) (req : Request) (j : ℕ) → (j ≡ 0 → ⊥) → (j ≡ 1 → ⊥)
    → ((outcome sheet j h req).memory ≡ h.memory) × ((outcome sheet j h req).slots ≡ h.slots) × ((outcome sheet j h req).tally ≡ count_refused h.tally)
settled_refused sheet h req zero a b = absurd (a refl)
settled_refused sheet h req (suc zero) a b = absurd (b refl)
settled_refused sheet h req (suc (suc j)) a b = (refl, refl, refl)

-- a request that gets this number
pub stepped_number : (sheet : Sheet) (ws : List (List ℕ)) (bs : List ℕ) (slots : List (Slot Memory)) (t : Tally) (req : Request) (j : ℕ) → judge (view_of (rows_in ws) bs slots t.issued) req ≡ j
    → (ws' : List (List ℕ)) (bs' : List ℕ) (slots' : List (Slot Memory)) (r : Outcome) → record { memory = record { table = rows_in ws'; bits = bs' }; tally = r.tally; slots = slots' } ≡ outcome sheet j (lends (rows_in ws) bs slots t) req
    → verdict_of r.answer ≡ verdict j (new_name t.issued req) → Stepped sheet ws bs slots t req ws' bs' slots' r
unfolding after answer
stepped_number sheet ws bs slots t req j e ws' bs' slots' r s a = record {
  table = rw e (ap (λ (h : State). h.memory.table) s);
  bits = rw e (ap (λ (h : State). h.memory.bits) s);
  stored = rw e (ap (λ (h : State). h.slots) s);
  tally = rw e (ap (λ (h : State). h.tally) s);
  answer = rw e a;
}

module _ (sheet : Sheet) (ws : List (List ℕ)) (bs : List ℕ) (slots : List (Slot Memory)) (t : Tally) (req : Request) where
  abbrev seen : View
  seen = view_of (rows_in ws) bs slots t.issued

  abbrev judged : ℕ
  judged = judge seen req

  -- a table out of order, another number of bytes or slots, or limits that are refused
  pub stepped_unfit : unfit (caller_of req).limits seen ≡ true → (r : Outcome) → r.tally ≡ t → verdict_of r.answer ≡ record { refusal = 1; name = 0 } → Stepped sheet ws bs slots t req ws bs slots r
  unfolding judge refusals
  stepped_unfit h r y a = stepped_number sheet ws bs slots t req 1 (rw (h, or-true)) ws bs slots r (ap (lends (rows_in ws) bs slots) y) a

  pub allowed_zero : (x : Name) → verdict_of (Ok x) ≡ verdict judged (new_name t.issued req) → judged ≡ 0
  allowed_zero x q = sym (ap (λ (r : Verdict). r.refusal) q)

  module _ (k : ℕ) (o : Orderly (rows_in ws) (length ws) k t.issued) where
    -- allowed work
    pub stepped_allowed : turns_state req ≡ false → (ws' : List (List ℕ)) (bs' : List ℕ) (y : Tally) (x : Name) → verdict_of (Ok x) ≡ verdict judged (new_name t.issued req)
        → rows_in ws' ≡ lent_table (length ws) (rows_after sheet t.issued (before (rows_in ws) k) req) → bs' ≡ bits_after bs req → y ≡ count_allowed req t → Stepped sheet ws bs slots t req ws' bs' slots (record { tally = y; answer = Ok x })
    unfolding after answer
    stepped_allowed w ws' bs' y x q h b c = record {
      table = h ∙ rw zero_is (ap₂ (λ (m : ℕ) (rows : List Cap). lent_table m (rows_after sheet t.issued rows req)) (sym o.all) (sym (live_is ws k t.issued o)) ∙ ap (λ (m : Memory). m.table) works);
      bits = b ∙ rw zero_is (ap (λ (m : Memory). m.bits) works);
      stored = rw zero_is (sym (stores_nothing (lends (rows_in ws) bs slots t).memory slots req w));
      tally = c ∙ rw zero_is;
      answer = q;
    }
      where
        zero_is : judged ≡ 0
        zero_is = allowed_zero x q

        works : worked sheet t.issued (lends (rows_in ws) bs slots t).memory req ≡ memory_after sheet (lends (rows_in ws) bs slots t) req
        works = sym (works_memory sheet (lends (rows_in ws) bs slots t) req w)

    -- what is refused, but not for what is stored
    pub stepped_refused : unfit (caller_of req).limits seen ≡ false → unfit_stored seen req ≡ false → (y : Tally) (x : Refusal) → verdict_of (Err x) ≡ verdict judged (new_name t.issued req) → y ≡ count_refused t
        → Stepped sheet ws bs slots t req ws bs slots (record { tally = y; answer = Err x })
    unfolding after answer
    stepped_refused f u y x q c = record {
      table = ap (λ (m : Memory). m.table) (sym left.0);
      bits = ap (λ (m : Memory). m.bits) (sym left.0);
      stored = sym left.1;
      tally = c ∙ sym left.2;
      answer = q;
    }
      where
        h : State
        h = lends (rows_in ws) bs slots t

        is : judged ≡ number x
        is = sym (ap (λ (r : Verdict). r.refusal) q)

        left : ((outcome sheet judged (lends (rows_in ws) bs slots t) req).memory ≡ (lends (rows_in ws) bs slots t).memory) × ((outcome sheet judged (lends (rows_in ws) bs slots t) req).slots ≡ slots) × ((outcome sheet judged (lends (rows_in ws) bs slots t) req).tally ≡ count_refused t)
        left = settled_refused sheet (lends (rows_in ws) bs slots t) req judged (λ z. eqb-false (number x) 0 (numbered x) (sym is ∙ z)) (fit_not_1 seen req u f)

pub all_fit : (ws : List (List ℕ)) (bs : List ℕ) (slots : List (Slot Memory)) (t : Tally) (limits : Limits) (k : ℕ) → Orderly (rows_in ws) (length ws) k t.issued → Sized bs → length slots ≡ 8 → refused_sheet (rows_in ws) limits ≡ false
    → unfit limits (view_of (rows_in ws) bs slots t.issued) ≡ false
all_fit ws bs slots t limits k o b e l = fit_all limits (view_of (rows_in ws) bs slots t.issued) o.ordered l b e

-- ---- what is stored is no matter for work

outcome_slots : (sheet : Sheet) (rows : List Cap) (bs : List ℕ) (s s' : List (Slot Memory)) (t : Tally) (req : Request) (j : ℕ) → turns_state req ≡ false
    → ((outcome sheet j (lends rows bs s t) req).memory ≡ (outcome sheet j (lends rows bs s' t) req).memory) × ((outcome sheet j (lends rows bs s t) req).tally ≡ (outcome sheet j (lends rows bs s' t) req).tally) × (s' ≡ (outcome sheet j (lends rows bs s' t) req).slots)
outcome_slots sheet rows bs s s' t req zero w = (works_memory sheet (lends rows bs s t) req w ∙ sym (works_memory sheet (lends rows bs s' t) req w), refl, sym (stores_nothing (lends rows bs s' t).memory s' req w))
outcome_slots sheet rows bs s s' t req (suc zero) w = (refl, refl, refl)
outcome_slots sheet rows bs s s' t req (suc (suc j)) w = (refl, refl, refl)

pub worked_stepped : (sheet : Sheet) (ws : List (List ℕ)) (bs : List ℕ) (slots : List (Slot Memory)) (t : Tally) (req : Request) (ws' : List (List ℕ)) (bs' : List ℕ) (r : Outcome) → turns_state req ≡ false → length slots ≡ 8
    → Worked sheet ws bs t req ws' bs' r → Stepped sheet ws bs slots t req ws' bs' slots r
unfolding after answer
worked_stepped sheet ws bs slots t req ws' bs' r w e s = record {
  table = s.table ∙ ap (λ (m : Memory). m.table) o.0 ∙ ap (λ (j : ℕ). (outcome sheet j h req).memory.table) same;
  bits = s.bits ∙ ap (λ (m : Memory). m.bits) o.0 ∙ ap (λ (j : ℕ). (outcome sheet j h req).memory.bits) same;
  stored = o.2 ∙ ap (λ (j : ℕ). (outcome sheet j h req).slots) same;
  tally = s.tally ∙ o.1 ∙ ap (λ (j : ℕ). (outcome sheet j h req).tally) same;
  answer = s.answer ∙ ap (λ (j : ℕ). verdict j (new_name t.issued req)) same;
}
  where
    h : State
    h = lends (rows_in ws) bs slots t

    same : judge (view_of (rows_in ws) bs unstored t.issued) req ≡ judge (view_of (rows_in ws) bs slots t.issued) req
    same = judge_slots (rows_in ws) bs unstored slots t.issued req w (sym e)

    o : ((outcome sheet (judge (view_of (rows_in ws) bs unstored t.issued) req) (lends (rows_in ws) bs unstored t) req).memory ≡ (outcome sheet (judge (view_of (rows_in ws) bs unstored t.issued) req) h req).memory)
        × ((outcome sheet (judge (view_of (rows_in ws) bs unstored t.issued) req) (lends (rows_in ws) bs unstored t) req).tally ≡ (outcome sheet (judge (view_of (rows_in ws) bs unstored t.issued) req) h req).tally)
        × (slots ≡ (outcome sheet (judge (view_of (rows_in ws) bs unstored t.issued) req) h req).slots)
    o = outcome_slots sheet (rows_in ws) bs unstored slots t req (judge (view_of (rows_in ws) bs unstored t.issued) req) w

-- work turns no state
pub is_work : (limits : Limits) (work : Work) (names : List ℕ) → turns_state (work_of limits work names) ≡ false
is_work limits (wk.Single actor e) names = refl
is_work limits (wk.Group actor) names = refl

-- the table is in order after it too, and what is fit stays fit
module _ (sheet : Sheet) (ws : List (List ℕ)) (bs : List ℕ) (t : Tally) (req : Request) (ws' : List (List ℕ)) (bs' : List ℕ) (r : Outcome) (s : Worked sheet ws bs t req ws' bs' r) where
  pub orderly_after : (k live : ℕ) → length ws' ≡ length ws → Orderly (rows_in ws) (length ws) k t.issued → Front (rows_in ws') (length ws) live → Orderly (rows_in ws') (length ws') live r.tally.issued
  orderly_after k live long o f = record {
    few = rw long o.few;
    all = length_in_lem ws';
    front = rw long f;
    ordered =
        ap₂ (λ (rows : List Cap) (y : Tally). in_order rows y.issued) s.table s.tally
        ∙ order_after sheet (lends (rows_in ws) bs unstored t) req o.ordered;
  }

  pub allowed_after : unfit (caller_of req).limits (view_of (rows_in ws) bs unstored t.issued) ≡ false → refused_sheet (rows_in ws') (caller_of req).limits ≡ false
  allowed_after f =
      ap (λ (rows : List Cap). refused_sheet rows (caller_of req).limits) s.table
      ∙ fit_sheet (caller_of req).limits (view (after sheet (lends (rows_in ws) bs unstored t) req)) (fit_after sheet (lends (rows_in ws) bs unstored t) req none_sized f)

-- ---- the rows after an event

module _ (sheet : Sheet) (issued : ℕ) (rows : List Cap) (by : Caller) where
  pub next_create : (w : Option Name) (s : Span) (r : Terms) (c : Cap) → c ≡ row (record { name = issued + 1; parent = 0; span = s; kind = 0; fresh = r.fresh; maker = by.actor; holders = r.holders }) r.right 1 → c ∷ after_access sheet Writing (issued + 1) s rows ≡ rows_after sheet issued rows (Single by (Create w s r))
  unfolding rows_after
  next_create w s r c e = rw (e, add-one)

  -- the parent's row gives the depth and the mark
  pub next_borrow : (w : Option Name) (u : Name) (s : Span) (r : Terms) (p c : Cap) → p ≡ lookup u.0 rows → c ≡ row (record { name = issued + 1; parent = u.0; span = s; kind = r.kind; fresh = p.fresh; maker = by.actor; holders = r.holders }) r.right (p.depth + 1) → c ∷ rows ≡ rows_after sheet issued rows (Single by (Borrow w u s r))
  unfolding rows_after
  next_borrow w u s r p c f e = rw (e, f, add-one issued, add-one)

  pub next_read : (u : Name) (s : Span) → after_access sheet Reading u.0 s rows ≡ rows_after sheet issued rows (Single by (Read u s))
  unfolding rows_after
  next_read u s = refl

  pub next_write : (u : Name) (s : Span) → after_access sheet Writing u.0 s rows ≡ rows_after sheet issued rows (Single by (Write u s))
  unfolding rows_after
  next_write u s = refl

  pub next_drop : (u : Name) → rows_without (u.0 ∷ []) rows ≡ rows_after sheet issued rows (Single by (Drop u))
  unfolding rows_after
  next_drop u = refl

-- ---- what is asked

-- bits and counts do not go by who asks
pub bits_by : (bits : List ℕ) (e : Event) (by other : Caller) → bits_after bits (Single by e) ≡ bits_after bits (Single other e)
unfolding bits_after
bits_by bits (Create w s r) by other = refl
bits_by bits (Borrow w u s r) by other = refl
bits_by bits (Read u s) by other = refl
bits_by bits (Write u s) by other = refl
bits_by bits (Drop u) by other = refl

pub count_by : (e : Event) (t : Tally) (by other : Caller) → count_allowed (Single by e) t ≡ count_allowed (Single other e) t
count_by (Create w s r) t by other = refl
count_by (Borrow w u s r) t by other = refl
count_by (Read u s) t by other = refl
count_by (Write u s) t by other = refl
count_by (Drop u) t by other = refl

-- the limits decide nothing once it is allowed, and of names dropped together only the rows know which they are
module _ (limits : Limits) (names : List ℕ) where
  pub same_rows : (sheet : Sheet) (issued : ℕ) (rows : List Cap) (work : Work) → rows_after sheet issued rows (work_of Unlimited work names) ≡ rows_after sheet issued rows (work_of limits work names)
  unfolding rows_after
  same_rows sheet issued rows (wk.Single actor (Create w s r)) = refl
  same_rows sheet issued rows (wk.Single actor (Borrow w u s r)) = refl
  same_rows sheet issued rows (wk.Single actor (Read u s)) = refl
  same_rows sheet issued rows (wk.Single actor (Write u s)) = refl
  same_rows sheet issued rows (wk.Single actor (Drop u)) = refl
  same_rows sheet issued rows (wk.Group actor) = refl

  pub same_bits : (bits : List ℕ) (work : Work) → bits_after bits (work_of Unlimited work []) ≡ bits_after bits (work_of limits work names)
  unfolding bits_after
  same_bits bits (wk.Single actor e) = bits_by bits e (caller actor Unlimited) (caller actor limits)
  same_bits bits (wk.Group actor) = refl

  pub counted : (work : Work) (t : Tally) → count_allowed (work_of Unlimited work []) t ≡ count_allowed (work_of limits work names) t
  counted (wk.Single actor e) t = count_by e t (caller actor Unlimited) (caller actor limits)
  counted (wk.Group actor) t = refl
