-- Card 8: how far one read reaches. With the read, some rights are lowered; and rows of which some are lowered go on like the others, as
-- long as every request is allowed of the lowered ones.
-- Assumes nothing.
use mathlib.Core.Path.{◌≡◌, refl, sym, ap, ap₂, ◌∙◌}
use mathlib.Core.Logic.{◌⊎◌, inl, inr}
use mathlib.Core.Bool.{Bool, true, false, not, cond, ◌&&◌, ◌||◌}
use mathlib.Core.List.{List, [], ◌∷◌, ◌++◌, map, map-map}
use Prim.Native.Nat.{ℕ, zero, suc, ◌≤◌, ◌<◌}
use native.Mathlib.Omega.{arith}
use lib.Dec.{eqb, ltb}
use lib.ListN.{length, get_or, get_or-map}
use borrow.Author.Tests.{eqb-true, not-true}
use Rattle.model.specs.declared.Name.{Name}
use Rattle.model.specs.declared.Span.{Span}
use Rattle.model.specs.declared.Cap.{Cap}
use Rattle.model.specs.declared.Event.TheVariants.{Create, Borrow, Read, Write, Drop}
use Rattle.model.specs.declared.Access.TheVariants.{Reading}
use Rattle.model.specs.declared.Effect.{Effect}
use Rattle.model.specs.declared.Effect.TheVariants.{Keep, Lower, End}
use Rattle.model.specs.declared.Origin.TheVariants.{Cell, Kin, Stranger}
use Rattle.model.specs.declared.Sheet.{Sheet}
use Rattle.model.specs.declared.Tally.{Tally}
use Rattle.model.specs.Lists.{cons_if, any, all, without, answers, final}
use Rattle.model.specs.Requests.{Caller, Request, Single, Group, Mark, Back, turns_state}
use Rattle.model.specs.Values.{touches}
use Rattle.model.specs.Derivation.{Derivation, ancestry, in_subtree, on_ancestry}
use Rattle.model.specs.Strike.{is_lower, is_end, result_of, origin, strike, reached, struck}
use Rattle.model.specs.Sheet6.{sheet6}
use Rattle.model.specs.Table.{row, empty_row, derivation, derivations, named, live_rows, is_right, in_order}
use Rattle.model.specs.Refusals.{view_of, judge}
use Rattle.model.specs.Effects.{lowered, revoke, after_access, rows_after}
use Rattle.model.specs.Bits.{bits_after}
use Rattle.model.specs.Counts.{count_up, count_read, count_allowed}
use Rattle.model.specs.Step.{Verdict, State, view, is_allowed, answer, after, initial, state_after}
use Rattle.model.specs.History.{history_after}
use Rattle.model.specs.History
use Rattle.model.specs.Traces.{mild_sheet}
use Rattle.model.specs.Given.{names_in, given}
use Rattle.model.specs.ReadRemoved.{NoReadEnds, NoStates, is_strike, lives_in, read_strikes, rightless, OnlyRights, ReadRemoved, Thinner, whole, one_fewer, ReadsRemoved}
use Rattle.model.proofs.Lists.{All_of, test, clash, cond_same, unless, and_both, or_neither, all_append, final_append, answers_append, filter_all}
use Rattle.model.proofs.Ancestries.{Falling, ancestry_zero, ancestry_above, ancestry_past}
use Rattle.model.proofs.Notes.{taken_cong}
use Rattle.model.proofs.Judged.{in_order_lem, counted_issued, works_memory, stores_nothing}
use Rattle.model.proofs.Match.{count_raised}
use Rattle.model.proofs.Order.{rows_in_order_falling, live_named, ordered, order_after}
use Rattle.model.proofs.Lowered.{lower, allowed_lower, after_lower, rights_table, lowered_right}
use Rattle.model.proofs.Rows.{table_changed}
use Rattle.model.proofs.Demand3.{demand3}

-- ---- two runs

-- a read and another request count in either order alike
counts_commute : (q : Request) (t : Tally) → count_allowed q (count_read t) ≡ count_read (count_allowed q t)
counts_commute (Single by (Create w v r)) t = refl
counts_commute (Single by (Borrow w x v r)) t = refl
counts_commute (Single by (Read x v)) t = refl
counts_commute (Single by (Write x v)) t = refl
counts_commute (Single by (Drop x)) t = refl
counts_commute (Group by names) t = refl
counts_commute (Mark by k) t = refl
counts_commute (Back by k) t = refl

module _ (hit : ℕ → Bool) where
  -- The second has the table of the first, lowered where `hit` says, and one read more. No empty row is hit, and no name given out later.
  record Below (h l : State) : Type 0 where
    pub ordered_table : in_order h.memory.table h.tally.issued ≡ true
    pub same_bits : l.memory.bits ≡ h.memory.bits
    pub same_slots : l.slots ≡ h.slots
    pub lower_table : l.memory.table ≡ map (lower hit) h.memory.table
    pub one_read_more : l.tally ≡ count_read h.tally
    pub zero_kept : hit 0 ≡ false
    pub later_kept : (x : ℕ) → h.tally.issued < x → hit x ≡ false

  module _ (sheet : Sheet) (h l : State) (b : Below h l) (q : Request) (s : turns_state q ≡ false) (z : judge (view l) q ≡ 0) where
    same_issued : l.tally.issued ≡ h.tally.issued
    same_issued = ap (λ t. t.issued) b.one_read_more

    also_allowed : judge (view h) q ≡ 0
    also_allowed =
        allowed_lower hit h.memory.table h.memory.bits h.slots h.tally.issued q s b.ordered_table
        (ap₂ (λ bits slots. judge (view_of (map (lower hit) h.memory.table) bits slots h.tally.issued) q) (sym b.same_bits) (sym b.same_slots)
        ∙ ap₂ (λ t i. judge (view_of t l.memory.bits l.slots i) q) (sym b.lower_table) (sym same_issued) ∙ z)

    same_answer : answer h q ≡ answer l q
    unfolding answer
    same_answer = rw (also_allowed, z, same_issued)

    below_after : Below (after sheet h q) (after sheet l q)
    unfolding after
    below_after =
        record {
          ordered_table = order_after sheet h q b.ordered_table;
          same_bits = rw (also_allowed, z, works_memory sheet h q s, works_memory sheet l q s) (ap (λ bits. bits_after bits q) b.same_bits);
          same_slots = rw (also_allowed, z) (stores_nothing l.memory l.slots q s ∙ b.same_slots ∙ sym (stores_nothing h.memory h.slots q s));
          lower_table = rw (also_allowed, z, works_memory sheet h q s, works_memory sheet l q s, b.lower_table, same_issued) (after_lower hit h.memory.table h.tally.issued q b.zero_kept (b.later_kept (suc h.tally.issued) (omega arith)) sheet);
          one_read_more = rw (also_allowed, z) (ap (count_allowed q) b.one_read_more ∙ counts_commute q h.tally);
          zero_kept = b.zero_kept;
          later_kept = rw also_allowed (λ x later. b.later_kept x (omega (arith, counted_issued q h.tally, count_raised h.tally.issued q)));
        }

  -- while the second allows every request, the first answers alike
  alike : (sheet : Sheet) (qs : List Request) (h l : State) → Below h l → NoStates qs → all is_allowed (answers (after sheet) answer l qs) ≡ true
      → (answers (after sheet) answer h qs ≡ answers (after sheet) answer l qs) × Below (final (after sheet) h qs) (final (after sheet) l qs)
  unfolding answer
  alike sheet [] h l b s a = (refl, b)
  alike sheet (q ∷ qs) h l b s a =
      let p = and_both (is_allowed (answer l q)) (all is_allowed (answers (after sheet) answer (after sheet l q) qs)) a in
      let z : judge (view l) q ≡ 0 = eqb-true (judge (view l) q) 0 p.0 in
      let u = and_both (not (turns_state q)) (all (λ q. not (turns_state q)) qs) s in
      let t = not-true (turns_state q) u.0 in
      let r = alike sheet qs (after sheet h q) (after sheet l q) (below_after sheet h l b q t z) u.1 p.1 in
      (ap₂ {C = List Verdict} (λ x xs. x ∷ xs) (same_answer sheet h l b q t z) r.0, r.1)

-- ---- the read

module _ (sheet : Sheet) (none_end : NoReadEnds sheet) (s : Span) (user : List Derivation) where
  nothing_ends : (x : List Derivation) → reached sheet is_end Reading s user x ≡ false
  unfolding reached on_ancestry strike
  nothing_ends [] = refl
  nothing_ends (d ∷ above) = rw (go (touches s d.span && not (in_subtree d.name user)) (result_of sheet d.kind Reading (origin user d above)) (none_end d.kind (origin user d above))) (nothing_ends above)
    where
      go : (b : Bool) (e : Effect) → is_end e ≡ false → is_end (cond b e Keep) ≡ false
      go true e h = h
      go false e h = refl

  -- a strike lowers
  strikes_lower : (x : List Derivation) → reached sheet is_strike Reading s user x ≡ reached sheet is_lower Reading s user x
  unfolding reached on_ancestry strike
  strikes_lower [] = refl
  strikes_lower (d ∷ above) = ap₂ (λ a b. a || b) (go (touches s d.span && not (in_subtree d.name user)) (result_of sheet d.kind Reading (origin user d above)) (none_end d.kind (origin user d above))) (strikes_lower above)
    where
      go : (b : Bool) (e : Effect) → is_end e ≡ false → is_strike (cond b e Keep) ≡ is_lower (cond b e Keep)
      go true Keep h = refl
      go true Lower h = refl
      go true End h = clash refl h
      go false e h = refl

-- a name that is not among the rows has no ancestry
absent : (x : ℕ) (rows : List Cap) → any (named x) rows ≡ false → ancestry (derivations rows) x ≡ []
unfolding ancestry
absent x [] e = refl
absent x (c ∷ rows) e = let p = or_neither (named x c) (any (named x) rows) e in ancestry_past (derivation c) (derivations rows) x p.0 ∙ absent x rows p.1

module _ (sheet : Sheet) (h : State) (u : Name) (s : Span) where
  -- what has no ancestry is not struck
  unstruck : (x : ℕ) → ancestry (derivations (live_rows h.memory.table)) x ≡ [] → read_strikes sheet h u s x ≡ false
  unfolding struck reached on_ancestry
  unstruck x e = rw e

  struck_lives : (x : ℕ) → read_strikes sheet h u s x ≡ true → lives_in h x ≡ true
  struck_lives x t = go (test (lives_in h x))
    where
      go : (lives_in h x ≡ true) ⊎ (lives_in h x ≡ false) → lives_in h x ≡ true
      go (inl e) = e
      go (inr e) = clash t (unstruck x (absent x (live_rows h.memory.table) e))

  module _ (by : Caller) (none_end : NoReadEnds sheet) (z : judge (view h) (Single by (Read u s)) ≡ 0) where
    orderly : in_order h.memory.table h.tally.issued ≡ true
    orderly = in_order_lem (view h) (Single by (Read u s)) z

    falls : Falling (suc h.tally.issued) (derivations (live_rows h.memory.table))
    falls = rows_in_order_falling (suc h.tally.issued) (live_rows h.memory.table) (live_named h.memory.table) (ordered h.memory.table h.tally.issued orderly).rise

    read_lowers : (rows : List Cap) → rows ≡ live_rows h.memory.table → after_access sheet Reading u.0 s rows ≡ map (lower (read_strikes sheet h u s)) rows
    unfolding after_access revoke struck
    read_lowers rows e =
        let user : List Derivation = ancestry (derivations (live_rows h.memory.table)) u.0 in
        rw e
        (taken_cong _ _ (λ x. false) (read_strikes sheet h u s) (live_rows h.memory.table)
        (All_of _ (λ c. (nothing_ends sheet none_end s user (ancestry (derivations (live_rows h.memory.table)) c.name.0), sym (strikes_lower sheet none_end s user (ancestry (derivations (live_rows h.memory.table)) c.name.0)))) (live_rows h.memory.table))
        ∙ ap (map (lower (read_strikes sheet h u s))) (filter_all (λ c. true) (live_rows h.memory.table) (All_of _ (λ c. refl) (live_rows h.memory.table))))

    below_read : Below (read_strikes sheet h u s) h (after sheet h (Single by (Read u s)))
    unfolding after rows_after bits_after
    below_read =
        let zero_unstruck = unstruck 0 (ancestry_zero (suc h.tally.issued) (derivations (live_rows h.memory.table)) falls) in
        record {
          ordered_table = orderly;
          same_bits = rw z;
          same_slots = rw z;
          lower_table =
              rw (z, read_lowers (live_rows h.memory.table) refl)
              (table_changed h.memory.table (ordered h.memory.table h.tally.issued orderly).rest_is_empty (lower (read_strikes sheet h u s)) (ap (λ b. lowered b empty_row) zero_unstruck));
          one_read_more = rw z;
          zero_kept = zero_unstruck;
          later_kept = λ x later. unstruck x (ancestry_above (suc h.tally.issued) x (derivations (live_rows h.memory.table)) falls (omega arith));
        }

-- ---- card 8

-- what is lent at the read; then, at the end, with the read and without it
module _ (sheet : Sheet) (here : State) (u : Name) (s : Span) (l h : State) (b : Below (read_strikes sheet here u s) h l) where
  abbrev strikes : ℕ → Bool
  strikes = read_strikes sheet here u s

  rights : OnlyRights sheet here u s l h
  rights =
      record {
        only_rights = ap (map rightless) b.lower_table ∙ map-map rightless (lower strikes) h.memory.table;
        rights_differ = differ;
        exactly = b.lower_table;
        same_bits = b.same_bits;
        same_slots = b.same_slots;
        one_read_more = b.one_read_more;
        unless_full = λ few. let e : l.tally.reads ≡ count_up h.tally.reads = ap (λ t. t.reads) b.one_read_more in omega (arith);
      }
    where
      differ : (k : ℕ) → let c : Cap = get_or l.memory.table k empty_row in let d : Cap = get_or h.memory.table k empty_row in
          (d.right ≡ c.right) ⊎ ((lives_in here d.name.0 ≡ true) × (strikes d.name.0 ≡ true) × (d.right ≡ 2) × (c.right ≡ 1))
      differ k = rw placed (go (lowered_right (strikes d.name.0) d known))
        where
          d : Cap
          d = get_or h.memory.table k empty_row

          placed : get_or l.memory.table k empty_row ≡ lower strikes d
          placed =
              ap (λ t. get_or t k empty_row) b.lower_table
              ∙ ap (get_or (map (lower strikes) h.memory.table) k) (sym (ap (λ b. lowered b empty_row) b.zero_kept))
              ∙ get_or-map (lower strikes) h.memory.table k empty_row

          known : strikes d.name.0 ≡ true → is_right d.right ≡ true
          known t = rights_table h.memory.table h.tally.issued b.ordered_table k
              (ap not (unless (named 0 d) (λ e. clash t (ap strikes (sym (eqb-true 0 d.name.0 e)) ∙ b.zero_kept))))

          go : (d.right ≡ (lower strikes d).right) ⊎ ((strikes d.name.0 ≡ true) × (d.right ≡ 2) × ((lower strikes d).right ≡ 1))
              → (d.right ≡ (lower strikes d).right) ⊎ ((lives_in here d.name.0 ≡ true) × (strikes d.name.0 ≡ true) × (d.right ≡ 2) × ((lower strikes d).right ≡ 1))
          go (inl e) = inl e
          go (inr e) = inr (struck_lives sheet here u s d.name.0 e.0, e.0, e.1, e.2)

-- a row has its right, and nothing else that `rightless` leaves out
right_alone : (a b : Cap) → rightless a ≡ rightless b → a.right ≡ b.right → a ≡ b
right_alone a b same right = λ i. row (derivation (same i)) (right i) (same i).depth

-- the answers but for the one at a request
answers_without : (sheet : Sheet) (before : List Request) (h : State) (q : Request) (later : List Request)
    → without (length before) (answers (after sheet) answer h (before ++ (q ∷ later))) ≡ answers (after sheet) answer h before ++ answers (after sheet) answer (after sheet (final (after sheet) h before) q) later
answers_without sheet [] h q later = refl
answers_without sheet (p ∷ before) h q later = ap {B = List Verdict} (λ l. answer h p ∷ l) (answers_without sheet before (after sheet h p) q later)

-- "if one read is removed from a trace whose every event is allowed"
pub read_removed : (sheet : Sheet) → NoReadEnds sheet → (lent : State) (before : List Request) (by : Caller) (u : Name) (s : Span) (later : List Request) → NoStates later
    → all is_allowed (answers (after sheet) answer lent (before ++ (Single by (Read u s) ∷ later))) ≡ true → ReadRemoved sheet lent before by u s later
unfolding answer
read_removed sheet none_end lent before by u s later n a =
    record {
      all_allowed_lem =
          rw (answers_append (after sheet) answer lent before later, all_append is_allowed (answers (after sheet) answer lent before) (answers (after sheet) answer here later), p.0)
          (ap (all is_allowed) runs.0 ∙ q.1);
      same_answers_lem =
          answers_append (after sheet) answer lent before later ∙ ap (λ l. answers (after sheet) answer lent before ++ l) runs.0
          ∙ sym (answers_without sheet before lent (Single by (Read u s)) later);
      rights = rw (final_append (after sheet) lent before (Single by (Read u s) ∷ later), final_append (after sheet) lent before later)
          (rights sheet here u s (final (after sheet) (after sheet here (Single by (Read u s))) later) (final (after sheet) here later) runs.1);
    }
  where
    here : State
    here = final (after sheet) lent before

    p : (all is_allowed (answers (after sheet) answer lent before) ≡ true) × (all is_allowed (answers (after sheet) answer here (Single by (Read u s) ∷ later)) ≡ true)
    p =
        and_both (all is_allowed (answers (after sheet) answer lent before)) (all is_allowed (answers (after sheet) answer here (Single by (Read u s) ∷ later)))
        (rw (answers_append (after sheet) answer lent before (Single by (Read u s) ∷ later), all_append is_allowed (answers (after sheet) answer lent before) (answers (after sheet) answer here (Single by (Read u s) ∷ later))) at a)

    q : (is_allowed (answer here (Single by (Read u s))) ≡ true) × (all is_allowed (answers (after sheet) answer (after sheet here (Single by (Read u s))) later) ≡ true)
    q = and_both (is_allowed (answer here (Single by (Read u s)))) (all is_allowed (answers (after sheet) answer (after sheet here (Single by (Read u s))) later)) p.1

    z : judge (view here) (Single by (Read u s)) ≡ 0
    z = eqb-true (judge (view here) (Single by (Read u s))) 0 q.0

    runs : (answers (after sheet) answer here later ≡ answers (after sheet) answer (after sheet here (Single by (Read u s))) later)
        × Below (read_strikes sheet here u s) (final (after sheet) here later) (final (after sheet) (after sheet here (Single by (Read u s))) later)
    runs = alike (read_strikes sheet here u s) sheet later here (after sheet here (Single by (Read u s))) (below_read sheet here u s by none_end z) n q.1

-- ---- several reads

-- a read gives no name
read_unnamed : (sheet : Sheet) (before : List Request) (h : State) (by : Caller) (u : Name) (s : Span) (later : List Request)
    → names_in (without (length before) (answers (after sheet) answer h (before ++ (Single by (Read u s) ∷ later)))) ≡ given sheet h (before ++ (Single by (Read u s) ∷ later))
unfolding answer given
read_unnamed sheet [] h by u s later = rw (cond_same {A = ℕ} (eqb (judge (view h) (Single by (Read u s))) 0) 0)
read_unnamed sheet (q ∷ before) h by u s later = ap (λ l. cons_if (ltb 0 (answer h q).name) (answer h q).name l) (read_unnamed sheet before (after sheet h q) by u s later)

pub reads_removed : (sheet : Sheet) → NoReadEnds sheet → (lent : State) {qs thinner : List Request} → Thinner qs thinner → all is_allowed (answers (after sheet) answer lent qs) ≡ true → ReadsRemoved sheet lent qs thinner
unfolding given
reads_removed sheet none_end lent (whole qs) a = record { all_allowed_lem = a; same_names = refl; only_rights = refl; none_lower = λ k. omega arith }
reads_removed sheet none_end lent (one_fewer before by u s later n t) a =
    let more = reads_removed sheet none_end lent t a in
    let one = read_removed sheet none_end lent before by u s later n more.all_allowed_lem in
    record {
      all_allowed_lem = one.all_allowed_lem;
      same_names = ap names_in one.same_answers_lem ∙ read_unnamed sheet before lent by u s later ∙ more.same_names;
      only_rights = more.only_rights ∙ one.rights.only_rights;
      none_lower = λ k. omega (arith, more.none_lower k, no_lower (one.rights.rights_differ k));
    }
  where
    no_lower : {A B : Type 0} {c d : ℕ} → (d ≡ c) ⊎ (A × B × (d ≡ 2) × (c ≡ 1)) → c ≤ d
    no_lower (inl e) = omega arith
    no_lower (inr e) = omega (arith, e.2, e.3)

-- ---- the history

-- The history tells the same of a trace, which begins with n rows, all zeros: by demand 3 its table is the lent one.
pub history_removed : (sheet : Sheet) → NoReadEnds sheet → (n : ℕ) (t : Tally) → t.issued ≡ 0 → (before : List Request) (by : Caller) (u : Name) (s : Span) (later : List Request) → NoStates later
    → all is_allowed (answers (after sheet) answer (initial n t) (before ++ (Single by (Read u s) ∷ later))) ≡ true
    → History.table sheet n (history_after sheet n (before ++ (Single by (Read u s) ∷ later))).notes
    ≡ map (λ c. lowered (read_strikes sheet (state_after sheet n t before) u s c.name.0) c) (History.table sheet n (history_after sheet n (before ++ later)).notes)
history_removed sheet none_end n t z before by u s later none a =
    sym (demand3 sheet n t z (before ++ (Single by (Read u s) ∷ later))).same_table
    ∙ (read_removed sheet none_end (initial n t) before by u s later none a).rights.exactly
    ∙ ap (map (λ c. lowered (read_strikes sheet (state_after sheet n t before) u s c.name.0) c)) (demand3 sheet n t z (before ++ later)).same_table

-- By card 6's sheet no read ends anything; by that of card 7's traces one does.
pub no_read_ends : NoReadEnds sheet6
no_read_ends zero Cell = refl
no_read_ends zero Kin = refl
no_read_ends zero Stranger = refl
no_read_ends (suc zero) Cell = refl
no_read_ends (suc zero) Kin = refl
no_read_ends (suc zero) Stranger = refl
no_read_ends (suc (suc kind)) Cell = refl
no_read_ends (suc (suc kind)) Kin = refl
no_read_ends (suc (suc kind)) Stranger = refl

some_read_ends : NoReadEnds mild_sheet → ⊥
some_read_ends none_end = clash refl (none_end 0 Cell)
