-- One event, without limits, on tables of n and of m rows with the same live rows: what is allowed on m rows is allowed on n where n is
-- enough for it, and then leaves the same live rows; where n is too small for it, it is refused 10. By any sheet.
-- Assumes nothing.
use mathlib.Core.Path.{◌≡◌, refl, sym, ap, ◌∙◌}
use mathlib.Core.Bool.{Bool, true, false, not}
use mathlib.Core.List.{List, [], ◌∷◌, map}
use Prim.Native.Nat.{ℕ, suc, ◌≤◌, ◌<◌}
use native.Mathlib.Omega.{arith}
use lib.Dec.{leb, ltb}
use lib.ListN.{length, get_or, replicate, length-replicate}
use native.Mathlib.Nat.{sub-zero}
use borrow.Author.Tests.{ne_eqb, le-leb, lt-leb}
use Rattle.model.specs.declared.Cap.{Cap}
use Rattle.model.specs.declared.Tally.{Tally}
use Rattle.model.specs.declared.Sheet.{Sheet}
use Rattle.model.specs.declared.Event.{Event}
use Rattle.model.specs.declared.Event.TheVariants.{Create, Borrow, Read, Write, Drop}
use Rattle.model.specs.Lists.{filter, all, first}
use Rattle.model.specs.Bits.{bit_at, bits_after}
use Rattle.model.specs.Limits.{refused_sheet, no_row, limit_reached}
use Rattle.model.specs.Requests.{Unlimited, Request, Single, caller}
use Rattle.model.specs.Slots.{Slot, Nothing, unstored}
use Rattle.model.specs.Table.{empty_row, named, live_rows, lent_table}
use Rattle.model.specs.Refusals.{unfit, checks, refusals, judge, table_in}
use Rattle.model.specs.Effects.{lowered, revoke, rows_without, rows_after}
use Rattle.model.specs.Counts.{count_allowed}
use Rattle.model.specs.Step.{State, view, initial, outcome}
use Rattle.model.specs.Step
use Rattle.model.proofs.Offered.{All_sub, none_sized, listed, first_none, Named, live_named, access_named, live_lent, length_lent, next_fits, fit_all, fit_after, fit_order, is_fit, ordered, order_fresh}
use Rattle.sizes.specs.Peak.{needs}

-- an event by domain 0, without limits
abbrev pub ask : Event → Request
ask e = Single (caller 0 Unlimited) e

-- ---- the checks

module _ (rows : List Cap) (i : ℕ) (is_written : ℕ → Bool) (slot : ℕ → Slot (List Cap)) (m n : ℕ) where
  numbered : (e : Event) → all (λ c. ltb 0 c.0) (checks rows i is_written slot m (ask e)) ≡ true
  numbered (Create w s r) = refl
  numbered (Borrow w u s r) = refl
  numbered (Read u s) = refl
  numbered (Write u s) = refl
  numbered (Drop u) = refl

  module _ (e : Event) (h : first (checks rows i is_written slot m (ask e)) ≡ 0) where
    passed : (k : ℕ) → listed k (checks rows i is_written slot m (ask e)) ≡ false
    passed = first_none (checks rows i is_written slot m (ask e)) (numbered e) h

  -- only 10 depends on the number of rows
  enough : (e : Event) → first (checks rows i is_written slot m (ask e)) ≡ 0 → needs (length rows) e ≤ n → first (checks rows i is_written slot n (ask e)) ≡ 0
  unfolding no_row limit_reached
  enough (Create w s r) h l =
      let p = passed (Create w s r) h in
      let room : leb n (length rows) ≡ false = lt-leb n (length rows) (omega arith) in
      rw (p 2, p 3, p 9, p 12, room)
  enough (Borrow w u s r) h l =
      let p = passed (Borrow w u s r) h in
      let room : leb n (length rows) ≡ false = lt-leb n (length rows) (omega arith) in
      rw (p 2, p 3, p 4, p 5, p 17, p 6, p 7, p 8, p 9, p 12, room)
  enough (Read u s) h l = h
  enough (Write u s) h l = h
  enough (Drop u) h l = h

  full : (e : Event) → first (checks rows i is_written slot m (ask e)) ≡ 0 → n < needs (length rows) e → first (checks rows i is_written slot n (ask e)) ≡ 10
  unfolding no_row limit_reached
  full (Create w s r) h l =
      let p = passed (Create w s r) h in
      let none : leb n (length rows) ≡ true = le-leb n (length rows) (omega arith) in
      rw (p 2, p 3, p 9, p 12, none)
  full (Borrow w u s r) h l =
      let p = passed (Borrow w u s r) h in
      let none : leb n (length rows) ≡ true = le-leb n (length rows) (omega arith) in
      rw (p 2, p 3, p 4, p 5, p 17, p 6, p 7, p 8, p 9, p 12, none)
  full (Read u s) h l = absurd (omega arith)
  full (Write u s) h l = absurd (omega arith)
  full (Drop u) h l = absurd (omega arith)

-- what is fit is judged by the event's own checks
judge_checks : (h : State) (e : Event) → unfit Unlimited (view h) ≡ false
    → judge (view h) (ask e) ≡ first (checks (live_rows h.memory.table) h.tally.issued (bit_at h.memory.bits) (λ k. table_in (get_or h.slots k Nothing)) (length h.memory.table) (ask e))
unfolding judge refusals
judge_checks h e f = rw f

-- rows stay named where some go and others are lowered, and after every event
revoked_named : (ends lowers : ℕ → Bool) (rows : List Cap) → Named rows → Named (revoke ends lowers rows)
unfolding revoke
revoked_named ends lowers rows a = each (filter (λ c. not (ends c.name.0)) rows) (All_sub (λ c. not (ends c.name.0)) (λ c. named 0 c ≡ false) rows a)
  where
    each : (left : List Cap) → Named left → Named (map (λ c. lowered (lowers c.name.0) c) left)
    each [] b = tt
    each (c ∷ left) b = (b.0, each left b.1)

after_named : (sheet : Sheet) (i : ℕ) (rows : List Cap) (e : Event) → Named rows → Named (rows_after sheet i rows (ask e))
unfolding rows_after rows_without
after_named sheet i rows (Create w s r) a = (ne_eqb 0 (suc i) (λ (z : 0 ≡ suc i). omega arith), access_named sheet rows a _ (suc i) s)
after_named sheet i rows (Borrow w u s r) a = (ne_eqb 0 (suc i) (λ (z : 0 ≡ suc i). omega arith), a)
after_named sheet i rows (Read u s) a = access_named sheet rows a _ u.0 s
after_named sheet i rows (Write u s) a = access_named sheet rows a _ u.0 s
after_named sheet i rows (Drop u) a = revoked_named _ _ rows a

-- ---- states

-- tables of n and m rows, fit for an event, with the same live rows, and all else the same
pub record Same (n m : ℕ) (h g : State) : Type 0 where
  pub fewer : length h.memory.table ≡ n
  pub more : length g.memory.table ≡ m
  pub live : live_rows h.memory.table ≡ live_rows g.memory.table
  pub bits : h.memory.bits ≡ g.memory.bits
  pub tally : h.tally ≡ g.tally
  pub stored : h.slots ≡ unstored
  pub stored_more : g.slots ≡ unstored
  pub fit : unfit Unlimited (view h) ≡ false
  pub fit_more : unfit Unlimited (view g) ≡ false

-- what an allowed event leaves
module _ (sheet : Sheet) (h : State) (e : Event) (q : judge (view h) (ask e) ≡ 0) where
  pub allowed_after : Step.after sheet h (ask e) ≡ outcome sheet 0 h (ask e)
  unfolding Step.after
  allowed_after = ap (λ (k : ℕ). outcome sheet k h (ask e)) q

  rows_left : length (Step.after sheet h (ask e)).memory.table ≡ length h.memory.table
  rows_left = ap (λ (x : State). length x.memory.table) allowed_after ∙ length_lent (length h.memory.table) _ (next_fits sheet (view h) (ordered h.memory.table h.tally.issued (fit_order Unlimited (view h) (is_fit (view h) (ask e) q))) (ask e) q)

  pub live_left : live_rows (Step.after sheet h (ask e)).memory.table ≡ rows_after sheet h.tally.issued (live_rows h.memory.table) (ask e)
  live_left = ap (λ (x : State). live_rows x.memory.table) allowed_after ∙ live_lent (length h.memory.table) _ (after_named sheet h.tally.issued (live_rows h.memory.table) e (live_named h.memory.table))

  bits_left : (Step.after sheet h (ask e)).memory.bits ≡ bits_after h.memory.bits (ask e)
  bits_left = ap (λ (x : State). x.memory.bits) allowed_after

  pub tally_left : (Step.after sheet h (ask e)).tally ≡ count_allowed (ask e) h.tally
  tally_left = ap (λ (x : State). x.tally) allowed_after

  stored_left : h.slots ≡ unstored → (Step.after sheet h (ask e)).slots ≡ unstored
  stored_left s = ap (λ (x : State). x.slots) allowed_after ∙ s

fit_left : (sheet : Sheet) (h : State) (e : Event) → h.slots ≡ unstored → unfit Unlimited (view h) ≡ false → unfit Unlimited (view (Step.after sheet h (ask e))) ≡ false
fit_left sheet h e s f = fit_after sheet h (ask e) (rw s none_sized) f

module _ {n m : ℕ} {h g : State} (s : Same n m h g) (e : Event) where
  abbrev checks_on : ℕ → List (ℕ × Bool)
  checks_on size = checks (live_rows g.memory.table) g.tally.issued (bit_at g.memory.bits) (λ k. table_in (get_or g.slots k Nothing)) size (ask e)

  judged : (k : ℕ) → first (checks_on n) ≡ k → judge (view h) (ask e) ≡ k
  judged k q =
      judge_checks h e s.fit
      ∙ (λ j. first (checks (s.live j) (s.tally j).issued (bit_at (s.bits j)) (λ k. table_in (get_or ((s.stored ∙ sym s.stored_more) j) k Nothing)) (s.fewer j) (ask e))) ∙ q

  module _ (q : judge (view g) (ask e) ≡ 0) where
    passes : first (checks_on m) ≡ 0
    passes = ap (λ (size : ℕ). first (checks_on size)) (sym s.more) ∙ sym (judge_checks g e s.fit_more) ∙ q

    pub same_allowed : needs (length (live_rows g.memory.table)) e ≤ n → judge (view h) (ask e) ≡ 0
    same_allowed l = judged 0 (enough (live_rows g.memory.table) g.tally.issued (bit_at g.memory.bits) (λ k. table_in (get_or g.slots k Nothing)) m n e passes l)

    pub same_full : n < needs (length (live_rows g.memory.table)) e → judge (view h) (ask e) ≡ 10
    same_full l = judged 10 (full (live_rows g.memory.table) g.tally.issued (bit_at g.memory.bits) (λ k. table_in (get_or g.slots k Nothing)) m n e passes l)

    pub same_after : (sheet : Sheet) → needs (length (live_rows g.memory.table)) e ≤ n → Same n m (Step.after sheet h (ask e)) (Step.after sheet g (ask e))
    same_after sheet l =
        let p = same_allowed l in
        record {
          fewer = rows_left sheet h e p ∙ s.fewer;
          more = rows_left sheet g e q ∙ s.more;
          live = live_left sheet h e p ∙ (λ j. rows_after sheet (s.tally j).issued (s.live j) (ask e)) ∙ sym (live_left sheet g e q);
          bits = bits_left sheet h e p ∙ ap (λ (bits : List ℕ). bits_after bits (ask e)) s.bits ∙ sym (bits_left sheet g e q);
          tally = tally_left sheet h e p ∙ ap (count_allowed (ask e)) s.tally ∙ sym (tally_left sheet g e q);
          stored = stored_left sheet h e p s.stored;
          stored_more = stored_left sheet g e q s.stored_more;
          fit = fit_left sheet h e s.stored s.fit;
          fit_more = fit_left sheet g e s.stored_more s.fit_more;
        }

-- tables of zeros
live_fresh : (n : ℕ) (t : Tally) → live_rows (initial n t).memory.table ≡ []
unfolding lent_table
live_fresh n t = (λ j. live_rows (replicate (sym (sub-zero n) j) empty_row)) ∙ live_lent n [] tt

pub fit_fresh : (n : ℕ) (t : Tally) → n ≤ 1024 → t.issued ≡ 0 → unfit Unlimited (view (initial n t)) ≡ false
unfolding refused_sheet
fit_fresh n t l z = fit_all Unlimited (view (initial n t)) (order_fresh n t l z) refl (length-replicate {A = ℕ} 8192 0) refl

pub same_fresh : (n m : ℕ) (t : Tally) → n ≤ 1024 → m ≤ 1024 → t.issued ≡ 0 → Same n m (initial n t) (initial m t)
same_fresh n m t l k z = record {
  fewer = length-replicate n empty_row;
  more = length-replicate m empty_row;
  live = live_fresh n t ∙ sym (live_fresh m t);
  bits = refl;
  tally = refl;
  stored = refl;
  stored_more = refl;
  fit = fit_fresh n t l z;
  fit_more = fit_fresh m t k z;
}
