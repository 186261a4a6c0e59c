-- Where nothing is stored at first, all that marks store stays fit to go back to, with the one sheet of limits that a run is lent: no line of the
-- run is 1.
-- Assumes nothing.
use mathlib.Core.Path.{◌≡◌, refl, sym, subst}
use mathlib.Core.Bool.{true, false}
use mathlib.Core.List.{List, [], ◌∷◌}
use Prim.Native.Nat.{ℕ, zero, suc, ◌+◌, ◌≤◌}
use native.Mathlib.Omega.{arith}
use lib.Dec.{leb, eqb}
use lib.ListN.{length, get_or}
use borrow.Author.Tests.{eq-eqb}
use Rattle.model.specs.declared.Event.TheVariants.{Create, Borrow, Read, Write, Drop}
use Rattle.model.specs.declared.Sheet.{Sheet}
use Rattle.model.specs.Requests.{Limits, Unlimited, caller_of, Request, Single, Group, Mark, Back}
use Rattle.model.specs.Limits.{refused_sheet}
use Rattle.model.specs.Sheet6.{sheet6}
use Rattle.model.specs.Effects.{rows_after}
use Rattle.model.specs.Refusals.{unfit, unfit_slot, unfit_stored, table_in, judge}
use Rattle.model.specs.Slots.{Memory, Slot, Nothing, Stored, unstored}
use Rattle.model.specs.Step.{State, view, outcome, answer, after, initial}
use Rattle.model.specs.Table.{live_rows, in_order}
use Rattle.model.proofs.Offered.{All, All_get_d, All_map, All_replicate, All_set, InSlot, brought, fit_all, fit_not_1, fit_order, fit_sheet, length_lent, next_fits, none_sized, order_after, order_fresh, ordered, rows_in_order_wider}
use Rattle.text.specs.Line.{lines_of}
use Rattle.text.specs.Result.{Result, value, refused}
use Rattle.text.specs.declared.spelling.Spelling.{Spelling}
use Rattle.text.specs.declared.spelling.Spelling.TheVariants.{Plain, Named}
use Rattle.text.specs.Request.{read_request}
use Rattle.text.proofs.Offered.{refused_request_is_2}
use Rattle.trace.specs.Run.{Ran, take_read, take_line, run_lines, run_trace, run_from, lent, run}
use Rattle.trace.specs.Check.{no_counts}
use Rattle.trace.specs.Spellings.{checked}
use Rattle.trace.proofs.Laws.Turn.{Fit, read_limits, line_fit}
use Rattle.trace.proofs.Laws.Order.{turned, of_trace}

-- ---- what a request leaves

-- no fewer names are issued, and the table has as many rows
issued_more : (sheet : Sheet) (h : State) (q : Request) → h.tally.issued ≤ (after sheet h q).tally.issued
unfolding after
issued_more sheet h q = go (judge (view h) q) q
  where
    go : (j : ℕ) (q : Request) → h.tally.issued ≤ (outcome sheet j h q).tally.issued
    go zero (Single by (Create w s r)) = omega arith
    go zero (Single by (Borrow w u s r)) = omega arith
    go zero (Single by (Read u s)) = omega arith
    go zero (Single by (Write u s)) = omega arith
    go zero (Single by (Drop u)) = omega arith
    go zero (Group by names) = omega arith
    go zero (Mark by k) = omega arith
    go zero (Back by k) = omega arith
    go (suc zero) q = omega arith
    go (suc (suc j)) q = omega arith

same_size : (sheet : Sheet) (h : State) (q : Request) → in_order h.memory.table h.tally.issued ≡ true → length (after sheet h q).memory.table ≡ length h.memory.table
unfolding after
same_size sheet h q o = go (judge (view h) q) q refl
  where
    worked_size : (q : Request) → judge (view h) q ≡ 0 → length (rows_after sheet h.tally.issued (live_rows h.memory.table) q) ≤ length h.memory.table
    worked_size q z = next_fits sheet (view h) (ordered h.memory.table h.tally.issued o) q z

    go : (j : ℕ) (q : Request) → judge (view h) q ≡ j → length (outcome sheet j h q).memory.table ≡ length h.memory.table
    go zero (Single by e) z = length_lent (length h.memory.table) (rows_after sheet h.tally.issued (live_rows h.memory.table) (Single by e)) (worked_size (Single by e) z)
    go zero (Group by names) z = length_lent (length h.memory.table) (rows_after sheet h.tally.issued (live_rows h.memory.table) (Group by names)) (worked_size (Group by names) z)
    go zero (Mark by k) z = refl
    go zero (Back by k) z = (brought h by k z).size
    go (suc zero) q z = refl
    go (suc (suc j)) q z = refl

-- what holds of what is lent, and of all that is stored, holds of all that is then stored
slots_keep : (P : Slot Memory → Type 0) (sheet : Sheet) (h : State) (q : Request) → P (Stored h.memory) → All P h.slots → All P (after sheet h q).slots
unfolding after
slots_keep P sheet h q p a = go (judge (view h) q) q
  where
    go : (j : ℕ) (q : Request) → All P (outcome sheet j h q).slots
    go zero (Single by e) = a
    go zero (Group by names) = a
    go zero (Mark by k) = All_set P h.slots k (Stored h.memory) p a
    go zero (Back by k) = a
    go (suc zero) q = a
    go (suc (suc j)) q = a

module _ (limits : Limits) where
  -- ---- what can be gone back to

  -- where the table has so many rows, and so many names are issued
  record Ready (rows issued : ℕ) (m : Memory) : Type 0 where
    size : length m.table ≡ rows
    order : in_order m.table issued ≡ true
    sheet : refused_sheet m.table limits ≡ false

  abbrev AllReady : State → List (Slot Memory) → Type 0
  AllReady h = All (InSlot (Ready (length h.memory.table) h.tally.issued))

  ready_later : (rows issued later : ℕ) → issued ≤ later → leb later 1000000 ≡ true → (s : Slot Memory) → InSlot (Ready rows issued) s → InSlot (Ready rows later) s
  unfolding in_order
  ready_later rows issued later more few Nothing r = tt
  ready_later rows issued later more few (Stored m) r =
      let o = ordered m.table issued r.order in
      record { size = r.size; order = rw (o.few, o.rest_is_empty, few) (rows_in_order_wider (suc issued) (suc later) (live_rows m.table) (omega arith) o.rise); sheet = r.sheet }

  -- it is so of what is lent, and of what is stored it stays so
  ready_after : (sheet : Sheet) (h : State) (q : Request) → unfit limits (view h) ≡ false → AllReady h h.slots → AllReady (after sheet h q) (after sheet h q).slots
  ready_after sheet h q f a =
      let o = fit_order limits (view h) f in
      let few = (ordered (after sheet h q).memory.table (after sheet h q).tally.issued (order_after sheet h q o)).names_left in
      let later = ready_later (length h.memory.table) h.tally.issued (after sheet h q).tally.issued (issued_more sheet h q) few in
      let present : Ready (length h.memory.table) h.tally.issued h.memory = record { size = refl; order = o; sheet = fit_sheet limits (view h) f } in
      subst (λ (n : ℕ). All (InSlot (Ready n (after sheet h q).tally.issued)) (after sheet h q).slots) (sym (same_size sheet h q o))
      (slots_keep (InSlot (Ready (length h.memory.table) (after sheet h q).tally.issued)) sheet h q (later (Stored h.memory) present) (All_map _ _ later h.slots a))

  -- a back to it is not 1
  ready_stored : (h : State) (q : Request) → (caller_of q).limits ≡ limits → AllReady h h.slots → unfit_stored (view h) q ≡ false
  unfolding unfit_slot
  ready_stored h (Single by e) is a = refl
  ready_stored h (Group by names) is a = refl
  ready_stored h (Mark by k) is a = refl
  ready_stored h (Back by k) is a = rw is (go (get_or h.slots k Nothing) (All_get_d _ h.slots Nothing tt a k))
    where
      go : (s : Slot Memory) → InSlot (Ready (length h.memory.table) h.tally.issued) s → unfit_slot limits (length h.memory.table) h.tally.issued (table_in s) ≡ false
      go Nothing r = refl
      go (Stored m) r = rw (eq-eqb (length m.table) (length h.memory.table) r.size, r.order, r.sheet)

  -- ---- a run

  abbrev Sound : State → Type 0
  Sound h = Fit limits h × AllReady h h.slots

  module _ (sheet : Sheet) where
    line_sound : (k : Spelling) (h : State) (l : List ℕ) → Sound h → Sound (take_line (lent sheet limits) k h l).state
    line_sound k h l s = (line_fit sheet limits k h l s.0, go (read_request limits k l))
      where
        go : (r : Result Request) → AllReady (take_read (lent sheet limits) h r).state (take_read (lent sheet limits) h r).state.slots
        go (value q) = ready_after sheet h q s.0.0 s.1
        go (refused x) = s.1

    line_not_1 : (k : Spelling) (h : State) (l : List ℕ) → Sound h → (take_line (lent sheet limits) k h l).refusal ≡ 1 → ⊥
    unfolding answer
    line_not_1 k h l s = go (read_request limits k l) refl
      where
        go : (r : Result Request) → read_request limits k l ≡ r → (take_read (lent sheet limits) h r).refusal ≡ 1 → ⊥
        go (value q) is z = let e = read_limits limits k l q is in fit_not_1 (view h) q (ready_stored h q e s.1) (rw e s.0.0) z
        go (refused x) is z = omega (arith, refused_request_is_2 limits k l x is)

    lines_not_1 : (k : Spelling) (before : ℕ) (h : State) (ls : List (List ℕ)) → Sound h → (run_lines (lent sheet limits) k before h ls).refusal ≡ 1 → ⊥
    unfolding run_lines
    lines_not_1 k before h [] s = λ (z : ◌≡◌ {A = ℕ} 0 1). omega arith
    lines_not_1 k before h (l ∷ ls) s =
        let t = take_line (lent sheet limits) k h l in
        turned (λ (r : Ran State). r.refusal ≡ 1 → ⊥) (eqb t.refusal 0) (run_lines (lent sheet limits) k (before + 1) t.state ls) (record { refusal = t.refusal; number = before + 1; state = t.state })
        (lines_not_1 k (before + 1) t.state ls (line_sound k h l s)) (line_not_1 k h l s)

    trace_not_1 : (h : State) (ls : List (List ℕ)) → Sound h → (run_trace (lent sheet limits) h ls).refusal ≡ 1 → ⊥
    trace_not_1 h ls s = of_trace sheet limits (λ (r : Ran State). r.refusal ≡ 1 → ⊥) h ls (lines_not_1 Plain 0 h ls s) (λ line rest e. lines_not_1 Named 1 h rest s)

    -- nothing is stored in what is fit
    nothing_sound : (h : State) → unfit limits (view h) ≡ false → h.slots ≡ unstored → Sound h
    nothing_sound h f e = ((f, rw e none_sized), rw e (All_replicate (InSlot (Ready (length h.memory.table) h.tally.issued)) Nothing tt 8))

    pub run_not_1 : (h : State) (text : List ℕ) → unfit limits (view h) ≡ false → h.slots ≡ unstored → (run sheet limits h text).refusal ≡ 1 → ⊥
    unfolding run_from
    run_not_1 h text f e z = trace_not_1 h (lines_of text) (nothing_sound h f e) (rw f at z)

-- the run that `capcheck` prints is never 1
pub check_not_1 : (text : List ℕ) → (checked text).refusal ≡ 1 → ⊥
unfolding refused_sheet
check_not_1 text = run_not_1 Unlimited sheet6 (initial 1024 no_counts) text (fit_all Unlimited (view (initial 1024 no_counts)) (order_fresh 1024 no_counts (omega arith) refl) refl refl refl) refl
