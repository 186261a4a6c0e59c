-- A table for each allocation answers as one table for all: the small tables are the trees of the one, by induction over the events.
-- Assumes nothing.
use mathlib.Core.Path.{◌≡◌, refl, sym, ap, ap₂, ◌∙◌}
use mathlib.Core.Logic.{◌⊎◌, inl, inr}
use mathlib.Core.Bool.{true, false, cond}
use mathlib.Core.List.{List, [], ◌∷◌, map}
use Prim.Native.Nat.{ℕ, zero, suc, ◌<◌, ◌≤◌}
use lib.Dec.{eqb}
use lib.ListN.{length, length-replicate}
use borrow.Author.Tests.{eqb-true, eq-eqb, not-false}
use Rattle.model.specs.declared.Sheet.{Sheet}
use Rattle.model.specs.declared.Tally.{Tally}
use Rattle.model.specs.declared.Event.{Event}
use Rattle.model.specs.declared.Event.TheVariants.{Create, Borrow, Read, Write, Drop}
use Rattle.model.specs.Lists.{any, answers, final}
use Rattle.model.specs.Requests.{Unlimited, Caller, Request, Single, caller}
use Rattle.model.specs.Slots.{unstored}
use Rattle.model.specs.Table.{named, lent_table}
use Rattle.model.specs.Refusals.{view_of, unfit, refusals, judge}
use Rattle.model.specs.Limits.{refused_sheet}
use Rattle.model.specs.Bits.{bits_after}
use Rattle.model.specs.Effects.{rows_after, new_name, issued_after}
use Rattle.model.specs.Step.{Verdict, verdict, State, view, initial}
use Rattle.model.specs.Step
use Rattle.model.specs.TreesApart.{StrangersEnd, root_of, tree, tree_after, live}
use Rattle.model.specs.Allotted.{Allotted, nothing_yet, ask, goes_to, number, answer, outcome, after, Roomy, OneForEach}
use Rattle.model.proofs.Lists.{All, All_sub, any_false, any_none, test, clash}
use Rattle.model.proofs.Lent.{no_rows, lookup_none}
use Rattle.model.proofs.Judged.{allowed, in_order_lem, counted_issued, fit_all, fit_size, fit_slots, judge_slots}
use Rattle.model.proofs.Order.{SizedSlot, none_sized, sized_after, ordered, next_named, fit_after, order_fresh}
use Rattle.model.proofs.TreesApart.{Forest, Found, AllFound, are_named, live_after, answered_alone, in_own, each_rows, forest_after, forest_first, root_after, root_created, root_borrowed}

-- ---- what stays true

record Mirrors (h : State) (a : Allotted) : Type 0 where
  same_tree : (r : ℕ) → a.small r ≡ tree (live h) r
  same_home : (x : ℕ) → any (named x) (live h) ≡ true → a.home x ≡ root_of (live h) x
  same_bits : a.bits ≡ h.memory.bits
  same_issued : a.issued ≡ h.tally.issued

module _ (sheet : Sheet) (m : ℕ) (small_enough : m ≤ 1024) (h : State) (a : Allotted) (f : Forest h) (s : Mirrors h a) where
  -- a name is found at home exactly where it is found in the one table
  at_home : (u : ℕ) → Found (tree (live h) (a.home u)) (live h) u
  at_home u = go (test (any (named u) (live h)))
    where
      go : (any (named u) (live h) ≡ true) ⊎ (any (named u) (live h) ≡ false) → Found (tree (live h) (a.home u)) (live h) u
      go (inl e) = in_own sheet h f u (a.home u) (eq-eqb (a.home u) (root_of (live h) u) (s.same_home u e))
      go (inr e) =
          let none : any (named u) (tree (live h) (a.home u)) ≡ false = any_false (named u) (tree (live h) (a.home u)) (All_sub (λ c. eqb (a.home u) (root_of (live h) c.name.0)) (λ c. named u c ≡ false) (live h) (any_none (named u) (live h) e)) in
          (none ∙ sym e, lookup_none u (tree (live h) (a.home u)) none ∙ sym (lookup_none u (live h) e))

  all_at_home : (by : Caller) (e : Event) → AllFound (tree (live h) (goes_to a e)) (live h) (Single by e)
  all_at_home by (Create w t r) = tt
  all_at_home by (Borrow w u t r) = at_home u.0
  all_at_home by (Read u t) = at_home u.0
  all_at_home by (Write u t) = at_home u.0
  all_at_home by (Drop u) = at_home u.0

  -- so each event gets the number there that it gets in the one
  same_number : unfit Unlimited (view h) ≡ false → length (live h) < length h.memory.table → ((r : ℕ) → length (tree (live h) r) < m) → (e : ℕ × Event) → number m a e ≡ judge (view h) (ask e)
  unfolding number
  same_number k here_room Own_room e =
      let r : ℕ = goes_to a e.1 in
      ap (λ own. judge (view_of (lent_table m own) a.bits unstored a.issued) (ask e)) (s.same_tree r)
      ∙ ap₂ (λ bits i. judge (view_of (lent_table m (tree (live h) r)) bits unstored i) (ask e)) s.same_bits s.same_issued
      ∙ judge_slots (lent_table m (tree (live h) r)) h.memory.bits unstored h.slots h.tally.issued (ask e) refl (sym (fit_slots Unlimited (view h) k))
      ∙ answered_alone sheet h f r m here_room (Own_room r) (ask e) refl refl k (all_at_home (caller e.0 Unlimited) e.1) small_enough

  -- ---- an allowed event

  module _ (e : ℕ × Event) (z : judge (view h) (ask e) ≡ 0) where
    next_tree : StrangersEnd sheet → (r : ℕ) → tree_after sheet a.issued r (a.small r) (ask e) ≡ tree (live (Step.after sheet h (ask e))) r
    next_tree ends r =
        ap₂ (λ i own. tree_after sheet i r own (ask e)) s.same_issued (s.same_tree r)
        ∙ sym (ap (λ l. tree l r) (live_after sheet h f (ask e) refl z) ∙ each_rows sheet h f ends (ask e) z r)

  abbrev i : ℕ
  i = h.tally.issued

  -- 0 names nothing
  no_name : {A : Type 0} (q : Request) (x : ℕ) → judge (view h) q ≡ 0 → x ≡ 0 → any (named x) (rows_after sheet i (live h) q) ≡ true → A
  no_name q x z e l = clash l (ap (λ (y : ℕ). any (named y) (rows_after sheet i (live h) q)) e ∙ any_false (named 0) (rows_after sheet i (live h) q) (next_named sheet (view h) (ordered h.memory.table i (in_order_lem (view h) q z)) q))

  -- where the new name is at home
  new_home : (by : Caller) (e : Event) (x : ℕ) → judge (view h) (Single by e) ≡ 0 → x ≡ new_name i (Single by e) → any (named x) (rows_after sheet i (live h) (Single by e)) ≡ true → goes_to a e ≡ root_of (rows_after sheet i (live h) (Single by e)) x
  unfolding refusals
  new_home by (Create w t r) x z q l = ap suc s.same_issued ∙ sym (ap (root_of (rows_after sheet i (live h) (Single by (Create w t r)))) q ∙ root_created sheet i (live h) (are_named sheet h f) f.rise by w t r)
  new_home by (Borrow w u t r) x z q l =
      let lives = not-false (any (named u.0) (live h)) (allowed (view h) (Single by (Borrow w u t r)) z 5) in
      s.same_home u.0 lives ∙ sym (ap (root_of (rows_after sheet i (live h) (Single by (Borrow w u t r)))) q ∙ root_borrowed sheet i (live h) (are_named sheet h f) f.rise by w u t r lives)
  new_home by (Read u t) x z q l = no_name (Single by (Read u t)) x z q l
  new_home by (Write u t) x z q l = no_name (Single by (Write u t)) x z q l
  new_home by (Drop u) x z q l = no_name (Single by (Drop u)) x z q l

  next_home : (e : ℕ × Event) → judge (view h) (ask e) ≡ 0 → (x : ℕ) → any (named x) (live (Step.after sheet h (ask e))) ≡ true
      → cond (eqb x (new_name a.issued (ask e))) (goes_to a e.1) (a.home x) ≡ root_of (live (Step.after sheet h (ask e))) x
  next_home e z x l =
      let after = live_after sheet h f (ask e) refl z in
      ap (λ (j : ℕ). cond (eqb x (new_name j (ask e))) (goes_to a e.1) (a.home x)) s.same_issued ∙ go (test (eqb x (new_name i (ask e)))) (rw after at l) ∙ sym (ap (λ rows. root_of rows x) after)
    where
      go : (eqb x (new_name i (ask e)) ≡ true) ⊎ (eqb x (new_name i (ask e)) ≡ false) → any (named x) (rows_after sheet i (live h) (ask e)) ≡ true → cond (eqb x (new_name i (ask e))) (goes_to a e.1) (a.home x) ≡ root_of (rows_after sheet i (live h) (ask e)) x
      go (inl t) l = rw t (new_home (caller e.0 Unlimited) e.1 x z (eqb-true x (new_name i (ask e)) t) l)
      go (inr d) l = let p = root_after sheet i (live h) (are_named sheet h f) f.rise (ask e) x l d in rw d (s.same_home x p.0 ∙ sym p.1)

  mirrors_as : StrangersEnd sheet → (e : ℕ × Event) (j : ℕ) → judge (view h) (ask e) ≡ j → Mirrors (Step.after sheet h (ask e)) (outcome sheet j a e)
  unfolding Step.after
  mirrors_as ends e zero z =
      record {
        same_tree = next_tree e z ends;
        same_home = next_home e z;
        same_bits = rw z (ap (λ bits. bits_after bits (ask e)) s.same_bits);
        same_issued = rw z (ap (λ (j : ℕ). issued_after j (ask e)) s.same_issued ∙ sym (counted_issued (ask e) h.tally));
      }
  mirrors_as ends e (suc zero) z = rw z s
  mirrors_as ends e (suc (suc k)) z = rw z (record { same_tree = s.same_tree; same_home = s.same_home; same_bits = s.same_bits; same_issued = s.same_issued })

  next_mirrors : StrangersEnd sheet → (e : ℕ × Event) → number m a e ≡ judge (view h) (ask e) → Mirrors (Step.after sheet h (ask e)) (after sheet m a e)
  unfolding after
  next_mirrors ends e same = rw same (mirrors_as ends e (judge (view h) (ask e)) refl)

  same_answer : (e : ℕ × Event) → number m a e ≡ judge (view h) (ask e) → answer m a e ≡ Step.answer h (ask e)
  unfolding answer Step.answer
  same_answer e same = ap₂ (λ k j. verdict k (new_name j (ask e))) same s.same_issued

-- ---- a list of events

module _ (sheet : Sheet) (ends : StrangersEnd sheet) (m : ℕ) (small_enough : m ≤ 1024) where
  run : (es : List (ℕ × Event)) (h : State) (a : Allotted) → Forest h → Mirrors h a → All SizedSlot h.slots → unfit Unlimited (view h) ≡ false → Roomy sheet m h es
      → (answers (after sheet m) (answer m) a es ≡ answers (Step.after sheet) Step.answer h (map ask es)) × ((r : ℕ) → (final (after sheet m) a es).small r ≡ tree (live (final (Step.after sheet) h (map ask es))) r)
  run [] h a f s b k l = (refl, s.same_tree)
  run (e ∷ es) h a f s b k l =
      let same = same_number sheet m small_enough h a f s k l.0 l.1.0 e in
      let later = run es (Step.after sheet h (ask e)) (after sheet m a e) (forest_after sheet h f ends (ask e)) (next_mirrors sheet m small_enough h a f s ends e same) (sized_after sheet h (ask e) b (fit_size Unlimited (view h) k)) (fit_after sheet h (ask e) b k) l.1.1 in
      (ap₂ {C = List Verdict} (λ v vs. v ∷ vs) (same_answer sheet m small_enough h a f s e same) later.0, later.1)

-- A table for each allocation answers as one table for all, and holds its rows.
pub one_for_each : (sheet : Sheet) → StrangersEnd sheet → (n m : ℕ) → n ≤ 1024 → m ≤ 1024 → (t : Tally) → t.issued ≡ 0 → (es : List (ℕ × Event)) → Roomy sheet m (initial n t) es → OneForEach sheet n m t es
unfolding refused_sheet
one_for_each sheet ends n m few small_enough t z es l =
    let r = run sheet ends m small_enough es (initial n t) nothing_yet (forest_first n t) mirrors_first none_sized fit l in
    record { same_answers_lem = r.0; same_trees = r.1 }
  where
    mirrors_first : Mirrors (initial n t) nothing_yet
    mirrors_first =
        record {
          same_tree = λ r. sym (ap (λ rows. tree rows r) (no_rows n));
          same_home = λ x e. clash e (ap (any (named x)) (no_rows n));
          same_bits = refl;
          same_issued = sym z;
        }

    fit : unfit Unlimited (view (initial n t)) ≡ false
    fit = fit_all Unlimited (view (initial n t)) (order_fresh n t few z) refl (length-replicate {A = ℕ} 8192 0) refl
