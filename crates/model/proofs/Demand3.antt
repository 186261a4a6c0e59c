-- Demand 3 holds.
-- Assumes nothing.
use Prim.Native.Nat.{ℕ, zero, suc, ◌<◌}
use native.Mathlib.Omega.{arith}
use lib.Dec.{ltb}
use lib.ListN.{length, get_or}
use lib.Seq.{get_or-set_same}
use borrow.Author.Tests.{eqb-true, ltb-false, not-true}
use mathlib.Core.Path.{◌≡◌, refl, sym, ap, ◌∙◌}
use mathlib.Core.Bool.{true, false, not}
use mathlib.Core.List.{List, [], ◌∷◌, ◌++◌, map}
use Rattle.model.specs.declared.Sheet.{Sheet}
use Rattle.model.specs.declared.Tally.{Tally}
use Rattle.model.specs.declared.Event.TheVariants.{Create, Borrow, Read, Write, Drop}
use Rattle.model.specs.Requests.{Caller, Request, Single, Group, Mark, Back, marks}
use Rattle.model.specs.Slots.{Nothing, Stored, stored_or}
use Rattle.model.specs.Lists.{final}
use Rattle.model.specs.Refusals.{not_a_domain, refusals, judge}
use Rattle.model.specs.Effects.{new_name}
use Rattle.model.specs.Step.{State, view, is_allowed, initial, answer, after, state_after}
use Rattle.model.specs.History.{Note, Dropped, History, lives, empty_history, history_after, noted_name, notes_of}
use Rattle.model.specs.History
use Rattle.model.specs.Demand3.{marks_elsewhere, Demand3}
use Rattle.model.proofs.Match.{Match, same_judge, run, at_first}
use Rattle.model.proofs.Allowed.{lives_given, read_allowed, write_allowed}
use Rattle.model.proofs.Lists.{unless, and_both, or_neither, final_append}
use Rattle.model.proofs.Judged.{allowed, slot_kept, slots_size}
use Rattle.model.proofs.Lost.{never_lives_again, never_rw_again}
use Rattle.model.proofs.Together.{group_singly, group_table, group_history}

noted : (notes : List Note) (i : ℕ) (q : Request) → new_name i q ≡ noted_name (notes_of notes i q)
unfolding notes_of noted_name
noted notes i (Single by (Create w s r)) = refl
noted notes i (Single by (Borrow w u s r)) = refl
noted notes i (Single by (Read u s)) = refl
noted notes i (Single by (Write u s)) = refl
noted notes i (Single by (Drop u)) = refl
noted notes i (Group by names) = sym (none names)
  where
    none : (names : List ℕ) → noted_name (map Dropped names) ≡ 0
    none [] = refl
    none (u ∷ names) = none names
noted notes i (Mark by k) = refl
noted notes i (Back by k) = refl

-- an allowed request's answer has the name that its notes make
named : (h : State) (notes : List Note) (i : ℕ) → h.tally.issued ≡ i → (q : Request) → is_allowed (answer h q) ≡ true → (answer h q).name ≡ noted_name (notes_of notes i q)
unfolding answer
named h notes i e q a = rw a (ap (λ (k : ℕ). new_name k q) e ∙ noted notes i q)

-- ---- going back

module _ (sheet : Sheet) (n : ℕ) where
  -- a request that makes no mark there leaves what is kept in a slot
  kept_outcome : (H : History) (k : ℕ) (q : Request) → marks k q ≡ false → (j : ℕ) → get_or (History.outcome j H q).kept k Nothing ≡ get_or H.kept k Nothing
  kept_outcome H k q f zero = slot_kept H.notes H.kept k q f
  kept_outcome H k q f (suc j) = refl

  kept_final : (k : ℕ) (qs : List Request) (H : History) → marks_elsewhere k qs ≡ true → get_or (final (History.after sheet n) H qs).kept k Nothing ≡ get_or H.kept k Nothing
  unfolding History.after
  kept_final k [] H e = refl
  kept_final k (q ∷ qs) H e =
      let p = and_both (not (marks k q)) (marks_elsewhere k qs) e in
      kept_final k qs (History.after sheet n H q) p.1 ∙ kept_outcome H k q (not-true (marks k q) p.0) (judge (History.view sheet n H.kept H.notes H.count) q)

  size_outcome : (H : History) (q : Request) (j : ℕ) → length (History.outcome j H q).kept ≡ length H.kept
  size_outcome H q zero = slots_size H.notes H.kept q
  size_outcome H q (suc j) = refl

  pub size_final : (qs : List Request) (H : History) → length (final (History.after sheet n) H qs).kept ≡ length H.kept
  unfolding History.after
  size_final [] H = refl
  size_final (q ∷ qs) H = size_final qs (History.after sheet n H q) ∙ size_outcome H q (judge (History.view sheet n H.kept H.notes H.count) q)

  -- an allowed request at a match
  after_allowed : (h : State) (H : History) → Match sheet n h H → (q : Request) → is_allowed (answer h q) ≡ true → History.after sheet n H q ≡ History.outcome 0 H q
  unfolding answer History.after
  after_allowed h H m q a = ap (λ (j : ℕ). History.outcome j H q) (sym (same_judge sheet n h H m q) ∙ eqb-true (judge (view h) q) 0 a)

  -- an allowed mark keeps the notes, in one of the eight slots
  mark_kept : (h : State) (H : History) → Match sheet n h H → (by : Caller) (k : ℕ) → length H.kept ≡ 8 → is_allowed (answer h (Mark by k)) ≡ true → get_or (History.after sheet n H (Mark by k)).kept k Nothing ≡ Stored H.notes
  unfolding answer refusals
  mark_kept h H m by k z a =
      ap (λ (K : History). get_or K.kept k Nothing) (after_allowed h H m (Mark by k) a)
      ∙ get_or-set_same H.kept k (Stored H.notes) Nothing (omega (arith, z, ltb-false 7 k (or_neither (not_a_domain by.actor) (ltb 7 k) (allowed (view h) (Mark by k) (eqb-true (judge (view h) (Mark by k)) 0 a) 2)).1))

  back_counts : (H : History) (by : Caller) (k : ℕ) → (History.after sheet n H (Back by k)).count ≡ H.count
  unfolding History.after
  back_counts H by k = go (judge (History.view sheet n H.kept H.notes H.count) (Back by k))
    where
      go : (j : ℕ) → (History.outcome j H (Back by k)).count ≡ H.count
      go zero = refl
      go (suc j) = refl

  module _ (t : Tally) (z : t.issued ≡ 0) (qs : List Request) (by by' : Caller) (k : ℕ) (fs : List Request) where
    between : History
    between = final (History.after sheet n) (history_after sheet n qs) (Mark by k ∷ fs)

    here : Match sheet n (state_after sheet n t qs) (history_after sheet n qs)
    here = (run sheet n qs (initial n t) empty_history (at_first sheet n t z)).1

    there : Match sheet n (final (after sheet) (state_after sheet n t qs) (Mark by k ∷ fs)) between
    unfolding between
    there = (run sheet n (Mark by k ∷ fs) (state_after sheet n t qs) (history_after sheet n qs) here).1

    gone_back : marks_elsewhere k fs ≡ true → is_allowed (answer (state_after sheet n t qs) (Mark by k)) ≡ true → is_allowed (answer (state_after sheet n t (qs ++ (Mark by k ∷ fs))) (Back by' k)) ≡ true
        → (history_after sheet n (qs ++ (Mark by k ∷ (fs ++ (Back by' k ∷ []))))).notes ≡ (history_after sheet n qs).notes
    unfolding between
    gone_back e a b =
        ap (λ (K : History). K.notes)
        (final_append (History.after sheet n) empty_history qs (Mark by k ∷ (fs ++ (Back by' k ∷ [])))
        ∙ final_append (History.after sheet n) (History.after sheet n (history_after sheet n qs) (Mark by k)) fs (Back by' k ∷ [])
        ∙ after_allowed (final (after sheet) (state_after sheet n t qs) (Mark by k ∷ fs)) between there (Back by' k) (ap (λ (l : State). is_allowed (answer l (Back by' k))) (sym (final_append (after sheet) (initial n t) qs (Mark by k ∷ fs))) ∙ b))
        ∙ ap (stored_or between.notes) (kept_final k fs (History.after sheet n (history_after sheet n qs) (Mark by k)) e ∙ mark_kept (state_after sheet n t qs) (history_after sheet n qs) here by k (size_final qs empty_history) a)

pub demand3 : (sheet : Sheet) (n : ℕ) (t : Tally) → t.issued ≡ 0 → (qs : List Request) → Demand3 sheet n t qs
demand3 sheet n t z qs =
    let r = run sheet n qs (initial n t) empty_history (at_first sheet n t z) in
    record {
      same_answers_lem = r.0;
      same_table = r.1.memory.same_table;
      same_issued = r.1.same_issued;
      same_bits = r.1.memory.bits.told;
      noted_names = named (state_after sheet n t qs) (history_after sheet n qs).notes (history_after sheet n qs).count r.1.same_issued;
      group_singly = λ by names a. (group_singly sheet (state_after sheet n t qs) by names a).each_allowed;
      group_table = group_table sheet (state_after sheet n t qs);
      group_history = group_history sheet n (state_after sheet n t qs) (history_after sheet n qs) r.1;
      reads = read_allowed sheet n (state_after sheet n t qs) (history_after sheet n qs) r.1 (size_final sheet n qs empty_history);
      writes = write_allowed sheet n (state_after sheet n t qs) (history_after sheet n qs) r.1 (size_final sheet n qs empty_history);
      back_notes = gone_back sheet n t z qs;
      back_count = λ by k. ap (λ (K : History). K.count) (final_append (History.after sheet n) empty_history qs (Back by k ∷ [])) ∙ back_counts sheet n (history_after sheet n qs) by k;
      ended_since = λ x l. unless (lives sheet (history_after sheet n qs).notes x) (λ h. too_late (history_after sheet n qs).count x l (lives_given sheet n (history_after sheet n qs).count (history_after sheet n qs).notes r.1.memory.kept x h).1);
      life_stays_lost = λ x. never_lives_again sheet n t z x qs;
      rw_stays_lost = λ x. never_rw_again sheet n t z x qs;
    }
  where
    too_late : (i x : ℕ) → i < x → x < suc i → ⊥
    too_late i x l m = omega arith
