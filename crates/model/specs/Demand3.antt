-- Document 01, "The history": demand 3, one claim about the whole list of requests; by card 5 names dropped together are among them.
-- Assumes nothing.
use Rattle.std.specs.Prelude.{ℕ, ◌<◌, ◌≡◌, Bool, true, false, not, List, [], ◌∷◌, ◌++◌}
use Rattle.model.specs.declared.Name.{Name}
use Rattle.model.specs.declared.Span.{Span}
use Rattle.model.specs.declared.Tally.{Tally}
use Rattle.model.specs.declared.Sheet.{Sheet}
use Rattle.model.specs.declared.Event.TheVariants.{Read, Write}
use Rattle.model.specs.Lists.{all, answers, final}
use Rattle.model.specs.Requests.{Caller, Request, Single, Group, Mark, Back, is_back, marks, single_drops}
use Rattle.model.specs.Bits.{bit_at}
use Rattle.model.specs.Step.{initial, state_after, is_allowed}
use Rattle.model.specs.Step
use Rattle.model.specs.History.{empty_history, history_after, noted_name, notes_of, table, written, lives, lives_rw, may_read, may_write}
use Rattle.model.specs.History

abbrev pub no_back : List Request → Bool
no_back = all (λ q. not (is_back q))

-- no mark is made in this slot
abbrev pub marks_elsewhere : ℕ → List Request → Bool
marks_elsewhere k = all (λ q. not (marks k q))

-- Card 7: "For each complete sheet kept throughout, proved in general, the table and answers are those of the history and demand 3 read by
-- that sheet".
-- The list begins with n rows, all zeros, and a tally t whose issued number is 0. n and t's other counts may be anything.
pub record Demand3 (sheet : Sheet) (n : ℕ) (t : Tally) (qs : List Request) : Type 0 where
  -- "Each event has had the history's answer, refusal number and name included"
  pub same_answers_lem : answers (Step.after sheet) Step.answer (initial n t) qs ≡ answers (History.after sheet n) (History.answer sheet n) empty_history qs
  -- "After every list the lent table equals it, and the issued number equals the count of names."
  pub same_table : (state_after sheet n t qs).memory.table ≡ table sheet n (history_after sheet n qs).notes
  pub same_issued : (state_after sheet n t qs).tally.issued ≡ (history_after sheet n qs).count
  -- Card 9: each written bit is what the notes say
  pub same_bits : (a : ℕ) → a < 65536 → bit_at (state_after sheet n t qs).memory.bits a ≡ written (history_after sheet n qs).notes a
  -- "an allowed create or borrow has the name noted for it", and the others have name 0
  pub noted_names : (q : Request) → is_allowed (Step.answer (state_after sheet n t qs) q) ≡ true → (Step.answer (state_after sheet n t qs) q).name ≡ noted_name (notes_of (history_after sheet n qs).notes (history_after sheet n qs).count q)
  -- Card 5: "Allowed, it leaves the table, and in the history the notes, that single drops in falling order of name leave." Each of
  -- these is allowed in its turn.
  pub group_singly : (by : Caller) (names : List ℕ) → is_allowed (Step.answer (state_after sheet n t qs) (Group by names)) ≡ true
      → all is_allowed (answers (Step.after sheet) Step.answer (state_after sheet n t qs) (single_drops by names)) ≡ true
  pub group_table : (by : Caller) (names : List ℕ) → is_allowed (Step.answer (state_after sheet n t qs) (Group by names)) ≡ true
      → (Step.after sheet (state_after sheet n t qs) (Group by names)).memory.table ≡ (final (Step.after sheet) (state_after sheet n t qs) (single_drops by names)).memory.table
  pub group_history : (by : Caller) (names : List ℕ) → is_allowed (Step.answer (state_after sheet n t qs) (Group by names)) ≡ true
      → History.after sheet n (history_after sheet n qs) (Group by names) ≡ final (History.after sheet n) (history_after sheet n qs) (single_drops by names)
  -- Card 11: "After a back, the history .. is the one that stood at the mark, except that its count of names stays as it is now, and names
  -- given since are ended", where the mark after qs is not made anew before the back
  pub back_notes : (by by' : Caller) (k : ℕ) (fs : List Request) → marks_elsewhere k fs ≡ true
      → is_allowed (Step.answer (state_after sheet n t qs) (Mark by k)) ≡ true → is_allowed (Step.answer (state_after sheet n t (qs ++ (Mark by k ∷ fs))) (Back by' k)) ≡ true
      → (history_after sheet n (qs ++ (Mark by k ∷ (fs ++ (Back by' k ∷ []))))).notes ≡ (history_after sheet n qs).notes
  pub back_count : (by : Caller) (k : ℕ) → (history_after sheet n (qs ++ (Back by k ∷ []))).count ≡ (history_after sheet n qs).count
  pub ended_since : (x : ℕ) → (history_after sheet n qs).count < x → lives sheet (history_after sheet n qs).notes x ≡ false
  -- "Each read and write is also allowed exactly when demand 3 says."
  pub reads : (by : Caller) (u : Name) (s : Span) → is_allowed (Step.answer (state_after sheet n t qs) (Single by (Read u s))) ≡ may_read sheet n by (history_after sheet n qs).notes u.0 s
  pub writes : (by : Caller) (u : Name) (s : Span) → is_allowed (Step.answer (state_after sheet n t qs) (Single by (Write u s))) ≡ may_write sheet n by (history_after sheet n qs).notes u.0 s
  -- "A name that lives after some first part of the list, and not after a longer part, never lives again, however the list goes on."
  -- Card 11: "here alone a right may return", so no back comes after.
  pub life_stays_lost : (x : ℕ) (fs gs : List Request) → no_back gs ≡ true → lives sheet (history_after sheet n qs).notes x ≡ true → lives sheet (history_after sheet n (qs ++ fs)).notes x ≡ false
      → lives sheet (history_after sheet n (qs ++ fs ++ gs)).notes x ≡ false
  -- "A name that is `rw` after some first part, and not after a longer part, is likewise never `rw` again."
  pub rw_stays_lost : (x : ℕ) (fs gs : List Request) → no_back gs ≡ true → lives_rw sheet (history_after sheet n qs).notes x ≡ true → lives_rw sheet (history_after sheet n (qs ++ fs)).notes x ≡ false
      → lives_rw sheet (history_after sheet n (qs ++ fs ++ gs)).notes x ≡ false
