-- The numbers of answers: no refusal's is above 19, and a refusal and a value that are packed into one number are found again in it. And the
-- words of a request stand for it.
-- Assumes nothing.
use Rattle.std.specs.Prelude.{None, Option, Some}
use Rattle.model.specs.declared.Name.{Name}
use mathlib.Core.Path.{◌≡◌, refl, sym, ap, ap₂, ◌∙◌}
use mathlib.Core.List.{List, ◌++◌}
use Prim.Native.Nat.{ℕ, ◌+◌, ◌*◌, ◌/◌, ◌%◌, ◌<◌, ◌≤◌}
use native.Mathlib.Nat.{min-eq_left, min-eq_right, div-eq_of_lt, mod-eq_of_lt, mul-add-div_right, mul-add-mod_self_right, add-zero, div-add-mod'}
use native.Mathlib.Omega.{arith}
use lib.ListN.{length, length-append}
use lib.Seq.{take-append_seam}
use borrow.Author.Tests.{lt-ltb, le-leb}
use Rattle.model.specs.declared.Terms.{Terms}
use Rattle.model.specs.declared.Event.{Event}
use Rattle.model.specs.declared.Event.TheVariants.{Create, Borrow, Read, Write, Drop}
use Rattle.model.specs.Requests.{Limits, Caller, Single, Group, Mark, Back, caller}
use Rattle.table.specs.Words.{mask_of, low_half, high_half}
use Rattle.model.specs.declared.Refusal.{Refusal}
use Rattle.model.specs.declared.Refusal.TheVariants.{Disordered, Misspelt, IllegalSpan, Unissued, Ended, OutsideSpan, ReadOnly, TooDeep, NamesSpent, TableFull, BufferTooShort, Misnamed, Misgrouped, GivenTwice, NotGiven, NotWritten, NoHolder, LimitReached, NothingStored}
use Rattle.model.specs.Answers.{number}
use Rattle.kelzoud_events.specs.Interface.{packed, root_terms, child_terms, event_with, right_in, kind_in, fresh_in, new_in, event_in, asked_in, part, request_in, named_of, written_of, words_of}

pub number_small : (r : Refusal) → number r ≤ 19
number_small Disordered = omega arith
number_small Misspelt = omega arith
number_small IllegalSpan = omega arith
number_small Unissued = omega arith
number_small Ended = omega arith
number_small OutsideSpan = omega arith
number_small ReadOnly = omega arith
number_small TooDeep = omega arith
number_small NamesSpent = omega arith
number_small TableFull = omega arith
number_small BufferTooShort = omega arith
number_small Misnamed = omega arith
number_small Misgrouped = omega arith
number_small GivenTwice = omega arith
number_small NotGiven = omega arith
number_small NotWritten = omega arith
number_small NoHolder = omega arith
number_small LimitReached = omega arith
number_small NothingStored = omega arith

-- ---- a refusal and a value in one number

-- the largest value that is given as it is, and the first above it
pub packed_ceiling : (k : ℕ) → packed k 4294967295 ≡ k * 4294967296 + 4294967295
unfolding packed
packed_ceiling k = refl

pub packed_above : (k : ℕ) → packed k 4294967296 ≡ packed k 4294967295
unfolding packed
packed_above k = refl

module _ (k n : ℕ) (h : n ≤ 4294967295) where
  pub packed_value : packed k n ≡ k * 4294967296 + n
  unfolding packed
  packed_value = rw (min-eq_left h)

  -- the refusal's number is the quotient, and the value the rest
  pub packed_number_back : packed k n / 4294967296 ≡ k
  packed_number_back =
      ap (λ m. m / 4294967296) packed_value
      ∙ mul-add-div_right (omega arith) k n
      ∙ ap (λ m. k + m) (div-eq_of_lt (omega arith))
      ∙ add-zero k

  pub packed_value_back : packed k n % 4294967296 ≡ n
  packed_value_back =
      ap (λ m. m % 4294967296) packed_value
      ∙ mul-add-mod_self_right k 4294967296 n
      ∙ mod-eq_of_lt (omega arith)

-- a value above the largest is given as the largest
pub packed_large : (k n : ℕ) → 4294967295 ≤ n → packed k n ≡ packed k 4294967295
unfolding packed
packed_large k n h = rw (min-eq_right h)

-- ---- the words of a request stand for it

new_back : (w : Option Name) → new_in (named_of w) (written_of w) ≡ w
new_back None = refl
new_back (Some x) = refl

-- what a create and a borrow give is in their words: bytes, with no kind of a create, and no mark of a borrow
abbrev pub InWords : Event → Type 0
InWords (Create w s r) = (r.right < 256) × (r.kind ≡ 0) × (r.fresh < 256)
InWords (Borrow w n s r) = (r.right < 256) × (r.kind < 256) × (r.fresh ≡ 0)
InWords (Read n s) = Unit {0}
InWords (Write n s) = Unit {0}
InWords (Drop n) = Unit {0}

-- the halves of a mask make it up
mask_back : (mask : ℕ) → mask_of (low_half mask) (high_half mask) ≡ mask
mask_back mask = omega (arith, div-add-mod' mask 4294967296)

abbrev terms : ℕ → ℕ → ℕ → ℕ → Terms
terms right kind fresh holders = record { right = right; kind = kind; fresh = fresh; holders = holders }

module _ (r : Terms) (h : r.right < 256) where
  root_back : r.kind ≡ 0 → r.fresh < 256 → root_terms (terms (right_in r.right) 0 (fresh_in r.fresh) (mask_of (low_half r.holders) (high_half r.holders))) ≡ r
  root_back k f = rw (lt-ltb r.right 256 h, lt-ltb r.fresh 256 f) (ap₂ (λ (x m : ℕ). terms r.right x r.fresh m) (sym k) (mask_back r.holders))

  child_back : r.kind < 256 → r.fresh ≡ 0 → child_terms (terms (right_in r.right) (kind_in r.kind) 0 (mask_of (low_half r.holders) (high_half r.holders))) ≡ r
  child_back k f = rw (lt-ltb r.right 256 h, lt-ltb r.kind 256 k) (ap₂ (λ (x m : ℕ). terms r.right r.kind x m) (sym f) (mask_back r.holders))

-- whichever limits come with it, the domain and the event are found again
pub event_back : (by : Caller) (limits : Limits) (e : Event) (names : List ℕ) → InWords e → request_in limits (words_of (Single by e)) names ≡ Single (caller by.actor limits) e
unfolding words_of asked_in event_in event_with
event_back by limits (Create w s r) names h = ap₂ (λ (x : Option Name) (t : Terms). Single (caller by.actor limits) (Create x s t)) (new_back w) (root_back r h.0 h.1 h.2)
event_back by limits (Borrow w n s r) names h = ap₂ (λ (x : Option Name) (t : Terms). Single (caller by.actor limits) (Borrow x n s t)) (new_back w) (child_back r h.0 h.1 h.2)
event_back by limits (Read n s) names h = refl
event_back by limits (Write n s) names h = refl
event_back by limits (Drop n) names h = refl

-- the names of a group stand first in their list
pub group_back : (by : Caller) (limits : Limits) (names rest : List ℕ) → request_in limits (words_of (Group by names)) (names ++ rest) ≡ Group (caller by.actor limits) names
unfolding words_of asked_in part
group_back by limits names rest = rw (le-leb (0 + length names) (length (names ++ rest)) (omega (arith, length-append names rest)), take-append_seam names rest)

-- and the slot of a mark or a back is found again
pub mark_back : (by : Caller) (limits : Limits) (k : ℕ) (names : List ℕ) → request_in limits (words_of (Mark by k)) names ≡ Mark (caller by.actor limits) k
unfolding words_of asked_in
mark_back by limits k names = refl

pub back_back : (by : Caller) (limits : Limits) (k : ℕ) (names : List ℕ) → request_in limits (words_of (Back by k)) names ≡ Back (caller by.actor limits) k
unfolding words_of asked_in
back_back by limits k names = refl
