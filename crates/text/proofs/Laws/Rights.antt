-- Document 01, "Values": "Right: 1 (`ro`) or 2 (`rw`)". The line of a create ends in the word of its right, but for the word `fresh` and a mask behind
-- it, and so does that of a borrow, but for the word of its kind and a mask, in both spellings: the two lines with the two rights differ in that
-- word alone.
-- Card 6: "0 reference, 1 raw, 2 cell, written by a borrow as a last word `raw` or `cell`". The three lines with the three kinds differ in
-- that word alone, and a borrow of any other kind has no line, nor has a create of a kind.
-- Card 9: "A create may end in the word `fresh`". The two lines with and without the mark differ in that word alone, and a create of any other
-- mark has no line, nor has a borrow with a mark.
-- Card 10's masks of holders and its domains are in proofs/Laws/Domains.
-- Assumes nothing.
use Rattle.std.specs.Prelude.{None, Option, Some}
use mathlib.Core.Path.{◌≡◌, refl, ◌∙◌}
use mathlib.Core.Bool.{true}
use mathlib.Core.Logic.{⊎_elim}
use mathlib.Core.List.{List, [], ◌∷◌, ◌++◌, append_assoc, map}
use Prim.Native.Nat.{ℕ, ◌<◌, ◌≤◌}
use Prim.Native.String.{String}
use native.Mathlib.Omega.{arith}
use lib.ListN.{replicate}
use borrow.Author.Tests.{leb-true}
use Rattle.model.proofs.Offered.{test}
use Rattle.model.specs.Bits.{has_bit}
use Rattle.model.specs.declared.Name.{Name}
use Rattle.model.specs.declared.Span.{Span}
use Rattle.model.specs.declared.Terms.{Terms}
use Rattle.model.specs.declared.Event.{Event}
use Rattle.model.specs.declared.Event.TheVariants.{Create, Borrow}
use Rattle.text.specs.Result.{Result, value, refused}
use Rattle.text.specs.Class.{class_of}
use Rattle.text.specs.Line.{through}
use Rattle.text.specs.Decimal.{numeral, decimal, number_from}
use Rattle.text.specs.Mask.{hex, hex_from, mask_word}
use Rattle.text.specs.Event.{bytes, spaced, right_word, kind_word, fresh_word, front, back, span_numbers, written_numbers, form, spell, writes_name, has_spelling}
use Rattle.text.specs.Write.{written, stored, write_event}
use Rattle.text.specs.Read.{same, right_of, kind_of, fresh_at, guess, read_event}
use Rattle.text.specs.declared.spelling.Spelling.{Spelling}
use Rattle.text.specs.declared.spelling.Spelling.TheVariants.{Plain, Named}
use Rattle.text.proofs.Laws.Terms.{RootTerms, root_terms_lem, ChildTerms, child_terms_lem}
use Rattle.text.proofs.Laws.OneSpelling.{read_is_spelling}

abbrev pub held : ℕ → ℕ → ℕ → ℕ → Terms
held right kind fresh holders = record { right = right; kind = kind; fresh = fresh; holders = holders }

-- what domain 0 gives to what it makes for itself alone
abbrev pub terms : ℕ → ℕ → ℕ → Terms
terms right kind fresh = held right kind fresh 1

-- the lines of an event by a domain with each of the two rights, and what stands last, behind the right
pub record EndInRight (actor : ℕ) (event : ℕ → Event) (last : List ℕ) : Type 0 where
  pub start : List ℕ
  pub read_only : spell actor (event 1) ≡ start ++ (bytes " ro" ++ last)
  pub read_write : spell actor (event 2) ≡ start ++ (bytes " rw" ++ last)

-- a line of what stands before its form, a word, numbers, a right and what stands last: where it is cut before the right, and where behind it
module _ (f word numbers : List ℕ) where
  before_right : (last : List ℕ) → f ++ (word ++ (numbers ++ last)) ≡ (f ++ (word ++ numbers)) ++ last
  before_right last = simp append_assoc

  pub behind_right : (r : ℕ) (last : List ℕ) → f ++ (word ++ (numbers ++ (right_word r ++ last))) ≡ (f ++ (word ++ (numbers ++ right_word r))) ++ last
  behind_right r last = simp append_assoc

module _ (actor : ℕ) (w : Option Name) (s : Span) (holders : ℕ) where
  abbrev ends : List ℕ
  ends = mask_word actor holders ++ back actor

  pub create_ends : (fresh : ℕ) → EndInRight actor (λ r. Create w s (held r 0 fresh holders)) (fresh_word fresh ++ ends)
  unfolding spell form
  create_ends fresh =
      let numbers = spaced (written_numbers w ++ span_numbers s) in
      let split = before_right (front actor) (bytes "(create") numbers in
      let last = fresh_word fresh ++ ends in
      record { start = front actor ++ (bytes "(create" ++ numbers); read_only = split (bytes " ro" ++ last); read_write = split (bytes " rw" ++ last) }

  pub borrow_ends : (n : Name) (kind : ℕ) → EndInRight actor (λ r. Borrow w n s (held r kind 0 holders)) (kind_word kind ++ ends)
  unfolding spell form
  borrow_ends n kind =
      let numbers = spaced (written_numbers w ++ (n.0 ∷ span_numbers s)) in
      let split = before_right (front actor) (bytes "(borrow") numbers in
      let last = kind_word kind ++ ends in
      record { start = front actor ++ (bytes "(borrow" ++ numbers); read_only = split (bytes " ro" ++ last); read_write = split (bytes " rw" ++ last) }

-- the lines of an event with each of the three kinds, and what stands last
pub record EndInKind (actor : ℕ) (event : ℕ → Event) (last : List ℕ) : Type 0 where
  pub start : List ℕ
  pub reference : spell actor (event 0) ≡ start ++ last
  pub raw : spell actor (event 1) ≡ start ++ (bytes " raw" ++ last)
  pub cell : spell actor (event 2) ≡ start ++ (bytes " cell" ++ last)

pub borrow_ends_in_kind : (actor : ℕ) (w : Option Name) (n : Name) (s : Span) (r holders : ℕ)
    → EndInKind actor (λ kind. Borrow w n s (held r kind 0 holders)) (mask_word actor holders ++ back actor)
unfolding spell form
borrow_ends_in_kind actor w n s r holders =
    let numbers = spaced (written_numbers w ++ (n.0 ∷ span_numbers s)) in
    let split = behind_right (front actor) (bytes "(borrow") numbers r in
    let last = mask_word actor holders ++ back actor in
    record {
      start = front actor ++ (bytes "(borrow" ++ (numbers ++ right_word r));
      reference = split last;
      raw = split (bytes " raw" ++ last);
      cell = split (bytes " cell" ++ last);
    }

-- the lines of an event with the mark and without, and what stands last
pub record EndInMark (actor : ℕ) (event : ℕ → Event) (last : List ℕ) : Type 0 where
  pub start : List ℕ
  pub unmarked : spell actor (event 0) ≡ start ++ last
  pub fresh : spell actor (event 1) ≡ start ++ (bytes " fresh" ++ last)

pub create_ends_in_mark : (actor : ℕ) (w : Option Name) (s : Span) (r holders : ℕ)
    → EndInMark actor (λ fresh. Create w s (held r 0 fresh holders)) (mask_word actor holders ++ back actor)
unfolding spell form
create_ends_in_mark actor w s r holders =
    let numbers = spaced (written_numbers w ++ span_numbers s) in
    let split = behind_right (front actor) (bytes "(create") numbers r in
    let last = mask_word actor holders ++ back actor in
    record { start = front actor ++ (bytes "(create" ++ (numbers ++ right_word r)); unmarked = split last; fresh = split (bytes " fresh" ++ last) }

-- So does a line that is read as one of them.
module _ (k : Spelling) (line : List ℕ) (actor : ℕ) (event : ℕ → Event) (last : List ℕ) where
  module _ (ends : EndInRight actor event last) where
    pub read_only_read : read_event k line ≡ value (actor, event 1) → line ≡ ends.start ++ (bytes " ro" ++ last)
    read_only_read h = (read_is_spelling k line actor (event 1) h).2 ∙ ends.read_only

    pub read_write_read : read_event k line ≡ value (actor, event 2) → line ≡ ends.start ++ (bytes " rw" ++ last)
    read_write_read h = (read_is_spelling k line actor (event 2) h).2 ∙ ends.read_write

  module _ (ends : EndInKind actor event last) where
    pub reference_read : read_event k line ≡ value (actor, event 0) → line ≡ ends.start ++ last
    reference_read h = (read_is_spelling k line actor (event 0) h).2 ∙ ends.reference

    pub raw_read : read_event k line ≡ value (actor, event 1) → line ≡ ends.start ++ (bytes " raw" ++ last)
    raw_read h = (read_is_spelling k line actor (event 1) h).2 ∙ ends.raw

    pub cell_read : read_event k line ≡ value (actor, event 2) → line ≡ ends.start ++ (bytes " cell" ++ last)
    cell_read h = (read_is_spelling k line actor (event 2) h).2 ∙ ends.cell

  module _ (ends : EndInMark actor event last) where
    pub unmarked_read : read_event k line ≡ value (actor, event 0) → line ≡ ends.start ++ last
    unmarked_read h = (read_is_spelling k line actor (event 0) h).2 ∙ ends.unmarked

    pub fresh_read : read_event k line ≡ value (actor, event 1) → line ≡ ends.start ++ (bytes " fresh" ++ last)
    fresh_read h = (read_is_spelling k line actor (event 1) h).2 ∙ ends.fresh

-- An event without a spelling is refusal 2 to the writer.
pub unspelled : (k : Spelling) (actor : ℕ) (e : Event) → (has_spelling k actor e ≡ true → ⊥) → (out : List ℕ) → write_event k actor e out ≡ record { answer = refused 2; buffer = out }
unfolding write_event written stored
unspelled k actor e none out = ⊎_elim (λ t. absurd (none t)) (λ f. rw f) (test (has_spelling k actor e))

-- So is a borrow of any other kind or with a mark, and no line is read as one.
module _ (k : Spelling) (actor : ℕ) (w : Option Name) (n : Name) (s : Span) (r : Terms) where
  abbrev child : Event
  child = Borrow w n s r

  pub child_read : (line : List ℕ) → read_event k line ≡ value (actor, child) → ChildTerms actor r
  child_read line h = child_terms_lem k actor w s r n (read_is_spelling k line actor child h).0

  pub other_kind_written : 2 < r.kind → (out : List ℕ) → write_event k actor child out ≡ record { answer = refused 2; buffer = out }
  other_kind_written h = unspelled k actor child (λ t. omega (arith, leb-true r.kind 2 (child_terms_lem k actor w s r n t).kind))

  pub other_kind_never_read : (line : List ℕ) → read_event k line ≡ value (actor, child) → r.kind ≤ 2
  other_kind_never_read line h = leb-true r.kind 2 (child_read line h).kind

  pub marked_borrow_written : 0 < r.fresh → (out : List ℕ) → write_event k actor child out ≡ record { answer = refused 2; buffer = out }
  marked_borrow_written h = unspelled k actor child (λ t. omega (arith, (child_terms_lem k actor w s r n t).fresh))

  pub marked_borrow_never_read : (line : List ℕ) → read_event k line ≡ value (actor, child) → r.fresh ≡ 0
  marked_borrow_never_read line h = (child_read line h).fresh

-- So is a create of any other mark or with a kind, and no line is read as one.
module _ (k : Spelling) (actor : ℕ) (w : Option Name) (s : Span) (r : Terms) where
  abbrev root : Event
  root = Create w s r

  pub root_read : (line : List ℕ) → read_event k line ≡ value (actor, root) → RootTerms actor r
  root_read line h = root_terms_lem k actor w s r (read_is_spelling k line actor root h).0

  pub other_mark_written : 1 < r.fresh → (out : List ℕ) → write_event k actor root out ≡ record { answer = refused 2; buffer = out }
  other_mark_written h = unspelled k actor root (λ t. omega (arith, leb-true r.fresh 1 (root_terms_lem k actor w s r t).fresh))

  pub other_mark_never_read : (line : List ℕ) → read_event k line ≡ value (actor, root) → r.fresh ≤ 1
  other_mark_never_read line h = leb-true r.fresh 1 (root_read line h).fresh

  pub create_of_kind_written : 0 < r.kind → (out : List ℕ) → write_event k actor root out ≡ record { answer = refused 2; buffer = out }
  create_of_kind_written h = unspelled k actor root (λ t. omega (arith, (root_terms_lem k actor w s r t).kind))

  pub create_of_kind_never_read : (line : List ℕ) → read_event k line ≡ value (actor, root) → r.kind ≡ 0
  create_of_kind_never_read line h = (root_read line h).kind

-- what stands behind the last number of a line tells the right, the kind and the mark
pub words : (right_of (bytes "ro)\n") ≡ 1) × (right_of (bytes "rw)\n") ≡ 2)
words = (refl, refl)

pub kind_words : (kind_of (bytes "rw)\n") ≡ 0) × (kind_of (bytes "rw raw)\n") ≡ 1) × (kind_of (bytes "rw cell)\n") ≡ 2)
    × (kind_of (bytes "ro)\n") ≡ 0) × (kind_of (bytes "ro raw)\n") ≡ 1) × (kind_of (bytes "ro cell)\n") ≡ 2)
kind_words = (refl, refl, refl, refl, refl, refl)

pub fresh_words : (fresh_at (bytes "rw)\n") 4 ≡ 0) × (fresh_at (bytes "rw fresh)\n") 4 ≡ 1) × (fresh_at (bytes "ro)\n") 4 ≡ 0) × (fresh_at (bytes "ro fresh)\n") 4 ≡ 1)
fresh_words = (refl, refl, refl, refl)

-- ---- whole lines

abbrev pub name : ℕ → Name
name n = record { 0 = n }

abbrev pub span : ℕ → ℕ → Span
span a l = record { start = record { 0 = a }; length = l }

pub created : (spell 0 (Create None (span 0 64) (terms 1 0 0)) ≡ bytes "(create 0 64 ro)\n")
    × (spell 0 (Create None (span 0 64) (terms 2 0 0)) ≡ bytes "(create 0 64 rw)\n")
    × (spell 0 (Create (Some (name 1)) (span 0 64) (terms 1 0 0)) ≡ bytes "(create 1 0 64 ro)\n")
    × (spell 0 (Create (Some (name 1)) (span 0 64) (terms 2 0 0)) ≡ bytes "(create 1 0 64 rw)\n")
unfolding spell form spaced decimal numeral
created = (refl, refl, refl, refl)

pub created_fresh : (spell 0 (Create None (span 0 64) (terms 1 0 1)) ≡ bytes "(create 0 64 ro fresh)\n")
    × (spell 0 (Create None (span 0 64) (terms 2 0 1)) ≡ bytes "(create 0 64 rw fresh)\n")
    × (spell 0 (Create (Some (name 1)) (span 0 64) (terms 1 0 1)) ≡ bytes "(create 1 0 64 ro fresh)\n")
    × (spell 0 (Create (Some (name 1)) (span 0 64) (terms 2 0 1)) ≡ bytes "(create 1 0 64 rw fresh)\n")
unfolding spell form spaced decimal numeral
created_fresh = (refl, refl, refl, refl)

pub borrowed : (spell 0 (Borrow None (name 1) (span 0 8) (terms 1 0 0)) ≡ bytes "(borrow 1 0 8 ro)\n")
    × (spell 0 (Borrow None (name 1) (span 0 8) (terms 2 0 0)) ≡ bytes "(borrow 1 0 8 rw)\n")
    × (spell 0 (Borrow (Some (name 2)) (name 1) (span 0 8) (terms 1 0 0)) ≡ bytes "(borrow 2 1 0 8 ro)\n")
    × (spell 0 (Borrow (Some (name 2)) (name 1) (span 0 8) (terms 2 0 0)) ≡ bytes "(borrow 2 1 0 8 rw)\n")
unfolding spell form spaced decimal numeral
borrowed = (refl, refl, refl, refl)

pub borrowed_raw : (spell 0 (Borrow None (name 1) (span 0 8) (terms 1 1 0)) ≡ bytes "(borrow 1 0 8 ro raw)\n")
    × (spell 0 (Borrow None (name 1) (span 0 8) (terms 2 1 0)) ≡ bytes "(borrow 1 0 8 rw raw)\n")
    × (spell 0 (Borrow (Some (name 2)) (name 1) (span 0 8) (terms 1 1 0)) ≡ bytes "(borrow 2 1 0 8 ro raw)\n")
    × (spell 0 (Borrow (Some (name 2)) (name 1) (span 0 8) (terms 2 1 0)) ≡ bytes "(borrow 2 1 0 8 rw raw)\n")
unfolding spell form spaced decimal numeral
borrowed_raw = (refl, refl, refl, refl)

pub borrowed_cell : (spell 0 (Borrow None (name 1) (span 0 8) (terms 1 2 0)) ≡ bytes "(borrow 1 0 8 ro cell)\n")
    × (spell 0 (Borrow None (name 1) (span 0 8) (terms 2 2 0)) ≡ bytes "(borrow 1 0 8 rw cell)\n")
    × (spell 0 (Borrow (Some (name 2)) (name 1) (span 0 8) (terms 1 2 0)) ≡ bytes "(borrow 2 1 0 8 ro cell)\n")
    × (spell 0 (Borrow (Some (name 2)) (name 1) (span 0 8) (terms 2 2 0)) ≡ bytes "(borrow 2 1 0 8 rw cell)\n")
unfolding spell form spaced decimal numeral
borrowed_cell = (refl, refl, refl, refl)

-- refusal 2: a reference's kind written, a kind where the right is missing, two kinds, two spaces, the right last, a create with a kind, and a
-- word that is no kind
abbrev pub readings : Spelling → List String → List (Result (ℕ × Event))
readings k = map (λ s. read_event k (bytes s))

pub no_kinds : readings Plain ("(borrow 1 0 8 rw reference)\n" ∷ "(borrow 1 0 8 raw)\n" ∷ "(borrow 1 0 8 rw raw raw)\n" ∷ "(borrow 1 0 8 rw  raw)\n"
    ∷ "(borrow 1 0 8 raw rw)\n" ∷ "(create 0 8 rw raw)\n" ∷ "(borrow 1 0 8 rw rax)\n" ∷ []) ≡ replicate 7 (refused 2)
unfolding read_event guess through class_of number_from same has_spelling writes_name has_bit spell form spaced decimal numeral hex hex_from
no_kinds = refl

pub no_kinds_named : readings Named ("(borrow 2 1 0 8 rw reference)\n" ∷ "(borrow 2 1 0 8 raw)\n" ∷ "(borrow 2 1 0 8 rw raw raw)\n" ∷ "(borrow 2 1 0 8 rw  raw)\n"
    ∷ "(borrow 2 1 0 8 raw rw)\n" ∷ "(create 1 0 8 rw raw)\n" ∷ "(borrow 2 1 0 8 rw rax)\n" ∷ []) ≡ replicate 7 (refused 2)
unfolding read_event guess through class_of number_from same has_spelling writes_name has_bit spell form spaced decimal numeral hex hex_from
no_kinds_named = refl

-- refusal 2: a space behind the mark, two before it, the right last, the right missing, two marks, a word that is none, a line without its
-- bracket, a mark behind a kind, a kind behind a mark, and borrows with a mark
pub no_marks : readings Plain ("(create 0 8 rw fresh )\n" ∷ "(create 0 8 rw  fresh)\n" ∷ "(create 0 8 fresh rw)\n" ∷ "(create 0 8 fresh)\n"
    ∷ "(create 0 8 rw fresh fresh)\n" ∷ "(create 0 8 rw frash)\n" ∷ "(create 0 8 rw fresh" ∷ "(create 0 8 rw cell fresh)\n"
    ∷ "(create 0 8 rw fresh cell)\n" ∷ "(borrow 1 0 8 rw fresh)\n" ∷ "(borrow 1 0 8 rw cell fresh)\n" ∷ []) ≡ replicate 11 (refused 2)
unfolding read_event guess through class_of number_from same has_spelling writes_name has_bit spell form spaced decimal numeral hex hex_from
no_marks = refl

pub no_marks_named : readings Named ("(create 1 0 8 rw fresh )\n" ∷ "(create 1 0 8 rw  fresh)\n" ∷ "(create 1 0 8 fresh rw)\n" ∷ "(create 1 0 8 fresh)\n"
    ∷ "(create 1 0 8 rw fresh fresh)\n" ∷ "(create 1 0 8 rw frash)\n" ∷ "(create 1 0 8 rw fresh" ∷ "(create 1 0 8 rw cell fresh)\n"
    ∷ "(create 1 0 8 rw fresh cell)\n" ∷ "(borrow 2 1 0 8 rw fresh)\n" ∷ "(borrow 2 1 0 8 rw cell fresh)\n" ∷ []) ≡ replicate 11 (refused 2)
unfolding read_event guess through class_of number_from same has_spelling writes_name has_bit spell form spaced decimal numeral hex hex_from
no_marks_named = refl
