-- Document 01, "The bracket text", and cards 1, 6, 9 and 10: the one spelling of an event by a domain, where no name is written and where names
-- are written out.
-- Assumes nothing.
use Rattle.std.specs.Prelude.{ℕ, ◌^◌, ◌<◌, Bool, true, false, not, cond, ◌&&◌, List, [], ◌∷◌, ◌++◌, eqb, None, Option, Some}
use Rattle.model.specs.declared.Name.{Name}
use Prim.Native.Char.{code}
use Prim.Native.String as text
use Prim.Native.String.{String}
use Rattle.model.specs.Table.{is_domain}
use Rattle.model.specs.Refusals.{unfit_root, unfit_child}
use Rattle.model.specs.declared.Span.{Span}
use Rattle.model.specs.declared.Terms.{Terms}
use Rattle.model.specs.declared.Event.{Event}
use Rattle.model.specs.declared.Event.TheVariants.{Create, Borrow, Read, Write, Drop}
use Rattle.text.specs.Decimal.{decimal}
use Rattle.text.specs.Mask.{mask_word}
use Rattle.text.specs.declared.spelling.Spelling.{Spelling}
use Rattle.text.specs.declared.spelling.Spelling.TheVariants.{Plain, Named}

-- the bytes of a text
abbrev pub bytes : String → List ℕ
bytes text.[] = []
bytes (text.◌∷◌ c s) = code c ∷ bytes s

-- "One space between pieces": numbers, each with a space before it
unfoldable pub spaced : List ℕ → List ℕ
spaced [] = []
spaced (n ∷ ns) = 32 ∷ (decimal n ++ spaced ns)

-- a line: its word behind the opening bracket, its numbers, and its ending with the closing bracket and byte 10
abbrev pub line : String → List ℕ → List ℕ → List ℕ
line word numbers ending = bytes word ++ (spaced numbers ++ ending)

-- "Values", right: "1 (`ro`) or 2 (`rw`)", with a space before it
abbrev pub right_word : ℕ → List ℕ
right_word r = cond (eqb r 1) (bytes " ro") (bytes " rw")

-- Card 6: "a last word `raw` or `cell`", with a space before it; a reference has none
abbrev pub kind_word : ℕ → List ℕ
kind_word k = cond (eqb k 0) [] (cond (eqb k 1) (bytes " raw") (bytes " cell"))

-- Card 9: "the word `fresh`", with a space before it; what is not marked has none
abbrev pub fresh_word : ℕ → List ℕ
fresh_word m = cond (eqb m 1) (bytes " fresh") []

-- Card 10: "A line `(as 3 (read 2 0 8))` says who acts; domain 0, and only it, acts without." What stands before a form and what ends it, its
-- own closing bracket and byte 10 included
abbrev pub front : ℕ → List ℕ
front actor = cond (eqb actor 0) [] (bytes "(as " ++ (decimal actor ++ bytes " "))

abbrev pub back : ℕ → List ℕ
back actor = cond (eqb actor 0) (bytes ")\n") (bytes "))\n")

-- the ending of a form that has a right, a kind and a mark; the mask of holders is "written last"
abbrev pub ending : ℕ → Terms → List ℕ
ending actor r = right_word r.right ++ (kind_word r.kind ++ (fresh_word r.fresh ++ (mask_word actor r.holders ++ back actor)))

-- START LENGTH
abbrev pub span_numbers : Span → List ℕ
span_numbers s = s.start.0 ∷ s.length ∷ []

-- the new name, where it is written: card 1, "writes the new name after the word"
abbrev pub written_numbers : Option Name → List ℕ
written_numbers None = []
written_numbers (Some x) = x.0 ∷ []

-- "One form a line, ended by byte 10: `(create START LENGTH RIGHT)`, `(borrow NAME START LENGTH RIGHT)`, `(read NAME START LENGTH)`,
-- `(write NAME START LENGTH)`, `(drop NAME)`." Card 1: `(create 1 0 64 rw)`, `(borrow 2 1 0 8 rw)`. Card 6: a borrow's kind is its last
-- word, and creates make references, whose kind is 0. Card 9: "A create may end in the word `fresh`", and borrows have no such word.
-- This is the form with all that ends the line of the domain that acts.
unfoldable pub form : ℕ → Event → List ℕ
form actor (Create w s r) = line "(create" (written_numbers w ++ span_numbers s) (ending actor r)
form actor (Borrow w n s r) = line "(borrow" (written_numbers w ++ (n.0 ∷ span_numbers s)) (ending actor r)
form actor (Read n s) = line "(read" (n.0 ∷ span_numbers s) (back actor)
form actor (Write n s) = line "(write" (n.0 ∷ span_numbers s) (back actor)
form actor (Drop n) = line "(drop" (n.0 ∷ []) (back actor)

-- the line of an event by the domain that acts
unfoldable pub spell : ℕ → Event → List ℕ
spell actor e = front actor ++ form actor e

-- the spelling `Plain`, of document 01, writes no new name; `Named`, behind the line `(trace 2)`, always does
unfoldable pub writes_name : Spelling → Option Name → Bool
writes_name Plain None = true
writes_name Plain (Some x) = false
writes_name Named None = false
writes_name Named (Some x) = true

-- An event by a domain has a spelling in one of the two when its name is written as there, and it is not refused in itself, that is not
-- refusal 2 for its right, its kind, its mark, its domain or its mask of holders. What `spell` gives of any other event is the spelling of none,
-- and no line is read as it.
unfoldable pub has_spelling : Spelling → ℕ → Event → Bool
has_spelling k actor (Create w s r) = writes_name k w && not (unfit_root actor r)
has_spelling k actor (Borrow w n s r) = writes_name k w && not (unfit_child actor r)
has_spelling k actor (Read n s) = is_domain actor
has_spelling k actor (Write n s) = is_domain actor
has_spelling k actor (Drop n) = is_domain actor

-- "Names, starts and lengths in it may be any 32-bit numbers", and the mask of holders has 64 bits: what the type gives of every event of the
-- code, said of the numbers that stand for them here
abbrev pub Below32 : List ℕ → Type 0
Below32 [] = Unit {0}
Below32 (n ∷ ns) = (n < 2 ^ 32) × Below32 ns

abbrev pub InRange : Event → Type 0
InRange (Create w s r) = Below32 (written_numbers w ++ span_numbers s) × (r.holders < 2 ^ 64)
InRange (Borrow w n s r) = Below32 (written_numbers w ++ (n.0 ∷ span_numbers s)) × (r.holders < 2 ^ 64)
InRange (Read n s) = Below32 (n.0 ∷ span_numbers s)
InRange (Write n s) = Below32 (n.0 ∷ span_numbers s)
InRange (Drop n) = Below32 (n.0 ∷ [])
