-- Document 01, "The bracket text", and cards 1, 6, 9 and 10: what a line reads as in one of the two spellings, the domain and the event whose one
-- spelling it is.
-- Assumes nothing.
use Rattle.std.specs.Prelude.{ℕ, ◌+◌, Bool, true, false, cond, ◌&&◌, List, [], ◌∷◌, eqb, length, get_or, Err, None, Ok, Option, Result as Returned, Some}
use Rattle.model.specs.declared.Refusal.{Refusal}
use Rattle.model.specs.Answers.{number}
use Rattle.model.specs.declared.Name.{Name}
use Rattle.model.specs.declared.Span.{Span}
use Rattle.model.specs.declared.Event.{Event}
use Rattle.model.specs.declared.Event.TheVariants.{Create, Borrow, Read, Write, Drop}
use Rattle.text.specs.Result.{Result, value, refused}
use Rattle.text.specs.Line.{after_space}
use Rattle.text.specs.Decimal.{number_of}
use Rattle.text.specs.Mask.{mask_at}
use Rattle.text.specs.Event.{kind_word, fresh_word, spell, has_spelling}
use Rattle.text.specs.declared.spelling.Spelling.{Spelling}
use Rattle.text.specs.declared.spelling.Spelling.TheVariants.{Plain, Named}

-- two texts have the same bytes
unfoldable pub same : List ℕ → List ℕ → Bool
same [] [] = true
same [] (b ∷ t) = false
same (a ∷ s) [] = false
same (a ∷ s) (b ∷ t) = eqb a b && same s t

-- the name that a word spells, the span that two words spell, and the right: `ro` has an o, which is byte 111
abbrev pub name_of : List ℕ → Name
name_of w = record { 0 = number_of w }

abbrev pub span_of : List ℕ → List ℕ → Span
span_of v w = record { start = record { 0 = number_of v }; length = number_of w }

abbrev pub right_of : List ℕ → ℕ
right_of w = cond (eqb (get_or w 1 0) 111) 1 2

-- The kind, of the text from the right's word on: behind the right's two letters, a space and two letters more, `raw` has a w, which is byte 119,
-- and `cell` an l, which is byte 108. Where there is no kind, `fresh` has an e there and a mask a digit. (The first letters of `cell` and `fresh`
-- are digits of a mask too.)
abbrev pub kind_of : List ℕ → ℕ
kind_of w = cond (eqb (get_or w 5 0) 119) 1 (cond (eqb (get_or w 5 0) 108) 2 0)

-- the mark, at a place of such a text: behind a space and a letter `fresh` has an r, which is byte 114
abbrev pub fresh_at : List ℕ → ℕ → ℕ
fresh_at w k = cond (eqb (get_or w k 0) 114) 1 0

-- The domain that acts by a line, and the line from its form on: `as` has an a, which is byte 97, and the domain stands behind the first space and
-- the form behind the second. Where there is no `as`, domain 0 acts, and the form is the line.
abbrev pub actor_of : List ℕ → ℕ
actor_of s = cond (eqb (get_or s 1 0) 97) (number_of (after_space s)) 0

abbrev pub form_of : List ℕ → List ℕ
form_of s = cond (eqb (get_or s 1 0) 97) (after_space (after_space s)) s

-- the form of a create or borrow from its new name on, where the spelling writes one, and else the whole form: behind its first space
-- stand the words that both spellings have
abbrev pub from_name : Spelling → List ℕ → List ℕ
from_name Plain s = s
from_name Named s = after_space s

-- the new name that this begins with
abbrev pub new_name_of : Spelling → List ℕ → Option Name
new_name_of Plain t = None
new_name_of Named t = Some (name_of t)

-- the mask of holders stands behind the right's two letters and the words of the kind and the mark
abbrev pub create_of : Spelling → ℕ → List ℕ → Event
create_of k actor t =
    let right = after_space (after_space (after_space t)) in
    let fresh = fresh_at right 4 in
    Create (new_name_of k t) (span_of (after_space t) (after_space (after_space t)))
    (record { right = right_of right; kind = 0; fresh = fresh; holders = mask_at actor right (2 + length (fresh_word fresh)) })

abbrev pub borrow_of : Spelling → ℕ → List ℕ → Event
borrow_of k actor t =
    let right = after_space (after_space (after_space (after_space t))) in
    let kind = kind_of right in
    Borrow (new_name_of k t) (name_of (after_space t)) (span_of (after_space (after_space t)) (after_space (after_space (after_space t))))
    (record { right = right_of right; kind = kind; fresh = 0; holders = mask_at actor right (2 + length (kind_word kind)) })

-- The one event by a domain whose form this can be: its second byte tells the kind (c, b, r, w, or else d). Nothing is refused here. That it
-- misses no spelling is proved in proofs/Laws/OneSpelling.
unfoldable pub guess : Spelling → ℕ → List ℕ → Event
guess k actor s =
    let kind = get_or s 1 0 in
    let name = name_of (after_space s) in
    let span = span_of (after_space (after_space s)) (after_space (after_space (after_space s))) in
    cond (eqb kind 99) (create_of k actor (from_name k s))
    (cond (eqb kind 98) (borrow_of k actor (from_name k s))
    (cond (eqb kind 114) (Read name span)
    (cond (eqb kind 119) (Write name span)
    (Drop name))))

-- a line is the spelling of an event by a domain
abbrev pub is_spelling : Spelling → List ℕ → ℕ → Event → Bool
is_spelling k s actor e = has_spelling k actor e && same s (spell actor e)

-- the answer that each case of the code's answer stands for: the domain that acts, and the event
abbrev pub read_answer : Returned (ℕ × Event) Refusal → Result (ℕ × Event)
read_answer (Ok (actor, e)) = value (actor, e)
read_answer (Err f) = refused (number f)

-- the domain and the event whose spelling a line is, or refusal 2: "line or listing not in the one spelling"
unfoldable pub read_event : Spelling → List ℕ → Result (ℕ × Event)
read_event k s =
    let actor = actor_of s in
    let e = guess k actor (form_of s) in
    cond (is_spelling k s actor e) (value (actor, e)) (refused 2)
