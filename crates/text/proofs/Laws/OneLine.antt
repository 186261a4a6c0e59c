-- The spelling of an event by a domain is one line, ended by its newline, and none is the line `(trace 2)`: what a text of such lines is cut into.
-- Assumes nothing.
use mathlib.Core.Path.{◌≡◌, refl, ap}
use mathlib.Core.List.{List, [], ◌∷◌, ◌++◌, append_assoc}
use Prim.Native.Nat.{ℕ, zero, suc, ◌+◌, ◌^◌}
use native.Mathlib.Omega.{arith}
use lib.Dec.{eqb}
use Rattle.model.proofs.Offered.{All}
use Rattle.text.specs.Result.{value, refused}
use Rattle.text.specs.Class.{class_of}
use Rattle.text.specs.Line.{through, push, lines_of, parts_of}
use Rattle.text.specs.Decimal.{numeral, decimal, number_from}
use Rattle.text.specs.Mask.{hex, mask_word}
use Rattle.text.specs.Event.{bytes, spaced, right_word, kind_word, fresh_word, front, back, ending, span_numbers, written_numbers, form, spell, has_spelling}
use Rattle.text.specs.Read.{same, guess, read_event}
use Rattle.text.proofs.Laws.Digits.{digits, digit_at, decimal_width}
use Rattle.text.proofs.Laws.Number.{digit_class, digit_small}
use Rattle.text.proofs.Laws.Masks.{IsDigit, mask_other, hex_digits}
use Rattle.text.proofs.Laws.Words.{either}
use Rattle.text.proofs.Laws.OneSpelling.{read_is_spelling}
use Rattle.text.specs.declared.spelling.Spelling.{Spelling}
use Rattle.text.specs.declared.spelling.Spelling.TheVariants.{Plain, Named}
use Rattle.model.specs.declared.Terms.{Terms}
use Rattle.model.specs.declared.Event.{Event}
use Rattle.model.specs.declared.Event.TheVariants.{Create, Borrow, Read, Write, Drop}

-- a text that is a line by itself, whatever follows
abbrev pub Ends : List ℕ → Type 0
Ends e = (t : List ℕ) → lines_of (e ++ t) ≡ e ∷ lines_of t

-- so is one with digits in front of it, with a number, and with numbers
digits_end : (n k : ℕ) (e : List ℕ) → Ends e → Ends (digits 10 n k ++ e)
unfolding digits parts_of push
digits_end n zero e ends t = ends t
digits_end n (suc k) e ends t =
    rw (digit_class (digit_at 10 n k) (digit_small n k)) (ap (push (48 + digit_at 10 n k)) (digits_end n k e ends t))

decimal_end : (n : ℕ) (e : List ℕ) → Ends e → Ends (decimal n ++ e)
decimal_end n e ends t =
    let r = decimal_width n in
    rw r.2 (digits_end n (suc r.0) e ends t)

pub numbers_end : (ns e : List ℕ) → Ends e → Ends (spaced ns ++ e)
unfolding spaced parts_of push class_of
numbers_end [] e ends t = ends t
numbers_end (n ∷ ns) e ends t =
    rw (append_assoc (decimal n) (spaced ns) e) (ap (push 32) (decimal_end n (spaced ns ++ e) (numbers_end ns e ends) t))

-- so is one with the digits of a mask in front of it
mask_end : (w e : List ℕ) → All IsDigit w → Ends e → Ends (w ++ e)
unfolding parts_of push
mask_end [] e h ends t = ends t
mask_end (b ∷ w) e h ends t = rw (mask_other b h.0 6 (omega arith)) (ap (push b) (mask_end w e h.1 ends t))

pub hex_end : (k n : ℕ) (e : List ℕ) → Ends e → Ends (hex k n ++ e)
hex_end k n e ends = mask_end (hex k n) e (hex_digits k n) ends

pub back_ends : (actor : ℕ) → Ends (back actor)
unfolding parts_of push class_of
back_ends actor = either Ends (eqb actor 0) _ _ (λ t. refl) (λ t. refl)

-- so is one with a word of an ending in front of it, or with what stands before a form
module _ (e : List ℕ) (ends : Ends e) where
  behind : List ℕ → Type 0
  behind s = Ends (s ++ e)

  word_end : (maker mask : ℕ) → Ends (mask_word maker mask ++ e)
  unfolding behind parts_of push class_of
  word_end maker mask = either behind (eqb mask (2 ^ maker)) _ _ ends (λ t. rw (hex_end 16 mask e ends t))

  fresh_end : (m : ℕ) → Ends (fresh_word m ++ e)
  unfolding behind parts_of push class_of
  fresh_end m = either behind (eqb m 1) _ _ (λ t. rw (ends t)) ends

  kind_end : (k : ℕ) → Ends (kind_word k ++ e)
  unfolding behind parts_of push class_of
  kind_end k = either behind (eqb k 0) _ _ ends (either behind (eqb k 1) _ _ (λ t. rw (ends t)) (λ t. rw (ends t)))

  right_end : (r : ℕ) → Ends (right_word r ++ e)
  unfolding behind parts_of push class_of
  right_end r = either behind (eqb r 1) _ _ (λ t. rw (ends t)) (λ t. rw (ends t))

  pub front_end : (actor : ℕ) → Ends (front actor ++ e)
  unfolding behind parts_of push class_of
  front_end actor =
      let named : Ends ((decimal actor ++ bytes " ") ++ e) = rw (append_assoc (decimal actor) (bytes " ") e) (decimal_end actor (32 ∷ e) (λ t. ap (push 32) (ends t))) in
      either behind (eqb actor 0) _ _ ends (λ t. rw (named t))

ending_ends : (actor : ℕ) (r : Terms) → Ends (ending actor r)
ending_ends actor r =
    let mask = word_end (back actor) (back_ends actor) actor r.holders in
    let fresh = fresh_end _ mask r.fresh in
    right_end _ (kind_end _ fresh r.kind) r.right

form_ends : (actor : ℕ) (e : Event) → Ends (form actor e)
unfolding form parts_of push class_of
form_ends actor (Create w s r) t = rw (numbers_end (written_numbers w ++ span_numbers s) (ending actor r) (ending_ends actor r) t)
form_ends actor (Borrow w n s r) t = rw (numbers_end (written_numbers w ++ (n.0 ∷ span_numbers s)) (ending actor r) (ending_ends actor r) t)
form_ends actor (Read n s) t = rw (numbers_end (n.0 ∷ span_numbers s) (back actor) (back_ends actor) t)
form_ends actor (Write n s) t = rw (numbers_end (n.0 ∷ span_numbers s) (back actor) (back_ends actor) t)
form_ends actor (Drop n) t = rw (numbers_end (n.0 ∷ []) (back actor) (back_ends actor) t)

-- the lines of a text that begins with an event's spelling are that and the lines of the rest
pub spell_is_line : (actor : ℕ) (e : Event) (t : List ℕ) → lines_of (spell actor e ++ t) ≡ spell actor e ∷ lines_of t
unfolding spell
spell_is_line actor e = front_end (form actor e) (form_ends actor e) actor

-- a text that reads as an event is a line with its newline
pub read_is_line : (k : Spelling) (s : List ℕ) (actor : ℕ) (e : Event) → read_event k s ≡ value (actor, e) → (t : List ℕ) → lines_of (s ++ t) ≡ s ∷ lines_of t
read_is_line k s actor e h t = rw (read_is_spelling k s actor e h).2 (spell_is_line actor e t)

-- card 1: the line that tells that names are written out "is no event"
pub header_is_no_event : (k : Spelling) → read_event k (bytes "(trace 2)\n") ≡ refused 2
unfolding read_event guess through class_of number_from same has_spelling spell form spaced decimal numeral
header_is_no_event Plain = refl
header_is_no_event Named = refl
