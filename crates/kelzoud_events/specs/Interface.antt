-- Events and answers as the numbers that pass between this library and C. An event is twelve words of 32 bits: its kind, name, start, length and
-- right, whether its new name is written out, that name, the kind of capability that a borrow makes, whether what a create makes is marked, the
-- domain that acts, and the two halves of the mask of holders that a create or borrow gives. A mark or a back has its slot in the place of a name.
-- Assumes nothing.
use Rattle.std.specs.Prelude.{ℕ, ◌+◌, ◌*◌, min, cond, List, [], ◌∷◌, eqb, leb, ltb, length, get_or, take, drop, None, Option, Some}
use Rattle.model.specs.declared.Name.{Name}
use Rattle.model.specs.declared.Span.{Span}
use Rattle.model.specs.declared.Terms.{Terms}
use Rattle.model.specs.declared.Event.{Event}
use Rattle.model.specs.declared.Event.TheVariants.{Create, Borrow, Read, Write, Drop}
use Rattle.model.specs.declared.Work.TheVariants as work
use Rattle.model.specs.declared.Asked.{Asked}
use Rattle.model.specs.declared.Asked.TheVariants as asked
use Rattle.model.specs.Requests.{Limits, Request, Single, Group, Mark, Back, request_of}
use Rattle.model.specs.Charge.{Charge}
use Rattle.model.specs.Step.{Verdict}
use Rattle.table.specs.Words.{mask_of, low_half, high_half}

-- ---- answers

-- a refusal's number k, 0 for none, and a value n: k * 2^32 + n, where a value above 2^32 - 1 is given as 2^32 - 1
unfoldable pub packed : ℕ → ℕ → ℕ
packed k n = k * 4294967296 + min n 4294967295

-- the answer to a request: its refusal, and its name
abbrev pub packed_verdict : Verdict → ℕ
packed_verdict v = packed v.refusal v.name

-- the same as two words
abbrev pub answer_words : Verdict → List ℕ
answer_words v = v.refusal ∷ v.name ∷ []

-- ---- requests

abbrev pub name_of : ℕ → Name
name_of n = record { 0 = n }

abbrev pub span_of : ℕ → ℕ → Span
span_of start length = record { start = record { 0 = start }; length = length }

-- of what is given, what a create has: it makes references; and what a borrow has: its mark is its parent's
abbrev pub root_terms : Terms → Terms
root_terms given = record { right = given.right; kind = 0; fresh = given.fresh; holders = given.holders }

abbrev pub child_terms : Terms → Terms
child_terms given = record { right = given.right; kind = given.kind; fresh = 0; holders = given.holders }

abbrev pub no_terms : Terms
no_terms = record { right = 0; kind = 0; fresh = 0; holders = 0 }

-- "An event is one of five kinds": create, borrow, read, write and drop are 1 to 5. The values that a kind lacks are not looked at.
-- Another kind stands for an event that is refused 2 in itself, a create whose right is 0.
unfoldable pub event_with : Option Name → ℕ → ℕ → ℕ → ℕ → Terms → Event
event_with new kind name start length given =
    cond (eqb kind 1) (Create new (span_of start length) (root_terms given))
    (cond (eqb kind 2) (Borrow new (name_of name) (span_of start length) (child_terms given))
    (cond (eqb kind 3) (Read (name_of name) (span_of start length))
    (cond (eqb kind 4) (Write (name_of name) (span_of start length))
    (cond (eqb kind 5) (Drop (name_of name))
    (Create new (span_of start length) no_terms)))))

-- a right above 255 is no right, as 0 is none
abbrev pub right_in : ℕ → ℕ
right_in right = cond (ltb right 256) right 0

-- a kind of capability above 255 is none, as 3 is none
abbrev pub kind_in : ℕ → ℕ
kind_in kind = cond (ltb kind 256) kind 3

-- a mark above 255 is none, as 2 is none
abbrev pub fresh_in : ℕ → ℕ
fresh_in fresh = cond (ltb fresh 256) fresh 2

-- the new name is written out where `named` is not 0
abbrev pub new_in : ℕ → ℕ → Option Name
new_in named written = cond (eqb named 0) None (Some (name_of written))

-- what its words give
abbrev pub terms_in : List ℕ → Terms
terms_in w = record { right = right_in (get_or w 4 0); kind = kind_in (get_or w 7 0); fresh = fresh_in (get_or w 8 0); holders = mask_of (get_or w 10 0) (get_or w 11 0) }

-- the event that its words are
unfoldable pub event_in : List ℕ → Event
event_in w = event_with (new_in (get_or w 5 0) (get_or w 6 0)) (get_or w 0 0) (get_or w 1 0) (get_or w 2 0) (get_or w 3 0) (terms_in w)

-- the domain that acts
abbrev pub actor_in : List ℕ → ℕ
actor_in w = get_or w 9 0

-- the slot of a mark or a back
abbrev pub slot_in : List ℕ → ℕ
slot_in w = get_or w 1 0

-- kind 6 asks that names are dropped together, 7 is a mark, and 8 a back
unfoldable pub asked_in : List ℕ → Asked
asked_in w =
    cond (eqb (get_or w 0 0) 6) (asked.Work (work.Group (actor_in w)))
    (cond (eqb (get_or w 0 0) 7) (asked.Mark (actor_in w) (slot_in w))
    (cond (eqb (get_or w 0 0) 8) (asked.Back (actor_in w) (slot_in w))
    (asked.Work (work.Single (actor_in w) (event_in w)))))

-- names[start .. start + length]; none where that reaches past their end
unfoldable pub part : ℕ → ℕ → List ℕ → List ℕ
part start size names = cond (leb (start + size) (length names)) (take size (drop start names)) []

-- the names that its words point to, in the list that is lent beside them
abbrev pub names_in : List ℕ → List ℕ → List ℕ
names_in w names = part (get_or w 2 0) (get_or w 3 0) names

-- the request that words are, with the limits that are lent beside them. Only a group has a use for the names
abbrev pub request_in : Limits → List ℕ → List ℕ → Request
request_in limits w names = request_of limits (asked_in w) (names_in w names)

-- ---- and back

abbrev pub named_of : Option Name → ℕ
named_of None = 0
named_of (Some x) = 1

abbrev pub written_of : Option Name → ℕ
written_of None = 0
written_of (Some x) = x.0

-- the words of so many names dropped together, which are the first in a list of their own
abbrev pub group_words : ℕ → ℕ → List ℕ
group_words actor count = 6 ∷ 0 ∷ 0 ∷ count ∷ 0 ∷ 0 ∷ 0 ∷ 0 ∷ 0 ∷ actor ∷ 0 ∷ 0 ∷ []

-- the words of a mark, and of a back
abbrev pub mark_words : ℕ → ℕ → List ℕ
mark_words actor slot = 7 ∷ slot ∷ 0 ∷ 0 ∷ 0 ∷ 0 ∷ 0 ∷ 0 ∷ 0 ∷ actor ∷ 0 ∷ 0 ∷ []

abbrev pub back_words : ℕ → ℕ → List ℕ
back_words actor slot = 8 ∷ slot ∷ 0 ∷ 0 ∷ 0 ∷ 0 ∷ 0 ∷ 0 ∷ 0 ∷ actor ∷ 0 ∷ 0 ∷ []

-- the words of a request, with 0 where its kind has no such value
unfoldable pub words_of : Request → List ℕ
words_of (Single by (Create w s r)) = 1 ∷ 0 ∷ s.start.0 ∷ s.length ∷ r.right ∷ named_of w ∷ written_of w ∷ 0 ∷ r.fresh ∷ by.actor ∷ low_half r.holders ∷ high_half r.holders ∷ []
words_of (Single by (Borrow w n s r)) = 2 ∷ n.0 ∷ s.start.0 ∷ s.length ∷ r.right ∷ named_of w ∷ written_of w ∷ r.kind ∷ 0 ∷ by.actor ∷ low_half r.holders ∷ high_half r.holders ∷ []
words_of (Single by (Read n s)) = 3 ∷ n.0 ∷ s.start.0 ∷ s.length ∷ 0 ∷ 0 ∷ 0 ∷ 0 ∷ 0 ∷ by.actor ∷ 0 ∷ 0 ∷ []
words_of (Single by (Write n s)) = 4 ∷ n.0 ∷ s.start.0 ∷ s.length ∷ 0 ∷ 0 ∷ 0 ∷ 0 ∷ 0 ∷ by.actor ∷ 0 ∷ 0 ∷ []
words_of (Single by (Drop n)) = 5 ∷ n.0 ∷ 0 ∷ 0 ∷ 0 ∷ 0 ∷ 0 ∷ 0 ∷ 0 ∷ by.actor ∷ 0 ∷ 0 ∷ []
words_of (Group by names) = group_words by.actor (length names)
words_of (Mark by k) = mark_words by.actor k
words_of (Back by k) = back_words by.actor k

-- ---- charges

-- a charge as words: the refusal, 0 for none, the share of each holder, and what is left over
abbrev pub charge_words : Charge → List ℕ
charge_words c = c.refusal ∷ c.share ∷ c.rest ∷ []
