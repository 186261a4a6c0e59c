-- Card 10: "While names last, names written as in card 1 are right, and one sheet of limits is lent and one conflict sheet kept throughout, a
-- domain that uses only capabilities it made gets the same results, up to the numbering of names, in two sequences of events, from empty tables
-- of one size, that differ only in others' events, provided these touch no span of its live capabilities, drop none and borrow from none."
-- What it gets is what it would get alone: that is the theorem (`Alone`), and two sequences are compared by it (`Independent`).
-- Assumes nothing.
use Rattle.std.specs.Prelude.{ℕ, suc, ◌≡◌, Bool, true, false, not, cond, ◌&&◌, ◌||◌, List, [], ◌∷◌, map, eqb, length, None, Option}
use Rattle.model.specs.declared.Name.{Name}
use Rattle.model.specs.declared.Span.{Span}
use Rattle.model.specs.declared.Cap.{Cap}
use Rattle.model.specs.declared.Tally.{Tally}
use Rattle.model.specs.declared.Sheet.{Sheet}
use Rattle.model.specs.declared.Event.TheVariants.{Create, Borrow, Read, Write, Drop}
use Rattle.model.specs.Lists.{cons_if, filter, any, all, answers, final}
use Rattle.model.specs.Values.{touches}
use Rattle.model.specs.Requests.{Limited, Request, Single, Group, Mark, Back, caller_of}
use Rattle.model.specs.Table.{span, named, live_rows}
use Rattle.model.specs.Limits.{made_by}
use Rattle.model.specs.Refusals.{misnamed, names_spent}
use Rattle.model.specs.Step.{Verdict, State, is_allowed, initial, answer, after}

-- ---- "up to the numbering of names"

-- The domain counts the names that it is given, from 1. `given` has them newest first, and the ordinal of a name is the number that it counts it
-- as; 0 where the name was not given to it.
unfoldable pub ordinal : List ℕ → ℕ → ℕ
ordinal [] x = 0
ordinal (y ∷ given) x = cond (eqb x y) (suc (length given)) (ordinal given x)

-- x was given to it
abbrev pub is_given : List ℕ → ℕ → Bool
is_given given x = any (λ y. eqb x y) given

abbrev pub own_name : List ℕ → Name → Name
own_name given u = record { 0 = ordinal given u.0 }

-- a request with its names so, and none written out
unfoldable pub recounted : List ℕ → Request → Request
recounted given (Single by (Create w s r)) = Single by (Create None s r)
recounted given (Single by (Borrow w u s r)) = Single by (Borrow None (own_name given u) s r)
recounted given (Single by (Read u s)) = Single by (Read (own_name given u) s)
recounted given (Single by (Write u s)) = Single by (Write (own_name given u) s)
recounted given (Single by (Drop u)) = Single by (Drop (own_name given u))
recounted given (Group by names) = Group by (map (ordinal given) names)
recounted given (Mark by k) = Mark by k
recounted given (Back by k) = Back by k

-- an answer with its name so
abbrev pub recounted_verdict : List ℕ → Verdict → Verdict
recounted_verdict given v = record { refusal = v.refusal; name = ordinal given v.name }

-- a row with its name and its parent's so
abbrev pub recounted_row : List ℕ → Cap → Cap
recounted_row given c =
    record {
      name = own_name given c.name;
      parent = own_name given c.parent;
      start = c.start;
      length = c.length;
      right = c.right;
      depth = c.depth;
      kind = c.kind;
      fresh = c.fresh;
      maker = c.maker;
      holders = c.holders;
    }

-- ---- a point of a sequence

-- the request is the domain's own
abbrev pub is_own : ℕ → Request → Bool
is_own d q = eqb d (caller_of q).actor

-- the names given to the domain after a request that gets this answer
abbrev pub given_after : ℕ → Request → Verdict → List ℕ → List ℕ
given_after d q v given = cons_if (is_own d q && not (eqb v.name 0)) v.name given

-- what is lent, and the names given to the domain so far
pub record Point : Type 0 where
  pub lent : State
  pub given : List ℕ

-- "from empty tables of one size": n rows, all zeros. The tally has issued number 0, and any other counts.
abbrev pub begin : ℕ → Tally → Point
begin n t = record { lent = initial n t; given = [] }

-- the live rows that the domain made, newest first, with names as it counts them
unfoldable pub rows_of : ℕ → Point → List Cap
rows_of d p = map (recounted_row p.given) (filter (made_by d) (live_rows p.lent.memory.table))

-- ---- what is supposed of the domain's own requests

-- "While names last, names written as in card 1 are right": no create or borrow of its own meets 9 or 12. (9 looks at no row.)
abbrev right_new : ℕ → Option Name → Bool
right_new issued w = not (names_spent [] issued) && not (misnamed issued w)

-- "a domain that uses only capabilities it made": all names that it uses were given to it. They may have ended since.
unfoldable pub uses_its_own : List ℕ → ℕ → Request → Bool
uses_its_own given issued (Single by (Create w s r)) = right_new issued w
uses_its_own given issued (Single by (Borrow w u s r)) = right_new issued w && is_given given u.0
uses_its_own given issued (Single by (Read u s)) = is_given given u.0
uses_its_own given issued (Single by (Write u s)) = is_given given u.0
uses_its_own given issued (Single by (Drop u)) = is_given given u.0
uses_its_own given issued (Group by names) = all (is_given given) names
uses_its_own given issued (Mark by k) = true
uses_its_own given issued (Back by k) = true

-- ---- what is supposed of others' requests

-- "touch no span of its live capabilities"
abbrev pub touches_none : ℕ → List Cap → Span → Bool
touches_none d rows s = all (λ c. not (made_by d c && touches s (span c))) rows

-- "drop none"
abbrev pub names_none : ℕ → List Cap → ℕ → Bool
names_none d rows u = all (λ c. not (made_by d c && named u c)) rows

-- "provided these touch no span of its live capabilities, drop none and borrow from none". Of a borrow nothing is asked, neither that it is from
-- another's nor where its span lies: it takes nothing away, and what it makes is another's. Card 11: "The independence of card 10 now supposes
-- that no other domain marks or goes back".
unfoldable pub spares : ℕ → List Cap → Request → Bool
spares d rows (Single by (Create w s r)) = touches_none d rows s
spares d rows (Single by (Borrow w u s r)) = true
spares d rows (Single by (Read u s)) = touches_none d rows s
spares d rows (Single by (Write u s)) = touches_none d rows s
spares d rows (Single by (Drop u)) = names_none d rows u.0
spares d rows (Group by names) = all (names_none d rows) names
spares d rows (Mark by k) = false
spares d rows (Back by k) = false

-- Each is judged where it comes. Of another's request that is refused nothing is asked: it touches and drops nothing.
unfoldable pub supposed : ℕ → Point → Request → Bool
supposed d p q = cond (is_own d q) (uses_its_own p.given p.lent.tally.issued q) (not (is_allowed (answer p.lent q)) || spares d (live_rows p.lent.memory.table) q)

-- "one sheet of limits is lent .. throughout": the same with every request, others' too. It may be one that is refused.
abbrev pub Throughout : List ℕ → List Request → Type 0
Throughout limits [] = Unit {0}
Throughout limits (q ∷ qs) = ((caller_of q).limits ≡ Limited limits) × Throughout limits qs

-- ---- the domain's part of a sequence

-- "one conflict sheet kept throughout"
module _ (sheet : Sheet) (d : ℕ) where
  abbrev pub next : Point → Request → Point
  next p q = record { lent = after sheet p.lent q; given = given_after d q (answer p.lent q) p.given }

  abbrev pub point_after : Point → List Request → Point
  point_after = final next

  -- all that is supposed of a sequence holds at each of its requests
  unfoldable pub undisturbed : Point → List Request → Bool
  undisturbed p [] = true
  undisturbed p (q ∷ qs) = supposed d p q && undisturbed (next p q) qs

  -- what the domain asks for, with names as it counts them
  unfoldable pub asked : Point → List Request → List Request
  asked p [] = []
  asked p (q ∷ qs) = cons_if (is_own d q) (recounted p.given q) (asked (next p q) qs)

  -- and what it is answered; a name that is new in an answer counts there already
  unfoldable pub answered : Point → List Request → List Verdict
  answered p [] = []
  answered p (q ∷ qs) = cons_if (is_own d q) (recounted_verdict (next p q).given (answer p.lent q)) (answered (next p q) qs)

-- What the domain d gets of a sequence is what it gets where it asks for the same alone, on as many rows: the answers, and the live rows in the
-- end.
pub record Alone (sheet : Sheet) (d n : ℕ) (t t₀ : Tally) (qs : List Request) : Type 0 where
  pub same_results : answered sheet d (begin n t) qs ≡ answers (after sheet) answer (initial n t₀) (asked sheet d (begin n t) qs)
  pub same_rows : rows_of d (point_after sheet d (begin n t) qs) ≡ live_rows (final (after sheet) (initial n t₀) (asked sheet d (begin n t) qs)).memory.table

-- "gets the same results, up to the numbering of names, in two sequences of events .. that differ only in others' events": where
-- `asked sheet d (begin n t) qs ≡ asked sheet d (begin n t') qs'`, the domain asks for the same in both.
pub record Independent (sheet : Sheet) (d n : ℕ) (t t' : Tally) (qs qs' : List Request) : Type 0 where
  pub same_results : answered sheet d (begin n t) qs ≡ answered sheet d (begin n t') qs'
  pub same_rows : rows_of d (point_after sheet d (begin n t) qs) ≡ rows_of d (point_after sheet d (begin n t') qs')
