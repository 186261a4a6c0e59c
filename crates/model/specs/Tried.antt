-- Card 10, tried, with the states of card 11: two sequences that differ only in another domain's events, and meet all that independence supposes; why it supposes that limits
-- are lent; and trees apart, with a sheet by which they are not. What is said of them is computed in proofs/Tried.
-- Assumes nothing.
use Rattle.std.specs.Prelude.{ℕ, List, [], ◌∷◌, map, replicate, set, None}
use Rattle.model.specs.declared.Span.{Span}
use Rattle.model.specs.declared.Cap.{Cap}
use Rattle.model.specs.declared.Tally.{Tally}
use Rattle.model.specs.declared.Terms.{Terms}
use Rattle.model.specs.declared.Event.TheVariants.{Create, Borrow, Read, Write, Drop}
use Rattle.model.specs.declared.Effect.TheVariants.{Keep, Lower, End}
use Rattle.model.specs.declared.Sheet.{Sheet}
use Rattle.model.specs.Counts.{tally}
use Rattle.model.specs.Requests.{Unlimited, Limited, Caller, Request, Single, Group, Mark, Back}
use Rattle.model.specs.Sheet6.{results, conflicts}
use Rattle.model.specs.Step.{Verdict}

abbrev pub no_counts : Tally
no_counts = tally 0 0 0 0 0 0 0

-- ---- requests, as the text spells them

abbrev span : ℕ → ℕ → Span
span start length = record { start = record { 0 = start }; length = length }

abbrev give : ℕ → ℕ → ℕ → Terms
give kind fresh holders = record { right = 2; kind = kind; fresh = fresh; holders = holders }

abbrev create : Caller → ℕ → ℕ → ℕ → ℕ → Request
create by fresh mask start length = Single by (Create None (span start length) (give 0 fresh mask))

abbrev borrow : Caller → ℕ → ℕ → ℕ → ℕ → ℕ → Request
borrow by kind mask name start length = Single by (Borrow None (record { 0 = name }) (span start length) (give kind 0 mask))

abbrev pub read : Caller → ℕ → ℕ → ℕ → Request
read by name start length = Single by (Read (record { 0 = name }) (span start length))

abbrev pub write : Caller → ℕ → ℕ → ℕ → Request
write by name start length = Single by (Write (record { 0 = name }) (span start length))

abbrev drop : Caller → ℕ → Request
drop by name = Single by (Drop (record { 0 = name }))

abbrev says : ℕ → ℕ → Verdict
says refusal name = record { refusal = refusal; name = name }

-- ---- domain 3 among the events of domain 0, and nearly alone

-- domain 0 may have three live rows, domain 3 two, and no other domain any
abbrev pub limits : List ℕ
limits = set (set (replicate 64 0) 0 3) 3 2

abbrev as0 : Caller
as0 = record { actor = 0; limits = Limited limits }

abbrev as3 : Caller
as3 = record { actor = 3; limits = Limited limits }

-- The names are given out to both in turn: domain 3 is given 2, 3 and 6, which it counts as its first, second and third.
unfoldable pub mixed : List Request
mixed =
    -- domain 0's, at the other end of the addresses
    create as0 0 1 0 8
    -- 2, `fresh`, which domain 0 may hold too
    ∷ create as3 1 9 16 8
    -- 16: nothing is written there yet
    ∷ read as3 2 16 8
    ∷ write as3 2 16 4
    -- domain 0 writes elsewhere
    ∷ write as0 1 0 8
    -- 3, raw
    ∷ borrow as3 1 8 2 16 4
    -- domain 0 does not hold it, 17: what is refused to others may name and touch anything
    ∷ drop as0 3
    -- domain 0 makes another
    ∷ create as0 0 1 32 8
    -- 18: two live rows are domain 3's limit, though four of the eight are empty
    ∷ create as3 0 8 48 8
    ∷ drop as3 3
    -- Domain 0 borrows from what domain 3 made. This is allowed, as it holds that, and takes nothing away: independence does not ask that it
    -- doesn't.
    ∷ borrow as0 0 1 2 16 4
    -- 5: domain 3 has dropped it itself
    ∷ read as3 3 16 4
    ∷ read as3 2 16 4
    -- It marks. Domain 0 does not, nor goes back: 2 and 19.
    ∷ Mark as3 4
    ∷ Mark as0 8
    ∷ Back as0 1
    -- 6, and four addresses more are written; domain 0 drops what it made
    ∷ borrow as3 0 8 2 16 4
    ∷ write as3 2 20 4
    ∷ drop as0 4
    -- domain 3 goes back: 6 is 5, the addresses are not yet written, 16, and the rest is as it was
    ∷ Back as3 4
    ∷ read as3 6 16 4
    ∷ read as3 2 16 8
    ∷ read as3 2 16 4
    -- 5, for the second of the two names
    ∷ Group as3 (2 ∷ 3 ∷ [])
    ∷ []

-- The same of domain 3, with the names that it is given here, and one event of domain 0.
unfoldable pub nearly_alone : List Request
nearly_alone =
    create as3 1 9 16 8
    ∷ read as3 1 16 8
    ∷ write as3 1 16 4
    ∷ borrow as3 1 8 1 16 4
    ∷ create as3 0 8 48 8
    ∷ drop as3 2
    ∷ create as0 0 1 40 8
    ∷ read as3 2 16 4
    ∷ read as3 1 16 4
    ∷ Mark as3 4
    ∷ borrow as3 0 8 1 16 4
    ∷ write as3 1 20 4
    ∷ Back as3 4
    ∷ read as3 4 16 4
    ∷ read as3 1 16 8
    ∷ read as3 1 16 4
    ∷ Group as3 (1 ∷ 2 ∷ [])
    ∷ []

-- what domain 3 is answered in both, by its own count of names
abbrev pub answers_to3 : List Verdict
answers_to3 =
    says 0 1 ∷ says 16 0 ∷ says 0 0 ∷ says 0 2 ∷ says 18 0 ∷ says 0 0 ∷ says 5 0 ∷ says 0 0
    ∷ says 0 0 ∷ says 0 3 ∷ says 0 0 ∷ says 0 0 ∷ says 5 0 ∷ says 16 0 ∷ says 0 0
    ∷ says 5 0 ∷ []

-- ---- without limits

abbrev free : ℕ → Caller
free actor = record { actor = actor; limits = Unlimited }

-- On two rows. Domain 0 takes one of them, and touches nothing of domain 3's: yet the last create finds no empty row, 10, and without domain 0's
-- it is allowed. So 'one sheet of limits is lent' cannot be left out.
unfoldable pub crowded : List Request
crowded = create (free 0) 0 1 0 8 ∷ create (free 3) 0 8 16 8 ∷ create (free 3) 0 8 32 8 ∷ []

unfoldable pub uncrowded : List Request
uncrowded = create (free 3) 0 8 16 8 ∷ create (free 3) 0 8 32 8 ∷ []

abbrev pub crowded_answers : List Verdict
crowded_answers = says 0 1 ∷ says 10 0 ∷ []

abbrev pub uncrowded_answers : List Verdict
uncrowded_answers = says 0 1 ∷ says 0 2 ∷ []

-- ---- trees

abbrev pub names_and_rights : List Cap → List (ℕ × ℕ)
names_and_rights = map (λ c. (c.name.0, c.right))

-- two roots, 1 and 2, and 3 borrowed from 2
unfoldable pub planted : List Request
planted = create (free 0) 0 1 0 8 ∷ create (free 0) 0 1 16 8 ∷ borrow (free 0) 0 1 2 16 4 ∷ []

-- it goes through 2, and ends 3
abbrev pub written : Request
written = write (free 0) 2 16 8

-- its span shares addresses with 2's, and none with 1's
abbrev pub created_over : Request
created_over = create (free 0) 0 1 12 8

-- card 6's sheet, but that a stranger's write keeps references: a create leaves what it touches
abbrev pub sparing_sheet : Sheet
sparing_sheet =
    record {
      reference = conflicts (results Lower Lower Lower) (results Keep End Keep);
      raw = conflicts (results Keep Keep Keep) (results Keep Keep End);
      cell = conflicts (results Lower Lower Lower) (results Keep End End);
    }

-- By that sheet two roots share addresses, and a read through 2 reaches into the tree of 1.
unfoldable pub overlapping : List Request
overlapping = create (free 0) 0 1 0 8 ∷ create (free 0) 0 1 4 8 ∷ []

abbrev pub read_there : Request
read_there = read (free 0) 2 4 4
