-- Document 01, "Traces to try", those with a star; "Eleven ways to be turned down", the examples that are events; cards 1, 2 and 4
-- to 11; and capcheck's example.
-- One table, and one computed proof over it (proofs/Traces).
-- Assumes nothing.
use Rattle.std.specs.Prelude.{ℕ, zero, suc, Bool, true, false, ◌&&◌, List, [], ◌∷◌, ◌++◌, map, reverse, eqb, replicate, set, None, Some}
use Rattle.model.specs.declared.Span.{Span}
use Rattle.model.specs.declared.Cap.{Cap}
use Rattle.model.specs.declared.Tally.{Tally}
use Rattle.model.specs.declared.Terms.{Terms}
use Rattle.model.specs.declared.Event.TheVariants.{Create, Borrow, Read, Write, Drop}
use Rattle.model.specs.declared.Effect.TheVariants.{Keep, Lower, End}
use Rattle.model.specs.declared.Sheet.{Sheet}
use Rattle.model.specs.Lists.{answers, final}
use Rattle.model.specs.Sheet6.{results, conflicts, sheet6}
use Rattle.model.specs.Table.{row, empty_row, live_rows}
use Rattle.model.specs.Counts.{tally}
use Rattle.model.specs.Requests.{Unlimited, Limited, Caller, Request, Single, Group, Mark, Back}
use Rattle.model.specs.Slots.{Nothing, Stored, unstored}
use Rattle.model.specs.Step.{Verdict, State, initial, answer, after}

-- ---- requests, as the text spells them

abbrev ro : ℕ
ro = 1

abbrev RW : ℕ
RW = 2

abbrev span : ℕ → ℕ → Span
span start length = record { start = record { 0 = start }; length = length }

-- domain 0, without limits, alone holds what it makes
abbrev by : Caller
by = record { actor = 0; limits = Unlimited }

abbrev terms : ℕ → ℕ → ℕ → Terms
terms right kind fresh = record { right = right; kind = kind; fresh = fresh; holders = 1 }

abbrev create : ℕ → ℕ → ℕ → Request
create start length right = Single by (Create None (span start length) (terms right 0 0))

abbrev borrow : ℕ → ℕ → ℕ → ℕ → Request
borrow name start length right = Single by (Borrow None (record { 0 = name }) (span start length) (terms right 0 0))

abbrev read : ℕ → ℕ → ℕ → Request
read name start length = Single by (Read (record { 0 = name }) (span start length))

abbrev write : ℕ → ℕ → ℕ → Request
write name start length = Single by (Write (record { 0 = name }) (span start length))

abbrev drop : ℕ → Request
drop name = Single by (Drop (record { 0 = name }))

-- with a kind
abbrev borrow_as : ℕ → ℕ → ℕ → ℕ → ℕ → Request
borrow_as kind name start length right = Single by (Borrow None (record { 0 = name }) (span start length) (terms right kind 0))

-- with the name written out
abbrev create_named : ℕ → ℕ → ℕ → ℕ → Request
create_named new start length right = Single by (Create (Some (record { 0 = new })) (span start length) (terms right 0 0))

abbrev borrow_named : ℕ → ℕ → ℕ → ℕ → ℕ → Request
borrow_named new name start length right = Single by (Borrow (Some (record { 0 = new })) (record { 0 = name }) (span start length) (terms right 0 0))

-- ---- traces

-- the sheet, card 6's where nothing else is said; what is lent at first; each event with its answer, a refusal (0: allowed) and a name; and
-- at the end the live names, rising, with their rights
pub record Trace : Type 0 where
  pub sheet : Sheet
  pub lent : State
  pub lines : List (Request × ℕ × ℕ)
  pub left : List (ℕ × ℕ)

abbrev from : State → List (Request × ℕ × ℕ) → List (ℕ × ℕ) → Trace
from lent lines left = record { sheet = sheet6; lent = lent; lines = lines; left = left }

abbrev no_counts : ℕ → Tally
no_counts issued = tally issued 0 0 0 0 0 0

-- this table with so many names issued, and nothing written
abbrev lending : List Cap → ℕ → State
lending table issued = record { memory = record { table = table; bits = replicate 8192 0 }; tally = no_counts issued; slots = unstored }

-- from so many rows, all zeros
abbrev trace : ℕ → List (Request × ℕ × ℕ) → List (ℕ × ℕ) → Trace
trace rows = from (initial rows (no_counts 0))

-- the same after the line `(create 0 64 rw)`
abbrev created : ℕ → List (Request × ℕ × ℕ) → List (ℕ × ℕ) → Trace
created rows lines left = trace rows ((create 0 64 RW, 0, 1) ∷ lines) left

unfoldable pub starred : List Trace
starred =
    -- 1
    created 1024 ((borrow 1 0 64 RW, 0, 2) ∷ (borrow 1 1 64 RW, 6, 0) ∷ []) ((1, RW) ∷ (2, RW) ∷ [])
    -- 2
    ∷ created 1024 ((borrow 1 0 8 RW, 0, 2) ∷ (write 1 8 1, 0, 0) ∷ []) ((1, RW) ∷ (2, RW) ∷ [])
    ∷ created 1024 ((borrow 1 0 8 RW, 0, 2) ∷ (write 1 7 1, 0, 0) ∷ []) ((1, RW) ∷ [])
    -- 3
    ∷ created 1024 ((borrow 1 0 8 RW, 0, 2) ∷ (borrow 1 0 8 RW, 0, 3) ∷ (write 2 0 8, 0, 0) ∷ []) ((1, RW) ∷ (2, RW) ∷ [])
    -- 4
    ∷ created 1024 ((borrow 1 0 8 RW, 0, 2) ∷ (borrow 1 0 8 RW, 0, 3) ∷ (read 2 0 1, 0, 0) ∷ (read 3 0 1, 0, 0) ∷ []) ((1, RW) ∷ (2, ro) ∷ (3, ro) ∷ [])
    -- 5
    ∷ created 1024 ((borrow 1 0 32 RW, 0, 2) ∷ (borrow 2 16 16 RW, 0, 3) ∷ (write 1 0 1, 0, 0) ∷ []) ((1, RW) ∷ [])
    -- 6, where card 2 gives 5
    ∷ created 1024 ((drop 1, 0, 0) ∷ (read 1 0 0, 5, 0) ∷ []) []
    -- 7
    ∷ trace 1024 ((create 4294967295 1 RW, 0, 1) ∷ (create 4294967295 2 RW, 3, 0) ∷ []) ((1, RW) ∷ [])
    -- 8
    ∷ created 1 ((borrow 1 0 8 RW, 10, 0) ∷ (drop 1, 0, 0) ∷ (create 0 64 RW, 0, 2) ∷ []) ((2, RW) ∷ [])
    -- 9
    ∷ trace 0 ((create 0 64 RW, 10, 0) ∷ []) []
    -- 10
    ∷ trace 1024
    ((create 4096 8 RW, 0, 1) ∷ (borrow 1 4096 8 RW, 0, 2) ∷ (borrow 2 4096 8 RW, 0, 3) ∷ (write 2 4096 8, 0, 0) ∷ (write 3 4096 8, 5, 0) ∷ [])
    ((1, RW) ∷ (2, RW) ∷ [])
    ∷ []

-- n borrows of `0 8 rw`, each from the newest name, which is x at first
abbrev nested : ℕ → ℕ → List (Request × ℕ × ℕ)
nested zero x = []
nested (suc n) x = (borrow x 0 8 RW, 0, suc x) ∷ nested n (suc x)

-- the names from x on, n of them, with `rw`
abbrev names : ℕ → ℕ → List (ℕ × ℕ)
names zero x = []
names (suc n) x = (x, RW) ∷ names n (suc x)

abbrev named_three : Cap
named_three = row (record { name = 3; parent = 0; span = span 0 64; kind = 0; fresh = 0; maker = 0; holders = 1 }) RW 1

abbrev named_one : Cap
named_one = row (record { name = 1; parent = 0; span = span 0 64; kind = 0; fresh = 0; maker = 0; holders = 1 }) RW 1

unfoldable pub refused : List Trace
refused =
    -- 1: rows both named 3
    from (lending (named_three ∷ named_three ∷ []) 3) ((read 3 0 8, 1, 0) ∷ []) ((3, RW) ∷ (3, RW) ∷ [])
    -- 2: an event whose right is neither 1 nor 2
    ∷ created 2 ((borrow 1 0 8 0, 2, 0) ∷ (create 0 8 3, 2, 0) ∷ []) ((1, RW) ∷ [])
    -- 3: an end above 4,294,967,296; its example in document 01 is allowed by card 2
    ∷ created 2 ((read 1 4294967295 2, 3, 0) ∷ (read 1 0 0, 0, 0) ∷ []) ((1, RW) ∷ [])
    -- 4
    ∷ created 2 ((read 9 0 8, 4, 0) ∷ []) ((1, RW) ∷ [])
    -- 5
    ∷ created 2 ((drop 1, 0, 0) ∷ (read 1 0 8, 5, 0) ∷ []) []
    -- 6
    ∷ created 2 ((read 1 60 8, 6, 0) ∷ []) ((1, RW) ∷ [])
    -- 7
    ∷ created 2 ((borrow 1 0 8 ro, 0, 2) ∷ (write 2 0 8, 7, 0) ∷ []) ((1, RW) ∷ (2, ro) ∷ [])
    -- 8
    ∷ created 1024 (nested 63 1 ++ ((borrow 64 0 8 RW, 8, 0) ∷ [])) (names 64 1)
    -- 9: with 1,000,000 issued
    ∷ from (lending (named_one ∷ empty_row ∷ []) 1000000) ((create 0 8 RW, 9, 0) ∷ []) ((1, RW) ∷ [])
    -- 10
    ∷ created 2 ((borrow 1 0 8 ro, 0, 2) ∷ (create 0 8 RW, 10, 0) ∷ []) ((1, RW) ∷ (2, ro) ∷ [])
    ∷ []

-- Card 1: the right name is let through; a wrong one, 0 and one above 1,000,000 are 12; 9 comes before 12, and 12 before 10
unfoldable pub written : List Trace
written =
    trace 2 ((create_named 1 0 64 RW, 0, 1) ∷ (borrow_named 2 1 0 8 RW, 0, 2) ∷ []) ((1, RW) ∷ (2, RW) ∷ [])
    ∷ created 2 ((create_named 1 0 8 RW, 12, 0) ∷ (borrow_named 3 1 0 8 RW, 12, 0) ∷ (borrow_named 2 1 0 8 RW, 0, 2) ∷ []) ((1, RW) ∷ (2, RW) ∷ [])
    ∷ created 2 ((create_named 0 0 8 RW, 12, 0) ∷ (create_named 1000001 0 8 RW, 12, 0) ∷ []) ((1, RW) ∷ [])
    ∷ from (lending (named_one ∷ empty_row ∷ []) 1000000) ((create_named 1000001 0 8 RW, 9, 0) ∷ []) ((1, RW) ∷ [])
    ∷ created 1 ((create_named 3 0 8 RW, 12, 0) ∷ (create_named 2 0 8 RW, 10, 0) ∷ []) ((1, RW) ∷ [])
    ∷ []

-- Card 2: a span of length 0 touches nothing; it lies inside another up to that one's end; liveness and right are judged as before
unfoldable pub empty : List Trace
empty =
    trace 4 ((create 0 8 RW, 0, 1) ∷ (borrow 1 0 8 RW, 0, 2) ∷ (write 1 4 0, 0, 0) ∷ []) ((1, RW) ∷ (2, RW) ∷ [])
    ∷ trace 4 ((create 0 8 RW, 0, 1) ∷ (borrow 1 8 0 RW, 0, 2) ∷ (borrow 1 9 0 RW, 6, 0) ∷ (write 1 0 8, 0, 0) ∷ []) ((1, RW) ∷ (2, RW) ∷ [])
    ∷ trace 4 ((create 0 8 RW, 0, 1) ∷ (borrow 1 0 0 ro, 0, 2) ∷ (write 2 0 0, 7, 0) ∷ (drop 2, 0, 0) ∷ (read 2 0 0, 5, 0) ∷ []) ((1, RW) ∷ [])
    ∷ trace 4 ((create 4294967295 1 RW, 0, 1) ∷ (create 4294967295 0 RW, 0, 2) ∷ (read 1 4294967295 0, 0, 0) ∷ []) ((1, RW) ∷ (2, RW) ∷ [])
    ∷ []

-- Card 4: a create over a live root ends it and its untouched child; one beside it ends nothing; one over a part of a child ends the
-- child and its parent, which it touches too, and leaves another root alone; one across a root's end ends that root; one of length 0
-- ends nothing; and into a full table it is 10, though it would free rows
unfoldable pub reused : List Trace
reused =
    created 1024 ((borrow 1 0 8 RW, 0, 2) ∷ (create 32 16 RW, 0, 3) ∷ (read 2 0 8, 5, 0) ∷ []) ((3, RW) ∷ [])
    ∷ created 1024 ((borrow 1 0 8 RW, 0, 2) ∷ (create 64 16 RW, 0, 3) ∷ (write 2 0 8, 0, 0) ∷ []) ((1, RW) ∷ (2, RW) ∷ (3, RW) ∷ [])
    ∷ created 1024 ((create 64 64 RW, 0, 2) ∷ (borrow 1 0 16 RW, 0, 3) ∷ (create 8 4 RW, 0, 4) ∷ (read 3 0 8, 5, 0) ∷ (read 1 32 8, 5, 0) ∷ []) ((2, RW) ∷ (4, RW) ∷ [])
    ∷ created 1024 ((create 63 2 ro, 0, 2) ∷ []) ((2, ro) ∷ [])
    ∷ created 2 ((borrow 1 0 8 RW, 0, 2) ∷ (create 0 64 RW, 10, 0) ∷ (drop 2, 0, 0) ∷ (create 0 64 RW, 0, 3) ∷ (borrow 3 0 8 RW, 0, 4) ∷ []) ((3, RW) ∷ (4, RW) ∷ [])
    ∷ created 4 ((create 8 0 RW, 0, 2) ∷ (create 8 1 RW, 0, 3) ∷ []) ((2, RW) ∷ (3, RW) ∷ [])
    ∷ []

-- Card 5: siblings, a root with one of its descendants, and the card's three of nine roots are dropped together; another root stays.
-- Names are judged in the order written: 2 ended before 9 not issued is 5, and 0 before 2 ended is 4. Nothing is dropped where a later
-- name is refused. No names, names that do not rise strictly, and 65 of them are 13, before 4 and after 1; 64 are not. One name is the
-- old drop.
unfoldable pub together : List Trace
together =
    created 1024 ((borrow 1 0 8 RW, 0, 2) ∷ (borrow 1 8 8 RW, 0, 3) ∷ (borrow 1 16 8 RW, 0, 4) ∷ (Group by (2 ∷ 4 ∷ []), 0, 0) ∷ (read 4 16 8, 5, 0) ∷ []) ((1, RW) ∷ (3, RW) ∷ [])
    ∷ created 1024 ((create 64 64 RW, 0, 2) ∷ (borrow 1 0 32 RW, 0, 3) ∷ (borrow 3 0 8 RW, 0, 4) ∷ (borrow 4 0 8 RW, 0, 5) ∷ (Group by (1 ∷ 4 ∷ []), 0, 0) ∷ []) ((2, RW) ∷ [])
    ∷ created 1024
    ((create 64 8 RW, 0, 2) ∷ (create 72 8 RW, 0, 3) ∷ (create 80 8 RW, 0, 4) ∷ (create 88 8 RW, 0, 5) ∷ (create 96 8 RW, 0, 6) ∷ (create 104 8 RW, 0, 7) ∷ (create 112 8 RW, 0, 8) ∷ (create 120 8 RW, 0, 9) ∷ (Group by (2 ∷ 5 ∷ 9 ∷ []), 0, 0) ∷ [])
    ((1, RW) ∷ (3, RW) ∷ (4, RW) ∷ (6, RW) ∷ (7, RW) ∷ (8, RW) ∷ [])
    ∷ created 1024 ((borrow 1 0 8 RW, 0, 2) ∷ (drop 2, 0, 0) ∷ (Group by (2 ∷ 9 ∷ []), 5, 0) ∷ (Group by (0 ∷ 2 ∷ []), 4, 0) ∷ []) ((1, RW) ∷ [])
    ∷ created 1024 ((borrow 1 0 8 RW, 0, 2) ∷ (Group by (1 ∷ 2 ∷ 3 ∷ []), 4, 0) ∷ (drop 2, 0, 0) ∷ (Group by (1 ∷ 2 ∷ []), 5, 0) ∷ []) ((1, RW) ∷ [])
    ∷ created 1024 ((Group by [], 13, 0) ∷ (Group by (9 ∷ 8 ∷ []), 13, 0) ∷ (Group by (1 ∷ 1 ∷ []), 13, 0) ∷ []) ((1, RW) ∷ [])
    ∷ created 1024 ((Group by (map (λ p. p.0) (names 65 1)), 13, 0) ∷ (Group by (map (λ p. p.0) (names 64 1)), 4, 0) ∷ []) ((1, RW) ∷ [])
    ∷ from (lending (named_three ∷ named_three ∷ []) 3) ((Group by [], 1, 0) ∷ []) ((3, RW) ∷ (3, RW) ∷ [])
    ∷ created 1024 ((Group by (1 ∷ []), 0, 0) ∷ (Group by (1 ∷ []), 5, 0) ∷ []) []
    ∷ []

-- Card 6: a write through the parent of a raw capability, or from below it, spares it, and so does every read; a write from elsewhere ends
-- it. A write through a cell or from below it ends nothing outside that cell, and ends what it touches inside; a read from there lowers. A
-- create ends raw ones and cells. Of a cell inside a cell the inner one decides, and for a user beside the inner one the outer one. A kind
-- above 2 is 2 in an event and 1 in a row, as is a root of kind 1 or 2.
unfoldable pub kinds : List Trace
kinds =
    created 1024 ((borrow_as 1 1 0 8 RW, 0, 2) ∷ (write 1 0 8, 0, 0) ∷ (borrow 1 0 8 RW, 0, 3) ∷ (write 3 0 8, 0, 0) ∷ (read 1 0 8, 0, 0) ∷ []) ((1, RW) ∷ (2, RW) ∷ (3, ro) ∷ [])
    ∷ created 1024 ((borrow 1 0 8 RW, 0, 2) ∷ (borrow_as 1 2 0 8 RW, 0, 3) ∷ (borrow 1 8 8 RW, 0, 4) ∷ (write 4 8 8, 0, 0) ∷ (write 1 0 8, 0, 0) ∷ []) ((1, RW) ∷ (4, RW) ∷ [])
    ∷ created 1024
    ((borrow_as 2 1 0 8 RW, 0, 2) ∷ (borrow 1 0 8 RW, 0, 3) ∷ (borrow 2 0 8 RW, 0, 4) ∷ (write 4 0 8, 0, 0) ∷ (write 2 0 8, 0, 0) ∷ (read 4 0 8, 5, 0) ∷ (read 2 0 8, 0, 0) ∷ [])
    ((1, RW) ∷ (2, RW) ∷ (3, ro) ∷ [])
    ∷ created 1024 ((borrow_as 2 1 0 8 RW, 0, 2) ∷ (borrow_as 1 2 0 8 RW, 0, 3) ∷ (create 0 8 RW, 0, 4) ∷ []) ((4, RW) ∷ [])
    ∷ created 1024
    ((borrow_as 2 1 0 8 RW, 0, 2) ∷ (borrow_as 2 2 0 8 RW, 0, 3) ∷ (borrow 2 0 8 RW, 0, 4) ∷ (borrow 1 0 8 RW, 0, 5) ∷ (write 3 0 8, 0, 0) ∷ (write 4 0 8, 0, 0) ∷ [])
    ((1, RW) ∷ (2, RW) ∷ (4, RW) ∷ (5, RW) ∷ [])
    ∷ created 1024 ((borrow_as 3 1 0 8 RW, 2, 0) ∷ (borrow_as 255 9 0 8 RW, 2, 0) ∷ []) ((1, RW) ∷ [])
    ∷ from (lending (row (record { name = 1; parent = 0; span = span 0 64; kind = 1; fresh = 0; maker = 0; holders = 1 }) RW 1 ∷ []) 1) ((read 1 0 8, 1, 0) ∷ []) ((1, RW) ∷ [])
    ∷ from (lending (named_one ∷ row (record { name = 2; parent = 1; span = span 0 8; kind = 3; fresh = 0; maker = 0; holders = 1 }) RW 2 ∷ []) 2) ((read 1 0 8, 1, 0) ∷ []) ((1, RW) ∷ (2, RW) ∷ [])
    ∷ []

-- Card 6, after section 5.1 of source document 000: figure 3 with its raw pointer as one; raw pointers and their parent in turn; a raw one
-- struck with its parent by a stranger's write, and alone where its parent is raw; two cells side by side; a read from inside a cell; raw
-- pointers below one cell; a cell beside a shared reference; two guards below one cell; and what is not found, writes through a cell
unfoldable pub in_rust : List Trace
in_rust =
    trace 1024 ((create 4096 8 RW, 0, 1) ∷ (borrow_as 1 1 4096 8 RW, 0, 2) ∷ (borrow 2 4096 8 RW, 0, 3) ∷ (write 2 4096 8, 0, 0) ∷ (write 3 4096 8, 5, 0) ∷ []) ((1, RW) ∷ (2, RW) ∷ [])
    ∷ trace 1024 ((create 0 64 RW, 0, 1) ∷ (borrow 1 0 8 RW, 0, 2) ∷ (borrow_as 1 2 0 8 RW, 0, 3) ∷ (borrow_as 1 2 0 8 RW, 0, 4) ∷ (write 3 0 8, 0, 0) ∷ (write 4 0 8, 0, 0) ∷ (write 2 0 8, 0, 0) ∷ (read 3 0 8, 0, 0) ∷ (write 4 0 8, 0, 0) ∷ []) ((1, RW) ∷ (2, RW) ∷ (3, RW) ∷ (4, RW) ∷ [])
    ∷ trace 1024 ((create 0 64 RW, 0, 1) ∷ (borrow 1 0 8 RW, 0, 2) ∷ (borrow_as 1 2 0 8 RW, 0, 3) ∷ (borrow 1 4 8 RW, 0, 4) ∷ (write 4 4 4, 0, 0) ∷ (write 3 0 8, 5, 0) ∷ []) ((1, RW) ∷ (4, RW) ∷ [])
    ∷ trace 1024 ((create 0 64 RW, 0, 1) ∷ (borrow_as 1 1 0 8 RW, 0, 2) ∷ (borrow_as 1 2 0 8 RW, 0, 3) ∷ (write 1 0 8, 0, 0) ∷ (write 2 0 8, 0, 0) ∷ (read 3 0 8, 5, 0) ∷ []) ((1, RW) ∷ (2, RW) ∷ [])
    ∷ trace 1024 ((create 0 8 RW, 0, 1) ∷ (borrow_as 2 1 0 8 RW, 0, 2) ∷ (borrow_as 2 1 0 8 RW, 0, 3) ∷ (write 2 0 8, 0, 0) ∷ (write 3 0 8, 0, 0) ∷ (write 2 0 8, 0, 0) ∷ []) ((1, RW) ∷ (2, RW) ∷ (3, RW) ∷ [])
    ∷ trace 1024 ((create 0 8 RW, 0, 1) ∷ (borrow_as 2 1 0 8 RW, 0, 2) ∷ (borrow_as 2 1 0 8 RW, 0, 3) ∷ (write 2 0 8, 0, 0) ∷ (read 3 0 8, 0, 0) ∷ (write 2 0 8, 7, 0) ∷ []) ((1, RW) ∷ (2, ro) ∷ (3, RW) ∷ [])
    ∷ trace 1024 ((create 0 8 RW, 0, 1) ∷ (borrow_as 2 1 0 8 RW, 0, 2) ∷ (borrow_as 1 2 0 8 RW, 0, 3) ∷ (borrow_as 1 2 0 8 RW, 0, 4) ∷ (write 3 0 8, 0, 0) ∷ (read 4 0 8, 0, 0) ∷ (write 2 0 8, 0, 0) ∷ (write 3 0 8, 0, 0) ∷ []) ((1, RW) ∷ (2, RW) ∷ (3, RW) ∷ (4, RW) ∷ [])
    ∷ trace 1024 ((create 0 16 RW, 0, 1) ∷ (borrow 1 0 16 ro, 0, 2) ∷ (borrow_as 2 1 0 8 RW, 0, 3) ∷ (write 3 0 8, 0, 0) ∷ (read 2 8 8, 0, 0) ∷ (read 3 0 8, 0, 0) ∷ (write 3 0 8, 0, 0) ∷ []) ((1, RW) ∷ (2, ro) ∷ (3, RW) ∷ [])
    ∷ trace 1024 ((create 0 8 RW, 0, 1) ∷ (borrow_as 2 1 0 8 RW, 0, 2) ∷ (borrow 2 0 8 RW, 0, 3) ∷ (borrow 2 0 8 RW, 0, 4) ∷ (write 4 0 8, 0, 0) ∷ (write 3 0 8, 5, 0) ∷ []) ((1, RW) ∷ (2, RW) ∷ (4, RW) ∷ [])
    ∷ trace 1024 ((create 0 8 RW, 0, 1) ∷ (borrow 1 0 8 RW, 0, 2) ∷ (borrow_as 2 1 0 8 RW, 0, 3) ∷ (write 3 0 8, 0, 0) ∷ (write 2 0 8, 0, 0) ∷ []) ((1, RW) ∷ (2, RW) ∷ [])
    ∷ []

-- Card 7: by a sheet in which a stranger's write lowers references and ends cells, a read ends from beside a cell, and all else is kept: a
-- create lowers a root with its subtree, and a read through a cell ends what is outside it
abbrev pub mild_sheet : Sheet
mild_sheet =
    record {
      reference = conflicts (results End Keep Keep) (results Keep Keep Lower);
      raw = conflicts (results Keep Keep Keep) (results Keep Keep Keep);
      cell = conflicts (results Keep Keep Keep) (results Keep Keep End);
    }

abbrev mildly : ℕ → List (Request × ℕ × ℕ) → List (ℕ × ℕ) → Trace
mildly rows lines left = record { sheet = mild_sheet; lent = initial rows (no_counts 0); lines = (create 0 64 RW, 0, 1) ∷ lines; left = left }

unfoldable pub sheets : List Trace
sheets =
    mildly 1024 ((borrow 1 0 8 RW, 0, 2) ∷ (borrow_as 2 1 8 8 RW, 0, 3) ∷ (create 4 8 RW, 0, 4) ∷ (write 1 0 8, 7, 0) ∷ []) ((1, ro) ∷ (2, ro) ∷ (4, RW) ∷ [])
    ∷ mildly 1024 ((borrow 1 0 8 RW, 0, 2) ∷ (borrow_as 2 1 0 8 RW, 0, 3) ∷ (write 1 0 8, 0, 0) ∷ (read 3 0 8, 0, 0) ∷ []) ((1, RW) ∷ (3, RW) ∷ [])
    ∷ []

-- Card 8, each with a read and then without it
unfoldable pub thinned : List Trace
thinned =
    -- the read strikes 2, which is above 3, and not 4
    created 1024 ((borrow 1 0 32 RW, 0, 2) ∷ (borrow 2 16 8 RW, 0, 3) ∷ (borrow 1 32 8 RW, 0, 4) ∷ (read 1 0 4, 0, 0) ∷ []) ((1, RW) ∷ (2, ro) ∷ (3, ro) ∷ (4, RW) ∷ [])
    ∷ created 1024 ((borrow 1 0 32 RW, 0, 2) ∷ (borrow 2 16 8 RW, 0, 3) ∷ (borrow 1 32 8 RW, 0, 4) ∷ []) ((1, RW) ∷ (2, RW) ∷ (3, RW) ∷ (4, RW) ∷ [])
    -- where some event is refused, a refusal may be hidden
    ∷ created 1024 ((borrow 1 0 16 RW, 0, 2) ∷ (read 1 0 4, 0, 0) ∷ (write 2 0 8, 7, 0) ∷ []) ((1, RW) ∷ (2, ro) ∷ [])
    ∷ created 1024 ((borrow 1 0 16 RW, 0, 2) ∷ (write 2 0 8, 0, 0) ∷ []) ((1, RW) ∷ (2, RW) ∷ [])
    -- where a read ends, what was allowed may be refused
    ∷ mildly 3 ((borrow 1 0 8 RW, 0, 2) ∷ (borrow_as 2 1 0 8 RW, 0, 3) ∷ (read 3 0 8, 0, 0) ∷ (create 64 8 RW, 0, 4) ∷ []) ((1, RW) ∷ (3, RW) ∷ (4, RW) ∷ [])
    ∷ mildly 3 ((borrow 1 0 8 RW, 0, 2) ∷ (borrow_as 2 1 0 8 RW, 0, 3) ∷ (create 64 8 RW, 10, 0) ∷ []) ((1, RW) ∷ (2, RW) ∷ (3, RW) ∷ [])
    ∷ []

-- Card 9
abbrev create_fresh : ℕ → ℕ → ℕ → Request
create_fresh start length right = Single by (Create None (span start length) (terms right 0 1))

abbrev marked_row : ℕ → ℕ → ℕ → ℕ → ℕ → ℕ → Cap
marked_row mark name parent start length depth = row (record { name = name; parent = parent; span = span start length; kind = 0; fresh = mark; maker = 0; holders = 1 }) RW depth

-- by a sheet that keeps everything, what is not marked and what is may lie over the same addresses
abbrev keeping_sheet : Sheet
keeping_sheet =
    let kept = conflicts (results Keep Keep Keep) (results Keep Keep Keep) in
    record { reference = kept; raw = kept; cell = kept }

unfoldable pub written_first : List Trace
written_first =
    -- a read through what is marked, or was borrowed from it, waits for a write to each address; nothing of length 0 waits
    trace 4
    ((create_fresh 0 8 RW, 0, 1) ∷ (read 1 0 1, 16, 0) ∷ (borrow 1 0 4 RW, 0, 2) ∷ (read 2 0 4, 16, 0) ∷ (write 2 0 2, 0, 0) ∷ (read 1 0 2, 0, 0) ∷ (read 1 0 3, 16, 0) ∷ (read 1 8 0, 0, 0) ∷ [])
    ((1, RW) ∷ (2, ro) ∷ [])
    -- a create clears, and what is not marked never waits; the other refusals of a read come first
    ∷ trace 4
    ((create 0 8 RW, 0, 1) ∷ (write 1 0 8, 0, 0) ∷ (create_fresh 4 2 ro, 0, 2) ∷ (read 2 4 1, 16, 0) ∷ (read 2 4 3, 6, 0) ∷ (read 3 4 1, 4, 0) ∷ (read 1 4 1, 5, 0) ∷ (create 0 4 RW, 0, 3) ∷ (read 3 0 4, 0, 0) ∷ [])
    ((2, ro) ∷ (3, RW) ∷ [])
    -- 2: another mark, a kind in a create, a mark in a borrow; 3: an end above 65,536
    ∷ trace 4
    ((Single by (Create None (span 0 8) (terms RW 0 2)), 2, 0) ∷ (Single by (Create None (span 0 8) (terms RW 1 0)), 2, 0) ∷ (create_fresh 65528 9 RW, 3, 0) ∷ (create_fresh 65528 8 RW, 0, 1) ∷ (Single by (Borrow None (record { 0 = 1 }) (span 65528 8) (terms RW 0 1)), 2, 0) ∷ (create_fresh 65536 0 RW, 0, 2) ∷ [])
    ((1, RW) ∷ (2, RW) ∷ [])
    -- 1: a marked row that ends above 65,536, marks that differ from the parent's, no mark, and 8,191 bytes
    ∷ from (lending (marked_row 1 1 0 65530 7 1 ∷ []) 1) ((read 1 65530 0, 1, 0) ∷ []) ((1, RW) ∷ [])
    ∷ from (lending (named_one ∷ marked_row 1 2 1 0 8 2 ∷ []) 2) ((read 1 0 8, 1, 0) ∷ []) ((1, RW) ∷ (2, RW) ∷ [])
    ∷ from (lending (marked_row 1 1 0 0 64 1 ∷ marked_row 0 2 1 0 8 2 ∷ []) 2) ((read 1 0 8, 1, 0) ∷ []) ((1, RW) ∷ (2, RW) ∷ [])
    ∷ from (lending (marked_row 2 1 0 0 64 1 ∷ []) 1) ((read 1 0 8, 1, 0) ∷ []) ((1, RW) ∷ [])
    ∷ from (record { memory = record { table = named_one ∷ []; bits = replicate 8191 0 }; tally = no_counts 1; slots = unstored }) ((read 1 0 8, 1, 0) ∷ (Group by [], 1, 0) ∷ []) ((1, RW) ∷ [])
    -- every write sets, through whatever capability and also below an end above 65,536, and every create clears
    ∷ record {
      sheet = keeping_sheet;
      lent = initial 4 (no_counts 0);
      lines =
          (create 65520 32 RW, 0, 1) ∷ (create_fresh 65528 8 RW, 0, 2) ∷ (read 2 65528 8, 16, 0) ∷ (write 1 65520 32, 0, 0) ∷ (read 2 65528 8, 0, 0) ∷ (create 65534 1 RW, 0, 3)
          ∷ (read 2 65528 8, 16, 0) ∷ (read 2 65528 6, 0, 0) ∷ (read 2 65535 1, 0, 0) ∷ [];
      left = (1, RW) ∷ (2, RW) ∷ (3, RW) ∷ [];
    }
    ∷ []

-- Card 10: a domain that holds no bit is 17, after 5 and before 6, and in a group in its turn; a domain above 63 and a mask without its maker are
-- 2, and 1 in a row. With limits a domain's create past its own is 18, after 12 and also in a full table, and others go on; a sheet of another
-- length, of too high a sum, or which the table exceeds, is 1. A row counts for its maker, whoever holds it or made its parent, and as long as it
-- lives.
abbrev acting : ℕ → Caller
acting d = record { actor = d; limits = Unlimited }

-- with limits for the domains 0 and 3
abbrev within : ℕ → ℕ → ℕ → Caller
within zeroth third d = record { actor = d; limits = Limited (set (set (replicate 64 0) 0 zeroth) 3 third) }

abbrev holding : ℕ → Terms
holding mask = record { right = RW; kind = 0; fresh = 0; holders = mask }

abbrev create_by : Caller → ℕ → ℕ → ℕ → Request
create_by q mask start length = Single q (Create None (span start length) (holding mask))

-- with a name that is written out
abbrev named_by : Caller → ℕ → ℕ → ℕ → ℕ → Request
named_by q name mask start length = Single q (Create (Some (record { 0 = name })) (span start length) (holding mask))

abbrev borrow_by : Caller → ℕ → ℕ → ℕ → ℕ → Request
borrow_by q mask name start length = Single q (Borrow None (record { 0 = name }) (span start length) (holding mask))

abbrev read_by : Caller → ℕ → ℕ → ℕ → Request
read_by q name start length = Single q (Read (record { 0 = name }) (span start length))

abbrev drop_by : Caller → ℕ → Request
drop_by q name = Single q (Drop (record { 0 = name }))

unfoldable pub domains : List Trace
domains =
    trace 4
    ((create_by (acting 3) 9 0 8, 0, 1) ∷ (create_by (acting 3) 8 8 8, 0, 2) ∷ (read 1 0 8, 0, 0) ∷ (read 2 8 8, 17, 0) ∷ (read 2 0 8, 17, 0) ∷ (read_by (acting 3) 2 0 8, 6, 0) ∷ (Group by (1 ∷ 2 ∷ []), 17, 0) ∷ (drop_by (acting 3) 2, 0, 0) ∷ (read 2 8 8, 5, 0) ∷ [])
    ((1, RW) ∷ [])
    ∷ trace 4 ((create_by (acting 64) 1 0 8, 2, 0) ∷ (create_by (acting 3) 4 0 8, 2, 0) ∷ (create_by (acting 3) 8 0 8, 0, 1) ∷ (borrow_by (acting 3) 1 1 0 8, 2, 0) ∷ (borrow_by (acting 0) 1 1 0 8, 17, 0) ∷ (read_by (acting 64) 9 0 8, 2, 0) ∷ []) ((1, RW) ∷ [])
    ∷ trace 2 ((create_by (within 1 1 0) 1 0 8, 0, 1) ∷ (create_by (within 1 1 0) 1 8 8, 18, 0) ∷ (named_by (within 1 1 0) 9 1 8 8, 12, 0) ∷ (create_by (within 1 1 3) 8 8 8, 0, 2) ∷ (borrow_by (within 1 1 3) 8 2 8 8, 18, 0) ∷ (read_by (within 0 1 0) 1 0 8, 1, 0) ∷ (read_by (within 2 1 0) 1 0 8, 1, 0) ∷ (read_by (record { actor = 0; limits = Limited [] }) 1 0 8, 1, 0) ∷ []) ((1, RW) ∷ (2, RW) ∷ [])
    ∷ trace 2 ((create_by (within 1 1 0) 9 0 8, 0, 1) ∷ (borrow_by (within 1 1 3) 8 1 0 8, 0, 2) ∷ (borrow_by (within 1 1 3) 8 1 0 8, 18, 0) ∷ (drop_by (within 1 1 3) 2, 0, 0) ∷ (create_by (within 1 1 3) 8 8 8, 0, 3) ∷ []) ((1, RW) ∷ (3, RW) ∷ [])
    ∷ from (lending (row (record { name = 1; parent = 0; span = span 0 64; kind = 0; fresh = 0; maker = 3; holders = 1 }) RW 1 ∷ []) 1) ((read 1 0 8, 1, 0) ∷ []) ((1, RW) ∷ [])
    ∷ []

-- Card 11
-- this table with so many names issued, and that one stored in slot 2
abbrev storing : List Cap → ℕ → List Cap → State
storing table issued stored =
    record { memory = record { table = table; bits = replicate 8192 0 }; tally = no_counts issued; slots = set unstored 2 (Stored (record { table = stored; bits = replicate 8192 0 })) }

unfoldable pub states : List Trace
states =
    -- a back brings the table and the bits of the mark, and again; names given since are 5, also once further names are given
    trace 4
    ((create_fresh 0 8 RW, 0, 1) ∷ (Mark by 3, 0, 0) ∷ (write 1 0 8, 0, 0) ∷ (borrow 1 0 8 ro, 0, 2) ∷ (read 2 0 8, 0, 0) ∷ (Back by 3, 0, 0) ∷ (read 2 0 8, 5, 0) ∷ (read 1 0 8, 16, 0) ∷ (drop 1, 0, 0) ∷ (Back by 3, 0, 0) ∷ (borrow 1 0 4 RW, 0, 3) ∷ (read 2 0 4, 5, 0) ∷ [])
    ((1, RW) ∷ (3, RW) ∷ [])
    -- life and `rw` return with it
    ∷ created 4
    ((borrow 1 0 8 RW, 0, 2) ∷ (Mark by 1, 0, 0) ∷ (read 1 0 8, 0, 0) ∷ (write 2 0 8, 7, 0) ∷ (Back by 1, 0, 0) ∷ (write 2 0 8, 0, 0) ∷ (drop 2, 0, 0) ∷ (read 2 0 8, 5, 0) ∷ (Back by 1, 0, 0) ∷ (write 2 0 8, 0, 0) ∷ [])
    ((1, RW) ∷ (2, RW) ∷ [])
    -- each slot by itself; a mark in a slot that has one puts the present state there
    ∷ created 4
    ((Mark by 7, 0, 0) ∷ (borrow 1 0 8 RW, 0, 2) ∷ (Mark by 6, 0, 0) ∷ (borrow 1 8 8 RW, 0, 3) ∷ (Back by 7, 0, 0) ∷ (read 2 0 8, 5, 0) ∷ (Back by 6, 0, 0) ∷ (read 3 8 8, 5, 0) ∷ (borrow 1 16 8 RW, 0, 4) ∷ (Mark by 7, 0, 0) ∷ (Back by 6, 0, 0) ∷ (read 4 16 8, 5, 0) ∷ (Back by 7, 0, 0) ∷ [])
    ((1, RW) ∷ (2, RW) ∷ (4, RW) ∷ [])
    -- neither asks what the domain holds
    ∷ created 4 ((Mark (acting 5) 2, 0, 0) ∷ (drop 1, 0, 0) ∷ (Back (acting 7) 2, 0, 0) ∷ (read_by (acting 5) 1 0 8, 17, 0) ∷ []) ((1, RW) ∷ [])
    -- a back that finds nothing is 19; a slot above 7 and a domain above 63 are 2, before 19
    ∷ created 4 ((Back by 3, 19, 0) ∷ (Mark by 8, 2, 0) ∷ (Back by 8, 2, 0) ∷ (Mark (acting 64) 0, 2, 0) ∷ (Back (acting 64) 0, 2, 0) ∷ []) ((1, RW) ∷ [])
    -- a stored table that is over a limit lent with the back, that has another number of rows, or that is not in order is 1, before 2; it is judged
    -- with the names issued now, and is in nobody's way but the back's
    ∷ created 4 ((create 64 8 RW, 0, 2) ∷ (Mark by 0, 0, 0) ∷ (drop 2, 0, 0) ∷ (Back (within 1 0 0) 0, 1, 0) ∷ (Back (within 2 0 0) 0, 0, 0) ∷ []) ((1, RW) ∷ (2, RW) ∷ [])
    ∷ from (storing (named_one ∷ empty_row ∷ []) 1 (named_one ∷ [])) ((Back by 2, 1, 0) ∷ (Back (acting 64) 2, 1, 0) ∷ (read 1 0 8, 0, 0) ∷ (Back by 3, 19, 0) ∷ (Mark by 2, 0, 0) ∷ (Back by 2, 0, 0) ∷ []) ((1, RW) ∷ [])
    ∷ from (storing (named_one ∷ empty_row ∷ []) 1 (marked_row 0 2 0 0 8 1 ∷ empty_row ∷ [])) ((Back by 2, 1, 0) ∷ (Back (acting 64) 2, 1, 0) ∷ (create 64 8 RW, 0, 2) ∷ (Back by 2, 0, 0) ∷ []) ((2, RW) ∷ [])
    -- other than eight slots are 1 of every request
    ∷ from (record { memory = record { table = named_one ∷ []; bits = replicate 8192 0 }; tally = no_counts 1; slots = replicate 7 Nothing }) ((read 1 0 8, 1, 0) ∷ (Mark by 0, 1, 0) ∷ (Back by 8, 1, 0) ∷ []) ((1, RW) ∷ [])
    ∷ from (record { memory = record { table = named_one ∷ []; bits = replicate 8192 0 }; tally = no_counts 1; slots = replicate 9 Nothing }) ((drop 1, 1, 0) ∷ (Back by 0, 1, 0) ∷ []) ((1, RW) ∷ [])
    ∷ []

-- "The bracket text": what capcheck is shown on
unfoldable pub printed : Trace
printed =
    created 1024
    ((borrow 1 0 16 RW, 0, 2) ∷ (borrow 1 16 16 RW, 0, 3) ∷ (write 2 0 8, 0, 0) ∷ (read 1 0 4, 0, 0) ∷ (write 2 0 8, 7, 0) ∷ [])
    ((1, RW) ∷ (2, ro) ∷ (3, RW) ∷ [])

unfoldable pub traces : List Trace
traces = starred ++ (refused ++ (written ++ (empty ++ (reused ++ (together ++ (kinds ++ (in_rust ++ (sheets ++ (thinned ++ (written_first ++ (domains ++ (states ++ (printed ∷ [])))))))))))))

-- ---- when a trace goes as it says

-- the answers are those of the lines
abbrev same_answers : List Verdict → List (Request × ℕ × ℕ) → Bool
same_answers [] [] = true
same_answers [] (l ∷ lines) = false
same_answers (a ∷ rest) [] = false
same_answers (a ∷ rest) (l ∷ lines) = eqb a.refusal l.1 && eqb a.name l.2 && same_answers rest lines

-- the rows have these names and rights
abbrev same_rights : List Cap → List (ℕ × ℕ) → Bool
same_rights [] [] = true
same_rights [] (l ∷ left) = false
same_rights (c ∷ rows) [] = false
same_rights (c ∷ rows) (l ∷ left) = eqb c.name.0 l.0 && eqb c.right l.1 && same_rights rows left

abbrev requests_of : Trace → List Request
requests_of t = map (λ l. l.0) t.lines

unfoldable pub holds : Trace → Bool
holds t = same_answers (answers (after t.sheet) answer t.lent (requests_of t)) t.lines && same_rights (reverse (live_rows (final (after t.sheet) t.lent (requests_of t)).memory.table)) t.left
