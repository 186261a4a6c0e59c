-- Document 01, "Values": what the counts of the tally are counts of, over a whole list of requests.
-- Assumes nothing.
use Rattle.std.specs.Prelude.{ℕ, ◌+◌, Bool, cond, ◌&&◌, List, [], ◌∷◌, leb, eqb}
use Rattle.model.specs.declared.Tally.{Tally}
use Rattle.model.specs.declared.Event.TheVariants.{Create, Borrow, Read, Write, Drop}
use Rattle.model.specs.declared.Sheet.{Sheet}
use Rattle.model.specs.Requests.{Request, Single, Group, Mark, Back}
use Rattle.model.specs.Step.{Verdict, State, is_allowed, answer, after}

-- "the allowed events of each of the five kinds, and refused events"
pub data Counter : Type 0 where
  Creates : Counter
  Borrows : Counter
  Reads : Counter
  Writes : Counter
  Drops : Counter
  Refusals : Counter

-- the count in the tally
abbrev pub count_in : Counter → Tally → ℕ
count_in Creates t = t.creates
count_in Borrows t = t.borrows
count_in Reads t = t.reads
count_in Writes t = t.writes
count_in Drops t = t.drops
count_in Refusals t = t.refused

-- document 01's order
abbrev place : Counter → ℕ
place Creates = 1
place Borrows = 2
place Reads = 3
place Writes = 4
place Drops = 5
place Refusals = 6

-- the kind of a request in that order; names dropped together are of the kind of a drop, and a mark or a back is of none
abbrev pub kind_of : Request → ℕ
kind_of (Single by (Create w s r)) = 1
kind_of (Single by (Borrow w u s r)) = 2
kind_of (Single by (Read u s)) = 3
kind_of (Single by (Write u s)) = 4
kind_of (Single by (Drop u)) = 5
kind_of (Group by names) = 5
kind_of (Mark by k) = 0
kind_of (Back by k) = 0

-- allowed, and of that kind
abbrev allowed_as : Counter → ℕ → Verdict → Bool
allowed_as c kind v = is_allowed v && eqb (place c) kind

-- what is of this kind and has this answer counts: allowed for its kind, refused by 2 or above for the refused events
abbrev counts_as : Counter → ℕ → Verdict → Bool
counts_as Creates kind v = allowed_as Creates kind v
counts_as Borrows kind v = allowed_as Borrows kind v
counts_as Reads kind v = allowed_as Reads kind v
counts_as Writes kind v = allowed_as Writes kind v
counts_as Drops kind v = allowed_as Drops kind v
counts_as Refusals kind v = leb 2 v.refusal

abbrev pub counts_for : Counter → Request → Verdict → Bool
counts_for c q v = counts_as c (kind_of q) v

-- how many requests of the list count; card 5: a group "counts once"
unfoldable pub how_many : Sheet → Counter → State → List Request → ℕ
how_many sheet c h [] = 0
how_many sheet c h (q ∷ qs) = cond (counts_for c q (answer h q)) 1 0 + how_many sheet c (after sheet h q) qs
