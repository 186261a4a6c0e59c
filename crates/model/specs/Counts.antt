-- Document 01, "Values": the tally, and what each request does to it.
-- Assumes nothing.
use Rattle.std.specs.Prelude.{ℕ, suc, min}
use Rattle.model.specs.declared.Tally.{Tally}
use Rattle.model.specs.declared.Event.TheVariants.{Create, Borrow, Read, Write, Drop}
use Rattle.model.specs.Requests.{Request, Single, Group, Mark, Back}

-- "A count at 4,294,967,295 stays there."
abbrev pub count_up : ℕ → ℕ
count_up n = min (suc n) 4294967295

abbrev pub tally : ℕ → ℕ → ℕ → ℕ → ℕ → ℕ → ℕ → Tally
tally issued creates borrows reads writes drops refused =
    record { issued = issued; creates = creates; borrows = borrows; reads = reads; writes = writes; drops = drops; refused = refused }

-- one read more
abbrev pub count_read : Tally → Tally
count_read t = tally t.issued t.creates t.borrows (count_up t.reads) t.writes t.drops t.refused

-- after an allowed request: the issued number, and one more of its kind; what a create, write or drop ends is not counted. Card 5: of
-- names dropped together, "It counts once in the tally." Card 11: a mark and a back "count
-- only as a line".
abbrev pub count_allowed : Request → Tally → Tally
count_allowed (Single by (Create w s r)) t = tally (suc t.issued) (count_up t.creates) t.borrows t.reads t.writes t.drops t.refused
count_allowed (Single by (Borrow w u s r)) t = tally (suc t.issued) t.creates (count_up t.borrows) t.reads t.writes t.drops t.refused
count_allowed (Single by (Read u s)) t = count_read t
count_allowed (Single by (Write u s)) t = tally t.issued t.creates t.borrows t.reads (count_up t.writes) t.drops t.refused
count_allowed (Single by (Drop u)) t = tally t.issued t.creates t.borrows t.reads t.writes (count_up t.drops) t.refused
count_allowed (Group by names) t = tally t.issued t.creates t.borrows t.reads t.writes (count_up t.drops) t.refused
count_allowed (Mark by k) t = t
count_allowed (Back by k) t = t

-- "Refusals 2 to 10 of an event .. add one to the refused count and change no more"
abbrev pub count_refused : Tally → Tally
count_refused t = tally t.issued t.creates t.borrows t.reads t.writes t.drops (count_up t.refused)
