-- What passes between this library and C where texts are read and written: answers, the spelling of lines, and what is left of a request that is
-- read.
-- Assumes nothing.
use Rattle.std.specs.Prelude.{ℕ, cond, List, eqb, Ok, Err, Result as Returned}
use Rattle.std.proofs.lemmas.List.Edits.{sets}
use Rattle.model.specs.Answers.{number}
use Rattle.model.specs.Requests.{Request, Single, Group, Mark, Back}
use Rattle.model.specs.Step.{State}
use Rattle.text.specs.Result.{Result, value, refused}
use Rattle.text.specs.declared.spelling.Spelling.{Spelling}
use Rattle.text.specs.declared.spelling.Spelling.TheVariants.{Plain, Named}
use Rattle.trace.specs.declared.run.RefusedAt.{RefusedAt}
use Rattle.trace.specs.Run.{Ran}
use Rattle.kelzoud_events.specs.Interface.{packed, words_of}

-- a number, as the length of what was written, or a refusal with 0
abbrev pub packed_result : Result ℕ → ℕ
packed_result (value n) = packed 0 n
packed_result (refused k) = packed k 0

-- what was read stands elsewhere: 0, or a refusal with 0
abbrev pub packed_read : {A : Type 0} → Result A → ℕ
packed_read (value x) = packed 0 0
packed_read (refused k) = packed k 0

-- a run: its refusal, and the number of the lines allowed or of the line refused
abbrev pub packed_ran : Ran State → ℕ
packed_ran r = packed r.refusal r.number

abbrev pub packed_run : Returned ℕ RefusedAt → ℕ
packed_run (Ok lines) = packed 0 lines
packed_run (Err at) = packed (number at.refusal) at.line

-- a line is one of a `(trace 2)` text where `named` is not 0, and else one of document 01
abbrev pub spelling_in : ℕ → Spelling
spelling_in named = cond (eqb named 0) Plain Named

-- the event after a line is read: the words of what was read, or what stood there where it is refused
abbrev pub event_after : Result Request → List ℕ → List ℕ
event_after (value q) before = words_of q
event_after (refused k) before = before

-- the names after it: those that are dropped together first, and the later ones as they were; whatever else is read, and a refusal, leaves all
abbrev pub group_after : Result Request → List ℕ → List ℕ
group_after (value (Single by e)) before = before
group_after (value (Group by names)) before = sets before 0 names
group_after (value (Mark by k)) before = before
group_after (value (Back by k)) before = before
group_after (refused k) before = before
