-- Document 01, "Eleven ways to be turned down", and cards 1, 5, 7 and 9 to 11: the number of each refusal, and the number and name of each answer.
-- Assumes nothing.
use Rattle.std.specs.Prelude.{ℕ, Err, Ok, Result}
use Rattle.model.specs.declared.Name.{Name}
use Rattle.model.specs.declared.Refusal.{Refusal}
use Rattle.model.specs.declared.Refusal.TheVariants.{Disordered, Misspelt, IllegalSpan, Unissued, Ended, OutsideSpan, ReadOnly, TooDeep, NamesSpent, TableFull, BufferTooShort, Misnamed, Misgrouped, GivenTwice, NotGiven, NotWritten, NoHolder, LimitReached, NothingStored}
use Rattle.model.specs.Step.{Verdict}

abbrev pub number : Refusal → ℕ
number Disordered = 1
number Misspelt = 2
number IllegalSpan = 3
number Unissued = 4
number Ended = 5
number OutsideSpan = 6
number ReadOnly = 7
number TooDeep = 8
number NamesSpent = 9
number TableFull = 10
number BufferTooShort = 11
number Misnamed = 12
number Misgrouped = 13
number GivenTwice = 14
number NotGiven = 15
number NotWritten = 16
number NoHolder = 17
number LimitReached = 18
number NothingStored = 19

-- allowed is 0, with the name; a refusal carries name 0
abbrev pub verdict_of : Result Name Refusal → Verdict
verdict_of (Ok x) = record { refusal = 0; name = x.0 }
verdict_of (Err r) = record { refusal = number r; name = 0 }
