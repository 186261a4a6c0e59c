-- `number_of` meets its contract.
-- Assumes nothing.
use Rattle.rules.proofs.answers.number_of.Goals as goal

pub returns-in-Disordered : goal.returns-in-Disordered
returns-in-Disordered c = rw c.in-Disordered.is

pub returns-in-Misspelt : goal.returns-in-Misspelt
returns-in-Misspelt c = rw c.in-Misspelt.is

pub returns-in-IllegalSpan : goal.returns-in-IllegalSpan
returns-in-IllegalSpan c = rw c.in-IllegalSpan.is

pub returns-in-Unissued : goal.returns-in-Unissued
returns-in-Unissued c = rw c.in-Unissued.is

pub returns-in-Ended : goal.returns-in-Ended
returns-in-Ended c = rw c.in-Ended.is

pub returns-in-OutsideSpan : goal.returns-in-OutsideSpan
returns-in-OutsideSpan c = rw c.in-OutsideSpan.is

pub returns-in-ReadOnly : goal.returns-in-ReadOnly
returns-in-ReadOnly c = rw c.in-ReadOnly.is

pub returns-in-TooDeep : goal.returns-in-TooDeep
returns-in-TooDeep c = rw c.in-TooDeep.is

pub returns-in-NamesSpent : goal.returns-in-NamesSpent
returns-in-NamesSpent c = rw c.in-NamesSpent.is

pub returns-in-TableFull : goal.returns-in-TableFull
returns-in-TableFull c = rw c.in-TableFull.is

pub returns-in-BufferTooShort : goal.returns-in-BufferTooShort
returns-in-BufferTooShort c = rw c.in-BufferTooShort.is

pub returns-in-Misnamed : goal.returns-in-Misnamed
returns-in-Misnamed c = rw c.in-Misnamed.is

pub returns-in-Misgrouped : goal.returns-in-Misgrouped
returns-in-Misgrouped c = rw c.in-Misgrouped.is

pub returns-in-GivenTwice : goal.returns-in-GivenTwice
returns-in-GivenTwice c = rw c.in-GivenTwice.is

pub returns-in-NotGiven : goal.returns-in-NotGiven
returns-in-NotGiven c = rw c.in-NotGiven.is

pub returns-in-NotWritten : goal.returns-in-NotWritten
returns-in-NotWritten c = rw c.in-NotWritten.is

pub returns-in-NoHolder : goal.returns-in-NoHolder
returns-in-NoHolder c = rw c.in-NoHolder.is

pub returns-in-LimitReached : goal.returns-in-LimitReached
returns-in-LimitReached c = rw c.in-LimitReached.is

pub returns-in-NothingStored : goal.returns-in-NothingStored
returns-in-NothingStored c = rw c.in-NothingStored.is
