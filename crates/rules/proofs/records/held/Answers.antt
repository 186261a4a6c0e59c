-- `held` meets its contract.
-- Assumes nothing.
use mathlib.Core.Path.{refl}
use borrow.Author.Tests.{le-leb, lt-leb}
use Rattle.rules.proofs.records.held.Goals as goal

pub returns-then-n-le1024 : goal.returns-then-n-le1024
returns-then-n-le1024 c = rw (le-leb _ _ c.if-n-le1024.true) refl

pub returns-else-n-le1024 : goal.returns-else-n-le1024
returns-else-n-le1024 c = rw (lt-leb _ _ c.if-n-le1024.false) refl
