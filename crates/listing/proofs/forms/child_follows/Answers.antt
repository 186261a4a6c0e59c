-- `listing::forms::child_follows` meets its contract.
-- Assumes nothing.
use mathlib.Core.Path.{ap}
use Prim.Native.Nat.{ℕ}
use lib.Dec.{eqb}
use borrow.Author.Tests.{lt-ltb, le-ltb}
use Rattle.listing.proofs.forms.child_follows.Goals as goal

pub returns-then-count-lt1024 : goal.returns-then-count-lt1024
returns-then-count-lt1024 c =
    let a = c.args in
    rw (lt-ltb a.depth 64 c.if-depth-lt64.true, lt-ltb a.count 1024 c.if-count-lt1024.true) (ap (λ (b : ℕ). eqb b 32) c.byte_at.ensures)

pub returns-else-count-lt1024 : goal.returns-else-count-lt1024
returns-else-count-lt1024 c =
    let a = c.args in
    rw (lt-ltb a.depth 64 c.if-depth-lt64.true, le-ltb a.count 1024 c.if-count-lt1024.false)

pub returns-else-depth-lt64 : goal.returns-else-depth-lt64
returns-else-depth-lt64 c =
    let a = c.args in
    rw (le-ltb a.depth 64 c.if-depth-lt64.false)
