-- `sizes::names::meant` meets its contract.
-- Assumes nothing.
use mathlib.Core.Path.{refl, sym, ◌∙◌, subst}
use Prim.Native.Nat.{ℕ}
use native.Mathlib.Omega.{arith}
use lib.Dec.{ltb, leb}
use borrow.Author.Tests.{leb-true}
use Rattle.model.proofs.Offered.{and_both, clash}
use Rattle.sizes.specs.Names.{Beside}
use Rattle.sizes.proofs.names.meant.Goals as goal

pub key_of-requires : goal.key_of-requires
key_of-requires c = let local = c.args.local in let count = c.args.count in (omega (arith, c.requires.1), omega (arith, leb-true local count (and_both (ltb 0 local) (leb local count) (sym c.is_given.ensures ∙ c.if-is_given.true)).1, c.requires.2))

pub returns-then-is_given : goal.returns-then-is_given
returns-then-is_given c = record { unknown = λ f. clash (sym c.is_given.ensures ∙ c.if-is_given.true) f; looked = λ t. subst (λ (k : ℕ). Beside c.args.used c.args.names.now c.args.keys.now k c.beside.result) c.key_of.ensures c.beside.ensures }

pub returns-else-is_given : goal.returns-else-is_given
returns-else-is_given c = record { unknown = λ f. refl; looked = λ t. clash t (sym c.is_given.ensures ∙ c.if-is_given.false) }
