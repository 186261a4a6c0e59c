-- `kelzoud::requests::spelling_in` meets its contract.
-- Assumes nothing.
use borrow.Author.Tests.{eq-eqb, ne_eqb}
use Rattle.kelzoud.proofs.requests.spelling_in.Goals as goal

pub returns-then-named-eq0 : goal.returns-then-named-eq0
returns-then-named-eq0 c = rw (eq-eqb c.args.named 0 c.if-named-eq0.true)

pub returns-else-named-eq0 : goal.returns-else-named-eq0
returns-else-named-eq0 c = rw (ne_eqb c.args.named 0 c.if-named-eq0.false)
