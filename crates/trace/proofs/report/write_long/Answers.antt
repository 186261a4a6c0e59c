-- `trace::report::write_long` meets its contract.
-- Assumes nothing.
use native.Mathlib.Omega.{arith}
use Rattle.text.specs.Event.{bytes}
use Rattle.text.proofs.Offered.{writes_none, writes_put}
use Rattle.trace.proofs.report.write_long.Goals as goal

pub returns-then-out-lt7 : goal.returns-then-out-lt7
returns-then-out-lt7 c = writes_none (bytes "(long)\n") c.args.out.now (omega (arith, c.if-out-lt7.true))

pub returns : goal.returns
returns c = writes_put c.put_bytes.ensures (omega (arith, c.if-out-lt7.false))
