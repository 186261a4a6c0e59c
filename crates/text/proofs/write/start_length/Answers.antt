-- `text::write::start_length` meets its contract: the start of a line has as many bytes as its three pieces.
-- Assumes nothing.
use native.Mathlib.Omega.{arith}
use lib.ListN.{length-append}
use Rattle.text.proofs.write.start_length.Goals as goal

pub returns : goal.returns
returns c = simp length-append (omega (arith, c.spaced_length.ensures, c.front_length.ensures))
