-- `text::classes::class_of` meets its contract: antt computes the rule at each of the 256 bytes, and the table is that list.
-- Assumes nothing.
use Rattle.text.specs.Class.{class_of}
use Rattle.text.proofs.Laws.Table.{at}
use Rattle.text.proofs.classes.class_of.Goals as goal

pub returns : goal.returns
unfolding class_of
returns c = at class_of 256 c.args.byte c.ranges.byte.fits
