use native.Mathlib.Omega.{arith}
use lib.ListN.{get_or}
use Rattle.text.proofs.Offered.{put_length}
use Rattle.sheet.proofs.Laws.Writing.{line_most, lines_begin, lines_next, lines_end}
use Rattle.sheet.proofs.write.put_rules.Goals as goal

pub loop-place-init : goal.loop-place-init
loop-place-init c = lines_begin c.args.sheet.now c.args.out.now

pub put_rule-at-requires : goal.put_rule-at-requires
put_rule-at-requires c = (omega arith, omega (arith, line_most c.loop-place.place (get_or c.args.sheet.now c.loop-place.place 0), put_length c.loop-place.invariant.put, c.loop-place.invariant.most))

pub loop-place-preserved : goal.loop-place-preserved
loop-place-preserved c = lines_next c.loop-place.invariant c.put_rule-at.ensures

pub returns : goal.returns
returns c = lines_end (omega arith) c.loop-place.invariant
