-- `sheet::write::put_front` meets its contract: its pieces, one behind the other, are the front.
-- Assumes nothing.
use native.Mathlib.Omega.{arith}
use Rattle.text.proofs.Offered.{put_two}
use Rattle.sheet.specs.Writing.{front_at}
use Rattle.sheet.proofs.Laws.Writing.{front_long}
use Rattle.sheet.proofs.write.put_front.Goals as goal

pub put_bytes-past_opening-requires : goal.put_bytes-past_opening-requires
put_bytes-past_opening-requires c = omega (arith, front_long c.args.place)

pub put_holder-past_holder-requires : goal.put_holder-past_holder-requires
put_holder-past_holder-requires c = (omega arith, omega (arith, front_long c.args.place))

pub put_bytes-past_second-requires : goal.put_bytes-past_second-requires
put_bytes-past_second-requires c = omega (arith, front_long c.args.place)

pub put_access-requires : goal.put_access-requires
put_access-requires c = (omega arith, omega (arith, front_long c.args.place))

pub returns : goal.returns
unfolding front_at
returns c = put_two c.put_bytes-past_opening.ensures (put_two c.put_holder-past_holder.ensures (put_two c.put_bytes-past_second.ensures c.put_access.ensures))
