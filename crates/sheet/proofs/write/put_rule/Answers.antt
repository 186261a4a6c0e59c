-- `sheet::write::put_rule` meets its contract: its pieces, one behind the other, are the line.
-- Assumes nothing.
use native.Mathlib.Omega.{arith}
use Rattle.text.proofs.Offered.{put_two}
use Rattle.sheet.proofs.Laws.Writing.{line_pieces_lem, line_long}
use Rattle.sheet.proofs.write.put_rule.Goals as goal

pub put_front-past_access-requires : goal.put_front-past_access-requires
put_front-past_access-requires c = (c.requires.0, omega (arith, line_long c.args.place c.args.res))

pub put_bytes-past_third-requires : goal.put_bytes-past_third-requires
put_bytes-past_third-requires c = omega (arith, line_long c.args.place c.args.res)

pub put_origin-past_origin-requires : goal.put_origin-past_origin-requires
put_origin-past_origin-requires c = (omega arith, omega (arith, line_long c.args.place c.args.res))

pub put_bytes-past_fourth-requires : goal.put_bytes-past_fourth-requires
put_bytes-past_fourth-requires c = omega (arith, line_long c.args.place c.args.res)

pub put_result-past_result-requires : goal.put_result-past_result-requires
put_result-past_result-requires c = omega (arith, line_long c.args.place c.args.res)

pub put_bytes-requires : goal.put_bytes-requires
put_bytes-requires c = omega (arith, line_long c.args.place c.args.res)

pub returns : goal.returns
returns c =
    rw (line_pieces_lem c.args.place c.args.res) (put_two c.put_front-past_access.ensures (put_two c.put_bytes-past_third.ensures (put_two c.put_origin-past_origin.ensures
    (put_two c.put_bytes-past_fourth.ensures (put_two c.put_result-past_result.ensures c.put_bytes.ensures)))))
