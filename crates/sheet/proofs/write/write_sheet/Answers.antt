-- `sheet::write::write_sheet` meets its contract: the text is put together first, and copied where it fits.
-- Assumes nothing.
use mathlib.Core.Path.{ap}
use native.Mathlib.Omega.{arith}
use lib.ListN.{length}
use Rattle.text.proofs.Offered.{writes_none, writes_put}
use Rattle.sheet.specs.WriteSheet.{sheet_text}
use Rattle.sheet.proofs.Laws.Writing.{sheet_written, front_is}
use Rattle.sheet.proofs.write.write_sheet.Goals as goal

pub returns-then-out-length : goal.returns-then-out-length
returns-then-out-length c = sheet_written c.args.sheet.now (writes_none (sheet_text c.args.sheet.now) c.args.out.now (omega arith))

pub slice_bounds-put_bytes-end : goal.slice_bounds-put_bytes-end
slice_bounds-put_bytes-end c = omega (arith, ap length (front_is c.put_rules-length.ensures.0 c.put_rules-length.ensures.1), c.put_rules-length.ensures.0.moved)

pub put_bytes-requires : goal.put_bytes-requires
put_bytes-requires c = rw (front_is c.put_rules-length.ensures.0 c.put_rules-length.ensures.1) (omega (arith, c.put_rules-length.ensures.0.moved))

pub returns : goal.returns
returns c = sheet_written c.args.sheet.now (writes_put (rw (front_is c.put_rules-length.ensures.0 c.put_rules-length.ensures.1) at c.put_bytes.ensures) (omega (arith, c.put_rules-length.ensures.0.moved)))
