-- `text::pieces::put_bytes` meets its contract: the part of the buffer that the bytes have replaced.
-- Assumes nothing.
use mathlib.Core.Path.{refl}
use native.Mathlib.Omega.{arith}
use Rattle.text.proofs.Laws.Put.{sets_part}
use Rattle.text.proofs.pieces.put_bytes.Goals as goal

pub returns : goal.returns
returns c =
    record {
      moved = refl;
      stored = rw c.copy_over.ensures (sets_part _ _ _ _ (omega arith) c.requires);
    }
