-- `text::pieces::ending_length` meets its contract: the ending has as many bytes as its five pieces.
-- Assumes nothing.
use native.Mathlib.Omega.{arith}
use Rattle.text.proofs.Laws.Range.{ending_length}
use Rattle.text.proofs.pieces.ending_length.Goals as goal

pub returns : goal.returns
returns c =
    let a = c.args in
    omega (arith, ending_length a.actor a.terms, c.back_length.ensures, c.mask_length.ensures, c.fresh_length.ensures, c.kind_length.ensures)
