-- `text::read::create_of` meets its contract: each word is what stands behind a space, and the mask stands behind the mark.
-- Assumes nothing.
use Rattle.text.proofs.Laws.Read.{create_is}
use Rattle.text.proofs.read.create_of.Goals as goal

pub returns : goal.returns
returns c =
    let a = c.args in
    create_is a.spelling a.actor a.part.now c.after_space-start.ensures c.after_space-length.ensures c.after_space-right.ensures c.new_name_of.ensures
    c.span_of.ensures c.right_of.ensures c.fresh_at-fresh.ensures c.fresh_length.ensures.0 c.mask_at.ensures
