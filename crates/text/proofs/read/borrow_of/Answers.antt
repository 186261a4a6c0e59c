-- `text::read::borrow_of` meets its contract: each word is what stands behind a space, and the mask stands behind the kind.
-- Assumes nothing.
use Rattle.text.proofs.Laws.Read.{borrow_is}
use Rattle.text.proofs.read.borrow_of.Goals as goal

pub returns : goal.returns
returns c =
    let a = c.args in
    borrow_is a.spelling a.actor a.part.now c.after_space-name.ensures c.after_space-start.ensures c.after_space-length.ensures c.new_name_of.ensures
    c.after_space-right.ensures c.name_of.ensures c.span_of.ensures c.right_of.ensures c.kind_of-kind.ensures c.kind_length.ensures.0 c.mask_at.ensures
