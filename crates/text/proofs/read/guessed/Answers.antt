-- `text::read::guessed` meets its contract: the tests tell the kind, and each word is what stands behind a space.
-- Assumes nothing.
use mathlib.Core.Path.{sym, ap, ◌∙◌}
use Rattle.text.specs.Read.{create_of, borrow_of}
use Rattle.text.proofs.Laws.Read.{guess_create, guess_borrow, guess_read, guess_write, guess_drop}
use Rattle.text.proofs.read.guessed.Goals as goal

pub returns-then-kind-eq99 : goal.returns-then-kind-eq99
returns-then-kind-eq99 c =
    let a = c.args in
    c.create_of.ensures
    ∙ ap (create_of a.spelling a.actor) c.from_name.ensures
    ∙ sym (guess_create a.spelling a.actor a.form.now (sym c.byte_at-kind.ensures ∙ c.if-kind-eq99.true))

pub returns-then-kind-eq98 : goal.returns-then-kind-eq98
returns-then-kind-eq98 c =
    let a = c.args in
    c.borrow_of.ensures
    ∙ ap (borrow_of a.spelling a.actor) c.from_name-then-kind-eq98.ensures
    ∙ sym (guess_borrow a.spelling a.actor a.form.now (sym c.byte_at-kind.ensures ∙ c.if-kind-eq98.true))

pub returns-then-kind-eq114 : goal.returns-then-kind-eq114
returns-then-kind-eq114 c =
    let a = c.args in
    cc (guess_read a.spelling a.actor a.form.now (sym c.byte_at-kind.ensures ∙ c.if-kind-eq114.true))

pub returns-then-kind-eq119 : goal.returns-then-kind-eq119
returns-then-kind-eq119 c =
    let a = c.args in
    cc (guess_write a.spelling a.actor a.form.now (sym c.byte_at-kind.ensures ∙ c.if-kind-eq119.true))

pub returns-else-kind-eq119 : goal.returns-else-kind-eq119
returns-else-kind-eq119 c =
    let a = c.args in
    let kind = c.byte_at-kind.ensures in
    cc (guess_drop a.spelling a.actor a.form.now (λ e. c.if-kind-eq99.false (kind ∙ e)) (λ e. c.if-kind-eq98.false (kind ∙ e))
    (λ e. c.if-kind-eq114.false (kind ∙ e)) (λ e. c.if-kind-eq119.false (kind ∙ e)))
