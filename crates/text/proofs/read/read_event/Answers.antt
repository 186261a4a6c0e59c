-- `text::read::read_event` meets its contract: by a domain the guess is the answer where the line is its spelling, and by no other there is a line.
-- Assumes nothing.
use mathlib.Core.Path.{◌≡◌, sym, ap, ◌∙◌}
use mathlib.Core.Bool.{false}
use Prim.Native.Nat.{◌<◌}
use borrow.Author.Tests.{ltb-true, not-true, not-false}
use Rattle.model.specs.Table.{is_domain}
use Rattle.text.specs.Read.{actor_of, read_event}
use Rattle.text.proofs.Laws.Range.{guess_short}
use Rattle.text.proofs.Laws.OneSpelling.{no_domain_no_line}
use Rattle.text.proofs.read.read_event.Goals as goal

pub returns-then-not-is_domain : goal.returns-then-not-is_domain
returns-then-not-is_domain c =
    let a = c.args in
    let none : is_domain (actor_of a.line.now) ≡ false =
    ap is_domain (sym c.actor_of-actor.ensures) ∙ sym c.is_domain.ensures ∙ not-true c.is_domain.result c.if-not-is_domain.true-raw in
    sym (no_domain_no_line a.spelling a.line.now none)

pub guessed-event-requires : goal.guessed-event-requires
guessed-event-requires c =
    let below : c.actor_of-actor.result < 64 = ltb-true c.actor_of-actor.result 64 (sym c.is_domain.ensures ∙ not-false c.is_domain.result c.if-not-is_domain.false-raw) in
    below

pub is_spelling-requires : goal.is_spelling-requires
is_spelling-requires c =
    let below : c.actor_of-actor.result < 64 = ltb-true c.actor_of-actor.result 64 (sym c.is_domain.ensures ∙ not-false c.is_domain.result c.if-not-is_domain.false-raw) in
    rw c.guessed-event.ensures (guess_short _ _ below _)

pub returns-then-is_spelling : goal.returns-then-is_spelling
unfolding read_event
returns-then-is_spelling c =
    rw (← c.actor_of-actor.ensures, ← c.form_of-form.ensures, ← c.guessed-event.ensures, ← c.is_spelling.ensures, c.if-is_spelling.true)

pub returns-else-is_spelling : goal.returns-else-is_spelling
unfolding read_event
returns-else-is_spelling c =
    rw (← c.actor_of-actor.ensures, ← c.form_of-form.ensures, ← c.guessed-event.ensures, ← c.is_spelling.ensures, c.if-is_spelling.false)
