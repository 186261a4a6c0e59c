-- `text::read::is_spelling` meets its contract: the buffer begins with the event's spelling, with which the line is compared.
-- Assumes nothing.
use mathlib.Core.Path.{sym, ap, ◌∙◌}
use Prim.Native.Nat.{ℕ}
use lib.Seq.{length-take-le}
use Rattle.model.specs.declared.Event.{Event}
use Rattle.text.specs.declared.spelling.Spelling.{Spelling}
use Rattle.text.specs.Event.{spell, has_spelling}
use Rattle.text.specs.Read.{same}
use Rattle.text.proofs.Laws.Write.{Wrote, wrote, wrote_nothing, written_event}
use Rattle.text.proofs.Laws.Read.{same_equal}
use Rattle.text.proofs.read.is_spelling.Goals as goal

pub returns-in_default : goal.returns-in_default
returns-in_default c =
    rw (wrote_nothing c.in_default.field-0 (written_event _ _ _ c.write_event-written.ensures) c.requires c.in_default.is)

pub slice_bounds-buffer-end : goal.slice_bounds-buffer-end
slice_bounds-buffer-end c =
    let spelling : Spelling = c.args.spelling in
    let actor : ℕ = c.args.actor in
    let event : Event = c.args.event in
    let told : Wrote (has_spelling spelling actor event) (spell actor event) c.write_event-written.new.out c.in-Ok.length = wrote c.in-Ok.length (written_event spelling actor event c.write_event-written.ensures) c.in-Ok.is in
    told.inside

pub slice_bounds-eq-end : goal.slice_bounds-eq-end
slice_bounds-eq-end c =
    let spelling : Spelling = c.args.spelling in
    let actor : ℕ = c.args.actor in
    let event : Event = c.args.event in
    let told : Wrote (has_spelling spelling actor event) (spell actor event) c.write_event-written.new.out c.in-Ok.length = wrote c.in-Ok.length (written_event spelling actor event c.write_event-written.ensures) c.in-Ok.is in
    sym (length-take-le _ _ told.inside)

pub returns : goal.returns
returns c =
    let spelling : Spelling = c.args.spelling in
    let actor : ℕ = c.args.actor in
    let event : Event = c.args.event in
    let told : Wrote (has_spelling spelling actor event) (spell actor event) c.write_event-written.new.out c.in-Ok.length = wrote c.in-Ok.length (written_event spelling actor event c.write_event-written.ensures) c.in-Ok.is in
    let t = told in
    rw t.was (c.eq.ensures ∙ same_equal _ _ ∙ ap (same c.args.line.now) t.front)
