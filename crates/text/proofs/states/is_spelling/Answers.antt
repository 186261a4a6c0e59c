-- `text::states::is_spelling` meets its contract: the buffer begins with the spelling of the word and the slot, with which the line is compared.
-- Assumes nothing.
use mathlib.Core.Path.{sym, ap, ◌∙◌}
use mathlib.Core.List.{List}
use Prim.Native.Nat.{ℕ}
use lib.Seq.{length-take-le}
use Rattle.text.specs.State.{slot_spelled, spell_slot}
use Rattle.text.specs.Read.{same}
use Rattle.text.proofs.Laws.Write.{Wrote, wrote, wrote_nothing}
use Rattle.text.proofs.Laws.Read.{same_equal}
use Rattle.text.proofs.Laws.State.{slot_short, written_slot}
use Rattle.text.proofs.states.is_spelling.Goals as goal

pub returns-in_default : goal.returns-in_default
returns-in_default c =
    let a = c.args in
    rw (wrote_nothing c.in_default.field-0 (written_slot a.word.now a.actor a.slot c.write_slot-written.ensures) (slot_short a.word.now a.actor a.slot c.requires) c.in_default.is)

pub slice_bounds-buffer-end : goal.slice_bounds-buffer-end
slice_bounds-buffer-end c =
    let word : List ℕ = c.args.word.now in
    let actor : ℕ = c.args.actor in
    let slot : ℕ = c.args.slot in
    let told : Wrote (slot_spelled actor slot) (spell_slot word actor slot) c.write_slot-written.new.out c.in-Ok.length = wrote c.in-Ok.length (written_slot word actor slot c.write_slot-written.ensures) c.in-Ok.is in
    told.inside

pub slice_bounds-eq-end : goal.slice_bounds-eq-end
slice_bounds-eq-end c =
    let word : List ℕ = c.args.word.now in
    let actor : ℕ = c.args.actor in
    let slot : ℕ = c.args.slot in
    let told : Wrote (slot_spelled actor slot) (spell_slot word actor slot) c.write_slot-written.new.out c.in-Ok.length = wrote c.in-Ok.length (written_slot word actor slot c.write_slot-written.ensures) c.in-Ok.is in
    sym (length-take-le _ _ told.inside)

pub returns : goal.returns
returns c =
    let word : List ℕ = c.args.word.now in
    let actor : ℕ = c.args.actor in
    let slot : ℕ = c.args.slot in
    let told : Wrote (slot_spelled actor slot) (spell_slot word actor slot) c.write_slot-written.new.out c.in-Ok.length = wrote c.in-Ok.length (written_slot word actor slot c.write_slot-written.ensures) c.in-Ok.is in
    let t = told in
    rw t.was (c.eq.ensures ∙ same_equal _ _ ∙ ap (same c.args.line.now) t.front)
