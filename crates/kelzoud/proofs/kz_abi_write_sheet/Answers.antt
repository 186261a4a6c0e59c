-- `kelzoud::kz_abi_write_sheet` meets its contract: a sheet has one text, whichever bytes it has.
-- Assumes nothing.
use mathlib.Core.Path.{ap, ◌∙◌}
use Rattle.model.specs.declared.Sheet.{Sheet}
use Rattle.table.specs.Sheets.{bytes_of}
use Rattle.text.specs.Write.{Outcome}
use Rattle.sheet.specs.WriteSheet.{sheet_text, write_sheet}
use Rattle.sheet.proofs.Offered.{text_of_sheet}
use Rattle.kelzoud.specs.Interface.{packed_result}
use Rattle.kelzoud.proofs.kz_abi_write_sheet.Goals as goal

pub returns : goal.returns
unfolding write_sheet
returns c =
    let one = text_of_sheet c.sheet_lent-bytes.result ∙ ap (λ (s : Sheet). sheet_text (bytes_of s)) c.sheet_lent-bytes.ensures in
    let e = rw one at c.write_sheet-answer.ensures in
    (c.packed_written.ensures ∙ ap (λ (o : Outcome). packed_result o.answer) e, ap (λ (o : Outcome). o.buffer) e)
