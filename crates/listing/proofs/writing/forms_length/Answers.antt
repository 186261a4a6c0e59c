use mathlib.Core.Path.{◌≡◌, refl, ap}
use Prim.Native.Nat.{ℕ, ◌+◌, ◌<◌}
use mathlib.Core.List.{List}
use native.Mathlib.Omega.{arith}
use native.Mathlib.Numerals.{add-one}
use lib.ListN.{length, get_or}
use Rattle.model.specs.declared.Cap.{Cap}
use Rattle.model.specs.Table.{empty_row}
use Rattle.table.specs.Words.{rows_in}
use Rattle.listing.specs.First.{first_rows}
use Rattle.listing.specs.Listing.{form_length, total, forms_length}
use Rattle.listing.proofs.Laws.Listing.{forms_more}
use Rattle.listing.proofs.writing.forms_length.Goals as goal

more : (ws : List (List ℕ)) (i total len : ℕ) (c : Cap) → i < length ws → total ≡ forms_length (first_rows ws i) → len ≡ form_length c → c ≡ get_or (rows_in ws) i empty_row → total + len ≡ forms_length (first_rows ws (i + 1))
more ws i total len c l e f g = omega (arith, forms_more ws i l, ap form_length g, ap (λ (k : ℕ). forms_length (first_rows ws k)) (add-one i))

pub loop-i-init : goal.loop-i-init
unfolding total
loop-i-init c = (refl, omega arith)

pub loop-i-preserved : goal.loop-i-preserved
loop-i-preserved c =
    (more c.args.table.now c.loop-i.i c.loop-i.total c.form_length-total.result c.row_at.result (omega arith) c.loop-i.invariant.0 c.form_length-total.ensures.0 c.row_at.ensures, omega (arith, c.form_length-total.ensures.1))
