-- `listing::reading::writes_back` meets its contract: the buffer begins with the listing of the rows, with which the text is compared. Where
-- the listing has no room, the text is not that long.
-- Assumes nothing.
use mathlib.Core.Path.{◌≡◌, refl, sym, ap, ◌∙◌}
use mathlib.Core.Logic.{⊎_elim}
use mathlib.Core.List.{List}
use Prim.Native.Nat.{ℕ, ◌≤◌}
use native.Mathlib.Omega.{arith}
use lib.ListN.{length}
use lib.Seq.{length-take-le}
use Rattle.std.proofs.lemmas.Bool.Decides.{Decides-eqb}
use Rattle.std.proofs.lemmas.Slice.Eq.{slice_eq-Decides}
use Rattle.model.proofs.Offered.{clash}
use Rattle.listing.specs.First.{first_rows}
use Rattle.listing.specs.Listing.{listed}
use Rattle.text.proofs.Offered.{wrote, wrote_none, same_is}
use Rattle.listing.proofs.Laws.First.{length_first}
use Rattle.listing.proofs.Laws.Fits.{listed_fits}
use Rattle.listing.proofs.reading.writes_back.Goals as goal

pub returns-in_default : goal.returns-in_default
returns-in_default c =
    let a = c.args in
    let write = c.write_rows-written.ensures in
    let s : List ℕ = listed (first_rows a.table.now a.n) a.issued in
    let room : a.text.now ≡ s → length s ≤ length a.out.now = λ e. ⊎_elim (λ h. omega (arith, ap length e)) (λ h. omega (arith, listed_fits a.issued c.requires.1 (omega (arith, length_first a.table.now a.n c.requires.3)) c.requires.4)) c.requires.2 in
    same_is _ _ _ (λ e. clash e refl) (λ e. clash refl (wrote_none c.in_default.field-0 write (room e) c.in_default.is))

pub slice_bounds-eq-end : goal.slice_bounds-eq-end
slice_bounds-eq-end c =
    (wrote c.in-Ok.length c.write_rows-written.ensures c.in-Ok.is).inside

pub slice_bounds-eq-end-2 : goal.slice_bounds-eq-end-2
slice_bounds-eq-end-2 c =
    sym (length-take-le _ _ (wrote c.in-Ok.length c.write_rows-written.ensures c.in-Ok.is).inside)

pub returns : goal.returns
returns c =
    let t = wrote c.in-Ok.length c.write_rows-written.ensures c.in-Ok.is in
    let told = slice_eq-Decides Decides-eqb _ _ _ c.eq.ensures in
    same_is c.eq.result _ _ (λ e. told.0 e ∙ t.front) (λ e. told.1 (e ∙ sym t.front))
