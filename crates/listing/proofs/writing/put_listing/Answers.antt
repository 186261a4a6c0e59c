-- `listing::writing::put_listing` meets its contract: the line of the issued number, and then the roots.
-- Assumes nothing.
use mathlib.Core.Path.{refl, sym}
use Prim.Native.Nat.{ℕ}
use mathlib.Core.List.{List, [], append-nil}
use Rattle.model.specs.declared.Cap.{Cap}
use Rattle.listing.specs.First.{first_rows}
use Rattle.text.specs.Put.{Put}
use Rattle.listing.specs.Listing.{roots_from, issued_line, listed}
use Rattle.listing.proofs.Laws.Writing.{Writing, begin, piece, fits, finish}
use Rattle.listing.proofs.Laws.Listing.{listed_is}
use Rattle.listing.proofs.writing.put_listing.Goals as goal

module _ (rows : List Cap) (issued : ℕ) (out : List ℕ) where
  lined : {a : List ℕ} {p : ℕ} → Put out 0 (issued_line issued) a p → Writing out 0 (listed rows issued) a p (roots_from rows 0)
  lined one = piece (begin out 0 (listed rows issued)) (listed_is rows issued) one

pub put_issued-past_line-requires : goal.put_issued-past_line-requires
put_issued-past_line-requires c =
    fits (begin c.args.out.now 0 (listed (first_rows c.args.table.now c.args.n) c.args.issued)) (issued_line c.args.issued) (roots_from (first_rows c.args.table.now c.args.n) 0) (listed_is (first_rows c.args.table.now c.args.n) c.args.issued) c.requires.2

pub put_roots-requires : goal.put_roots-requires
put_roots-requires c =
    (c.requires.0, c.link.ensures, fits (lined (first_rows c.args.table.now c.args.n) c.args.issued c.args.out.now c.put_issued-past_line.ensures) (roots_from (first_rows c.args.table.now c.args.n) 0) [] (sym (append-nil (roots_from (first_rows c.args.table.now c.args.n) 0))) c.requires.2, c.requires.3)

pub returns : goal.returns
returns c =
    finish (piece (lined (first_rows c.args.table.now c.args.n) c.args.issued c.args.out.now c.put_issued-past_line.ensures) (sym (append-nil (roots_from (first_rows c.args.table.now c.args.n) 0))) c.put_roots.ensures) refl
