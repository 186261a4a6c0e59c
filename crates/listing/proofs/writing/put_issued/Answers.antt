-- `listing::writing::put_issued` meets its contract: three pieces, one behind the other, are the line.
-- Assumes nothing.
use mathlib.Core.Path.{refl}
use Prim.Native.Nat.{ℕ}
use mathlib.Core.List.{List, [], ◌∷◌, ◌++◌}
use Rattle.text.specs.Event.{bytes, spaced}
use Rattle.text.specs.Put.{Put}
use Rattle.listing.specs.Listing.{issued_line}
use Rattle.listing.proofs.Laws.Writing.{Writing, begin, piece, fits, finish}
use Rattle.listing.proofs.writing.put_issued.Goals as goal

module _ (out : List ℕ) (issued : ℕ) {a : List ℕ} {p : ℕ} (one : Put out 0 (bytes "(issued") a p) where
  worded : Writing out 0 (issued_line issued) a p (spaced (issued ∷ []) ++ bytes ")\n")
  worded = piece (begin out 0 (issued_line issued)) refl one

  numbered : {b : List ℕ} {q : ℕ} → Put a p (spaced (issued ∷ [])) b q → Writing out 0 (issued_line issued) b q (bytes ")\n")
  numbered two = piece worded refl two

pub put_numbers-past_number-requires : goal.put_numbers-past_number-requires
put_numbers-past_number-requires c =
    fits (worded c.args.out.now c.args.issued c.put_bytes-past_word.ensures) (spaced (c.args.issued ∷ [])) (bytes ")\n") refl c.requires

pub put_bytes-requires : goal.put_bytes-requires
put_bytes-requires c =
    fits (numbered c.args.out.now c.args.issued c.put_bytes-past_word.ensures c.put_numbers-past_number.ensures) (bytes ")\n") [] refl c.requires

pub returns : goal.returns
returns c =
    finish (piece (numbered c.args.out.now c.args.issued c.put_bytes-past_word.ensures c.put_numbers-past_number.ensures) refl c.put_bytes.ensures) refl
