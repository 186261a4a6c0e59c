-- `listing::writing::put_holding` meets its contract: the maker's number, a space, and the digits of the mask are put one behind the other.
-- Assumes nothing.
use mathlib.Core.Path.{refl, sym}
use Prim.Native.Nat.{ℕ, ◌+◌, ◌<◌}
use mathlib.Core.List.{List, [], ◌∷◌, append-nil}
use native.Mathlib.Omega.{arith}
use lib.ListN.{length, set}
use Rattle.text.specs.Mask.{hex}
use Rattle.text.specs.Event.{spaced}
use Rattle.text.specs.Put.{Room, Put}
use Rattle.text.proofs.Offered.{put_length}
use Rattle.listing.specs.Listing.{holding}
use Rattle.listing.proofs.Laws.Writing.{Writing, begin, byte, piece, fits, one_fits, finish}
use Rattle.listing.proofs.writing.put_holding.Goals as goal

module _ (out : List ℕ) (at maker holders : ℕ) where
  abbrev number : List ℕ
  number = spaced (maker ∷ [])

  abbrev digits : List ℕ
  digits = hex 16 holders

  abbrev all : List ℕ
  all = holding maker holders

  maker-fits : Room out at all → Room out at number
  maker-fits r = fits (begin out at all) number (32 ∷ digits) refl r

  module _ {a : List ℕ} {p : ℕ} (one : Put out at number a p) where
    made : Writing out at all a p (32 ∷ digits)
    made = piece (begin out at all) refl one

    space-fits : Room out at all → p < length a
    space-fits r = one_fits made 32 digits refl r

    parted : Writing out at all (set a p 32) (p + 1) digits
    parted = byte made 32 refl

    digits-fit : Room out at all → Room (set a p 32) (p + 1) digits
    digits-fit r = fits parted digits [] (sym (append-nil digits)) r

    done : {b : List ℕ} {q : ℕ} → Put (set a p 32) (p + 1) digits b q → Put out at all b q
    done two = finish (piece parted (sym (append-nil digits)) two) refl

pub put_numbers-past_maker-requires : goal.put_numbers-past_maker-requires
put_numbers-past_maker-requires c =
    maker-fits c.args.out.now c.args.at c.args.maker c.args.holders c.requires

pub bounds-out-past_maker : goal.bounds-out-past_maker
bounds-out-past_maker c =
    space-fits c.args.out.now c.args.at c.args.maker c.args.holders c.put_numbers-past_maker.ensures c.requires

pub overflow_add-past_maker : goal.overflow_add-past_maker
overflow_add-past_maker c =
    omega (arith, space-fits c.args.out.now c.args.at c.args.maker c.args.holders c.put_numbers-past_maker.ensures c.requires)

pub put_digits-requires : goal.put_digits-requires
put_digits-requires c =
    digits-fit c.args.out.now c.args.at c.args.maker c.args.holders c.put_numbers-past_maker.ensures c.requires

pub shape_of-out : goal.shape_of-out
shape_of-out c =
    put_length (done c.args.out.now c.args.at c.args.maker c.args.holders c.put_numbers-past_maker.ensures c.put_digits.ensures)

pub returns : goal.returns
returns c =
    done c.args.out.now c.args.at c.args.maker c.args.holders c.put_numbers-past_maker.ensures c.put_digits.ensures
