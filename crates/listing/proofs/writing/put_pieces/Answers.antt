-- `listing::writing::put_pieces` meets its contract: the number, the numbers, the right, the kind, the mark, and the maker with the mask, one
-- behind the other, are the pieces.
-- Assumes nothing.
use mathlib.Core.Path.{◌≡◌, refl, sym}
use Prim.Native.Nat.{ℕ}
use mathlib.Core.List.{List, [], ◌∷◌, ◌++◌, append-nil}
use Rattle.model.specs.declared.Cap.{Cap}
use Rattle.text.specs.Decimal.{decimal}
use Rattle.text.specs.Event.{spaced, right_word, kind_word, fresh_word}
use Rattle.text.specs.Put.{Room, Put}
use Rattle.listing.specs.Listing.{holding, pieces}
use Rattle.listing.proofs.Laws.Writing.{Writing, begin, piece, fits, finish}
use Rattle.listing.proofs.writing.put_pieces.Goals as goal

module _ (out : List ℕ) (at : ℕ) (c : Cap) where
  abbrev numbers : List ℕ
  numbers = spaced (c.start.0 ∷ c.length ∷ [])

  -- from the maker on, from the mark on, from the kind on, and from the right on
  abbrev held : List ℕ
  held = holding c.maker c.holders

  abbrev marked : List ℕ
  marked = fresh_word c.fresh ++ held

  abbrev kinded : List ℕ
  kinded = kind_word c.kind ++ marked

  abbrev words : List ℕ
  words = right_word c.right ++ kinded

  all : pieces c ≡ decimal c.name.0 ++ (numbers ++ words)
  unfolding pieces
  all = refl

  start : Writing out at (pieces c) out at (pieces c)
  start = begin out at (pieces c)

  name-fits : Room out at (pieces c) → Room out at (decimal c.name.0)
  name-fits r = fits start (decimal c.name.0) (numbers ++ words) all r

  module _ {a : List ℕ} {p : ℕ} (one : Put out at (decimal c.name.0) a p) where
    past-name : Writing out at (pieces c) a p (numbers ++ words)
    past-name = piece start all one

    numbers_fit : Room out at (pieces c) → Room a p numbers
    numbers_fit r = fits past-name numbers words refl r

    module _ {b : List ℕ} {q : ℕ} (two : Put a p numbers b q) where
      past-numbers : Writing out at (pieces c) b q words
      past-numbers = piece past-name refl two

      right-fits : Room out at (pieces c) → Room b q (right_word c.right)
      right-fits r = fits past-numbers (right_word c.right) kinded refl r

      module _ {d : List ℕ} {e : ℕ} (three : Put b q (right_word c.right) d e) where
        past-right : Writing out at (pieces c) d e kinded
        past-right = piece past-numbers refl three

        kind_fits : Room out at (pieces c) → Room d e (kind_word c.kind)
        kind_fits r = fits past-right (kind_word c.kind) marked refl r

        module _ {f : List ℕ} {g : ℕ} (four : Put d e (kind_word c.kind) f g) where
          past-kind : Writing out at (pieces c) f g marked
          past-kind = piece past-right refl four

          mark-fits : Room out at (pieces c) → Room f g (fresh_word c.fresh)
          mark-fits r = fits past-kind (fresh_word c.fresh) held refl r

          module _ {h : List ℕ} {k : ℕ} (five : Put f g (fresh_word c.fresh) h k) where
            past-mark : Writing out at (pieces c) h k held
            past-mark = piece past-kind refl five

            held_fits : Room out at (pieces c) → Room h k held
            held_fits r = fits past-mark held [] (sym (append-nil held)) r

            done : {l : List ℕ} {m : ℕ} → Put h k held l m → Put out at (pieces c) l m
            done six = finish (piece past-mark (sym (append-nil held)) six) refl

pub put_number-past_name-requires : goal.put_number-past_name-requires
put_number-past_name-requires c =
    name-fits c.args.out.now c.args.at c.args.c c.requires

pub put_numbers-past_numbers-requires : goal.put_numbers-past_numbers-requires
put_numbers-past_numbers-requires c =
    numbers_fit c.args.out.now c.args.at c.args.c c.put_number-past_name.ensures c.requires

pub put_right-past_right-requires : goal.put_right-past_right-requires
put_right-past_right-requires c =
    right-fits c.args.out.now c.args.at c.args.c c.put_number-past_name.ensures c.put_numbers-past_numbers.ensures c.requires

pub put_kind-past_kind-requires : goal.put_kind-past_kind-requires
put_kind-past_kind-requires c =
    kind_fits c.args.out.now c.args.at c.args.c c.put_number-past_name.ensures c.put_numbers-past_numbers.ensures c.put_right-past_right.ensures c.requires

pub put_fresh-past_fresh-requires : goal.put_fresh-past_fresh-requires
put_fresh-past_fresh-requires c =
    mark-fits c.args.out.now c.args.at c.args.c c.put_number-past_name.ensures c.put_numbers-past_numbers.ensures c.put_right-past_right.ensures c.put_kind-past_kind.ensures c.requires

pub put_holding-requires : goal.put_holding-requires
put_holding-requires c =
    held_fits c.args.out.now c.args.at c.args.c c.put_number-past_name.ensures c.put_numbers-past_numbers.ensures c.put_right-past_right.ensures c.put_kind-past_kind.ensures c.put_fresh-past_fresh.ensures c.requires

pub returns : goal.returns
returns c =
    done c.args.out.now c.args.at c.args.c c.put_number-past_name.ensures c.put_numbers-past_numbers.ensures c.put_right-past_right.ensures c.put_kind-past_kind.ensures c.put_fresh-past_fresh.ensures c.put_holding.ensures
