-- `listing::forms::head_of` meets its contract: each word is what stands behind the space that ends the one before, the kind stands
-- behind the right, the mark behind the kind, the maker behind the mark, and the mask of holders behind the maker.
-- Assumes nothing.
use mathlib.Core.Path.{◌≡◌, ap, ap₂, ◌∙◌}
use mathlib.Core.List.{List}
use Prim.Native.Nat.{ℕ, ◌+◌}
use native.Mathlib.Omega.{arith}
use lib.ListN.{length, drop}
use Rattle.text.specs.Class.{space}
use Rattle.text.specs.Line.{through, after_space}
use Rattle.text.specs.Decimal.{number_of}
use Rattle.text.specs.Mask.{hex_of}
use Rattle.text.specs.Event.{kind_word, fresh_word}
use Rattle.text.specs.Read.{right_of, kind_of, fresh_at}
use Rattle.listing.specs.Forms.{right_text, kind_length, mark_of, maker_text}
use Rattle.listing.proofs.Laws.Reading.{children_short, children_left}
use Rattle.listing.proofs.forms.head_of.Goals as goal

behind : {s t u : List ℕ} {n : ℕ} → t ≡ s → n ≡ through space t → u ≡ drop n t → u ≡ after_space s
behind {s} {t} et en eu = eu ∙ ap (λ (k : ℕ). drop k t) en ∙ ap after_space et

-- behind the right: how many bytes are counted of the kind's word, the mark that is found behind it, and then the maker
module _ (s : List ℕ) {t : List ℕ} (et : t ≡ right_text s) where
  counted : {k n : ℕ} → k ≡ kind_of t → n ≡ length (kind_word k) → n ≡ kind_length s
  counted ek en = en ∙ ap (λ (j : ℕ). length (kind_word j)) (ek ∙ ap kind_of et)

  marked : {m n : ℕ} → n ≡ kind_length s → m ≡ fresh_at t (4 + n) → m ≡ mark_of s
  marked en em = em ∙ ap₂ (λ (w : List ℕ) (j : ℕ). fresh_at w (4 + j)) et en

  made : {u : List ℕ} {m n l : ℕ} → n ≡ kind_length s → m ≡ mark_of s → l ≡ length (fresh_word m) → u ≡ drop (3 + n + l) t → u ≡ maker_text s
  made {u} {m} {n} {l} en em el eu =
      let all : 3 + n + l ≡ 3 + (kind_length s + length (fresh_word (mark_of s))) = omega (arith, el, ap (λ (j : ℕ). length (fresh_word j)) em) in
      eu ∙ ap₂ drop all et

pub returns : goal.returns
returns c =
    let a = c.args in
    let s = a.text.now in
    let name = c.past-name_text.ensures in
    let start = behind name c.read_word-name.ensures.1 c.past-start_text.ensures in
    let length = behind start c.read_word-start.ensures.1 c.past-length_text.ensures in
    let last = behind length c.read_word-length.ensures.1 c.past-right_text.ensures in
    let kind = c.kind_of-kind.ensures in
    let bytes = counted s last kind c.kind_length-past_kind.ensures.0 in
    let mark = marked s last bytes c.fresh_at-fresh.ensures in
    let maker = made s last bytes mark c.fresh_length.ensures.0 c.past-maker_text.ensures in
    let mask = behind maker c.read_word-maker.ensures.1 c.past-mask_text.ensures in
    let children = c.past-children.ensures ∙ ap (drop 16) mask in (
      (λ i. record {
        name = record { 0 = (c.read_word-name.ensures.0 ∙ ap number_of name) i };
        parent = record { 0 = a.parent };
        start = record { 0 = (c.read_word-start.ensures.0 ∙ ap number_of start) i };
        length = (c.read_word-length.ensures.0 ∙ ap number_of length) i;
        right = (c.right_of.ensures ∙ ap right_of last) i;
        depth = a.depth;
        kind = (kind ∙ ap kind_of last) i;
        fresh = mark i;
        maker = (c.read_word-maker.ensures.0 ∙ ap number_of maker) i;
        holders = (c.digits_of.ensures ∙ ap hex_of mask) i;
      }),
      children_short s children,
      children_left s children,
    )
