-- The digits of a mask: each is the byte of a digit or a letter, so that no space, bracket or newline is among them; and a mask that was written is
-- read back.
-- Assumes nothing.
use mathlib.Core.Path.{◌≡◌, refl, sym, ap, ◌∙◌}
use mathlib.Core.Bool.{Bool, true, false, cond}
use mathlib.Core.Logic.{◌⊎◌, inl, inr, ⊎_elim}
use mathlib.Core.List.{List, [], ◌∷◌, ◌++◌}
use Prim.Native.Nat.{ℕ, zero, suc, ◌+◌, ◌-◌, ◌*◌, ◌/◌, ◌%◌, ◌^◌, min, ◌≤◌, ◌<◌}
use native.Mathlib.Nat.{zero-add, pow-zero, pow-suc, pow-le-pow_right, mod-lt, div-add-mod', div-lt_iff_lt-mul, le_of_suc-le-suc}
use native.Mathlib.Numerals.{add-one}
use native.Mathlib.Omega.{arith}
use lib.Dec.{ltb, leb, eqb, lit<}
use lib.ListN.{length, get_or, drop, set, length-append, drop_of_length-le}
use lib.Seq.{sets, append_snoc, drop-cons}
use borrow.Author.Tests.{le-leb, lt-leb, ne_eqb, ltb-true, ltb-false, leb-true, leb-false}
use Rattle.model.proofs.Offered.{All, All_map, All_append}
use Rattle.text.specs.Class.{class_of, within, digit, letter}
use Rattle.text.specs.Mask.{hex_digit, hex, hex_value, hex_from, hex_of}
use Rattle.text.proofs.Laws.Number.{within_true}
use Rattle.text.proofs.Laws.Put.{sets_last}

-- ---- one digit

-- the byte of a digit
abbrev pub IsDigit : ℕ → Type 0
IsDigit b = (d : ℕ) × (d < 16) × (b ≡ hex_digit d)

-- what holds of the digits 0 to 9 and of a to f holds of each
each : (P : ℕ → Type 0) (d : ℕ) → d < 16 → (d < 10 → P (48 + d)) → (10 ≤ d → P (87 + d)) → P (hex_digit d)
each P d h low high = go (ltb d 10) refl
  where
    go : (t : Bool) → ltb d 10 ≡ t → P (cond t (48 + d) (87 + d))
    go true e = low (ltb-true d 10 e)
    go false e = high (ltb-false d 10 e)

-- it has class 1 or 2
pub mask_class : (b : ℕ) → IsDigit b → (class_of b ≡ digit) ⊎ (class_of b ≡ letter)
unfolding class_of
mask_class b (d, h, is) =
    rw is
    (each (λ x. (class_of x ≡ digit) ⊎ (class_of x ≡ letter)) d h
    (λ l. inl (rw (le-leb 48 (48 + d) (omega arith), le-leb (48 + d) 57 (omega arith))))
    (λ l. inr (rw (le-leb 48 (87 + d) (omega arith), lt-leb (87 + d) 57 (omega arith), le-leb 97 (87 + d) (omega arith), le-leb (87 + d) 122 (omega arith)))))

-- and so no other
pub mask_other : (b : ℕ) → IsDigit b → (c : ℕ) → 2 < c → eqb (class_of b) c ≡ false
mask_other b is c h = ne_eqb (class_of b) c (λ e. ⊎_elim (λ one. let n : ⊥ = omega arith in n) (λ two. omega arith) (mask_class b is))

-- it is `f` at most, which is byte 102: no letter above it
abbrev pub Low : ℕ → Type 0
Low b = b ≤ 102

digit_low : (b : ℕ) → IsDigit b → Low b
digit_low b (d, h, is) = rw is (each Low d h (λ l. omega arith) (λ l. omega arith))

digit_back : (d : ℕ) → d < 16 → hex_value (hex_digit d) ≡ d
digit_back d h =
    each (λ x. hex_value x ≡ d) d h
    (λ l. rw (le-leb 48 (48 + d) (omega arith), le-leb (48 + d) 57 (omega arith)) (omega arith))
    (λ l. rw (le-leb 48 (87 + d) (omega arith), lt-leb (87 + d) 57 (omega arith), le-leb 97 (87 + d) (omega arith), le-leb (87 + d) 102 (omega arith)) (omega arith))

pub value_small : (b : ℕ) → hex_value b < 16
value_small b = go (within 48 57 b) (within 97 102 b) refl refl
  where
    go : (x y : Bool) → within 48 57 b ≡ x → within 97 102 b ≡ y → cond x (b - 48) (cond y (b - 87) 0) < 16
    go true y p q = omega (arith, within_true 48 57 b p)
    go false true p q = omega (arith, within_true 97 102 b q)
    go false false p q = omega arith

-- ---- the digits of a number

pub length_hex : (k n : ℕ) → length (hex k n) ≡ k
unfolding hex
length_hex zero n = refl
length_hex (suc k) n = omega (arith, length-append (hex k (n / 16)) (hex_digit (n % 16) ∷ []), length_hex k (n / 16))

-- the lowest of them written behind the others
pub hex_turn : (out : List ℕ) (at n next : ℕ) → at < next → sets (set out (next - 1) (hex_digit (n % 16))) at (hex (next - 1 - at) (n / 16)) ≡ sets out at (hex (next - at) n)
unfolding hex
hex_turn out at n next h =
    let others = hex (next - 1 - at) (n / 16) in
    let last : next - 1 ≡ at + length others = omega (arith, length_hex (next - 1 - at) (n / 16)) in
    let more : next - at ≡ suc (next - 1 - at) = omega arith in
    ap (λ (k : ℕ). sets (set out k (hex_digit (n % 16))) at others) last
    ∙ sets_last out at (hex_digit (n % 16)) others
    ∙ ap (sets out at) (sym (ap (λ (k : ℕ). hex k n) more))

pub hex_none : (out : List ℕ) (at : ℕ) {k : ℕ} (n : ℕ) → k ≡ 0 → sets out at (hex k n) ≡ out
unfolding hex
hex_none out at n e = rw e

-- each of them is the byte of a digit
pub hex_digits : (k n : ℕ) → All IsDigit (hex k n)
unfolding hex
hex_digits zero n = tt
hex_digits (suc k) n = All_append IsDigit (hex k (n / 16)) (hex_digit (n % 16) ∷ []) (hex_digits k (n / 16)) ((n % 16, mod-lt n (lit< tt), refl), tt)

-- what holds of every byte of a text holds of the one at an index, whatever follows
at_front : (P : ℕ → Type 0) (l t : List ℕ) (i : ℕ) → All P l → i < length l → P (get_or (l ++ t) i 0)
at_front P [] t i h l = absurd (let z : i < 0 = l in omega arith)
at_front P (x ∷ l) t zero h lt = h.0
at_front P (x ∷ l) t (suc i) h lt = at_front P l t i h.1 (le_of_suc-le-suc lt)

pub hex_low : (k n : ℕ) → All Low (hex k n)
hex_low k n = All_map IsDigit Low digit_low (hex k n) (hex_digits k n)

-- no letter above f stands in a text that has none, whatever follows
pub low_other : (s t : List ℕ) (i c : ℕ) → All Low s → i < length s → 102 < c → eqb (get_or (s ++ t) i 0) c ≡ false
low_other s t i c low h l = ne_eqb (get_or (s ++ t) i 0) c (λ e. omega (arith, at_front Low s t i low h))

-- ---- read back

-- reading k digits gives the number that they were written of
hex_read : (k j n : ℕ) (t : List ℕ) → n < 16 ^ k → hex_from (k + j) 0 (hex k n ++ t) ≡ hex_from j n t
unfolding hex hex_from
hex_read zero j n t h =
    let none : n ≡ 0 = omega (arith, pow-zero 16) in
    ap (λ (m : ℕ). hex_from m 0 t) (zero-add j) ∙ ap (λ (v : ℕ). hex_from j v t) (sym none)
hex_read (suc k) j n t h =
    let d = hex_digit (n % 16) in
    let high : n / 16 < 16 ^ k = (div-lt_iff_lt-mul (lit< tt)).1 (rw pow-suc at h) in
    let moved : suc k + j ≡ k + suc j = omega arith in
    let worth : n / 16 * 16 + hex_value d ≡ n = ap (λ (v : ℕ). n / 16 * 16 + v) (digit_back (n % 16) (mod-lt n (lit< tt))) ∙ div-add-mod' n 16 in
    ap (λ (m : ℕ). hex_from m 0 ((hex k (n / 16) ++ (d ∷ [])) ++ t)) moved
    ∙ ap (hex_from (k + suc j) 0) (append_snoc (hex k (n / 16)) d t)
    ∙ hex_read k (suc j) (n / 16) (d ∷ t) high
    ∙ ap (λ (v : ℕ). hex_from j v t) worth

-- a mask that was written is read back, whatever follows
pub hex_back : (n : ℕ) (t : List ℕ) → n < 2 ^ 64 → hex_of (hex 16 n ++ t) ≡ n
unfolding hex_from
hex_back n t h = hex_read 16 0 n t h

-- what is read has 64 bits
from_small : (k j v : ℕ) (s : List ℕ) → v < 16 ^ j → hex_from k v s < 16 ^ (k + j)
unfolding hex_from
from_small zero j v s h = rw (zero-add j) h
from_small (suc k) j v [] h =
    let up : 16 ^ j ≤ 16 ^ (suc k + j) = pow-le-pow_right (lit< tt) (omega arith) in
    omega arith
from_small (suc k) j v (b ∷ s) h =
    let next : v * 16 + hex_value b < 16 ^ suc j = rw pow-suc (omega (arith, value_small b)) in
    let moved : suc k + j ≡ k + suc j = omega arith in
    rw moved (from_small k (suc j) (v * 16 + hex_value b) s next)

pub hex_of_small : (s : List ℕ) → hex_of s < 2 ^ 64
hex_of_small s = from_small 16 0 0 s (lit< tt)

-- ---- one byte further

module _ (v : ℕ) (s : List ℕ) (i : ℕ) where
  pub from_digit : (d : ℕ) → i < 16 → i < length s → d ≡ hex_value (get_or s i 0) → hex_from (16 - i) v (drop i s) ≡ hex_from (16 - (i + 1)) (v * 16 + d) (drop (i + 1) s)
  unfolding hex_from
  from_digit d few h is =
      let left : 16 - i ≡ suc (16 - (i + 1)) = omega arith in
      rw (left, drop-cons s i 0, is, add-one)

pub from_end : (k v : ℕ) (s : List ℕ) (i : ℕ) → length s ≤ i → hex_from k v (drop i s) ≡ v
unfolding hex_from
from_end zero v s i h = refl
from_end (suc k) v s i h = rw (drop_of_length-le s h)

pub from_none : (v : ℕ) (s : List ℕ) {k : ℕ} → k ≡ 0 → hex_from k v s ≡ v
unfolding hex_from
from_none v s e = rw e

-- no digit is left behind the first 16 bytes of a text, or behind all of them
pub from_first : (v : ℕ) (s : List ℕ) (i : ℕ) → i ≡ min (length s) 16 → hex_from (16 - i) v (drop i s) ≡ v
from_first v s i e = go (leb (length s) i) refl
  where
    go : (t : Bool) → leb (length s) i ≡ t → hex_from (16 - i) v (drop i s) ≡ v
    go true is = from_end (16 - i) v s i (leb-true (length s) i is)
    go false is = let none : 16 - i ≡ 0 = omega (arith, leb-false (length s) i is) in from_none v (drop i s) none

-- the mask of a domain alone has 64 bits
pub mask_fits : (domain : ℕ) → domain < 64 → 2 ^ domain < 2 ^ 64
mask_fits domain h =
    let low : domain ≤ 63 = omega arith in
    let up : 2 ^ domain ≤ 2 ^ 63 = pow-le-pow_right (lit< tt) low in
    omega arith
