-- Card 9: the lent bits are what the notes say of each address below 65,536.
-- Assumes nothing.
use mathlib.Core.Path.{◌≡◌, refl, sym, ap, ap₂, ◌∙◌}
use mathlib.Core.Logic.{◌⊎◌, inl, inr}
use mathlib.Core.Bool.{Bool, true, false, cond, ◌&&◌, ◌||◌, and-false}
use mathlib.Core.List.{List, [], ◌∷◌}
use Prim.Native.Nat.{ℕ, zero, suc, ◌+◌, ◌*◌, ◌/◌, ◌%◌, ◌^◌, ◌<◌, ◌≤◌}
use native.Mathlib.Nat.{add-zero, div-add-mod', div-one, div-div-eq-div-mul, pow-succ', two-pow-succ, zero-div}
use native.Mathlib.Omega.{arith}
use lib.Dec.{eqb, leb, ltb}
use lib.ListN.{length, get_or, set, replicate, length-set, length-replicate, get_or-replicate}
use lib.Seq.{get_or-set_same, get_or-set_other}
use borrow.Author.Tests.{eqb-true, eqb-false, eq-eqb, ne_eqb, leb-true, leb-false, le-leb, lt-leb, ltb-true, ltb-false, lt-ltb, le-ltb}
use Rattle.model.specs.declared.Span.{Span}
use Rattle.model.specs.declared.Event.TheVariants.{Create, Borrow, Read, Write, Drop}
use Rattle.model.specs.declared.Access.TheVariants.{Reading, Writing}
use Rattle.model.specs.Lists.{any}
use Rattle.model.specs.Values.{end}
use Rattle.model.specs.Requests.{Request, Single, Group, Mark, Back}
use Rattle.model.specs.Bits.{has_bit, with_bit, bit_at, put_at, put_from, low_length, bits_after, all_written, in_span}
use Rattle.model.specs.History.{Note, New, Accessed, Dropped, written}
use Rattle.model.proofs.Lists.{test}

-- ---- one bit

half_with : (x r : ℕ) → r < 2 → (x * 2 + r) / 2 ≡ x
half_with x r l = omega arith

odd_with : (x r : ℕ) → r < 2 → (x * 2 + r) % 2 ≡ r
odd_with x r l = omega arith

pub has_bit_first : (b : ℕ) → has_bit b 0 ≡ eqb (b % 2) 1
unfolding has_bit
has_bit_first b = rw (div-one b)

pub has_bit_next : (b j : ℕ) → has_bit b (suc j) ≡ has_bit (b / 2) j
unfolding has_bit
has_bit_next b j = rw (pow-succ' 2 j, ← (div-div-eq-div-mul b 2 (2 ^ j)))

eqb_suc : (i j : ℕ) → eqb (suc i) (suc j) ≡ eqb i j
eqb_suc i j = go (test (eqb i j))
  where
    go : (eqb i j ≡ true) ⊎ (eqb i j ≡ false) → eqb (suc i) (suc j) ≡ eqb i j
    go (inl e) = eq-eqb (suc i) (suc j) (ap suc (eqb-true i j e)) ∙ sym e
    go (inr e) = ne_eqb (suc i) (suc j) (λ (q : suc i ≡ suc j). eqb-false i j e (omega arith)) ∙ sym e

-- a byte with one bit so has that bit, and the others as they were
with_bit_law : (v : Bool) (j i b : ℕ) → has_bit (with_bit v j b) i ≡ cond (eqb i j) v (has_bit b i)
unfolding with_bit
with_bit_law v zero zero b = has_bit_first (b / 2 * 2 + cond v 1 0) ∙ go v
  where
    go : (v : Bool) → eqb ((b / 2 * 2 + cond v 1 0) % 2) 1 ≡ v
    go true = rw (odd_with (b / 2) 1 (omega arith))
    go false = rw (odd_with (b / 2) 0 (omega arith))
with_bit_law v zero (suc i) b =
    has_bit_next (b / 2 * 2 + cond v 1 0) i ∙ ap (λ (x : ℕ). has_bit x i) (go v) ∙ sym (rw (ne_eqb (suc i) 0 (λ (q : suc i ≡ 0). omega arith)) (has_bit_next b i))
  where
    go : (v : Bool) → (b / 2 * 2 + cond v 1 0) / 2 ≡ b / 2
    go true = half_with (b / 2) 1 (omega arith)
    go false = half_with (b / 2) 0 (omega arith)
with_bit_law v (suc j) zero b =
    has_bit_first (with_bit v j (b / 2) * 2 + b % 2)
    ∙ ap (λ (x : ℕ). eqb x 1) (odd_with (with_bit v j (b / 2)) (b % 2) (omega arith))
    ∙ sym (rw (ne_eqb 0 (suc j) (λ (q : 0 ≡ suc j). omega arith)) (has_bit_first b))
with_bit_law v (suc j) (suc i) b =
    has_bit_next (with_bit v j (b / 2) * 2 + b % 2) i
    ∙ ap (λ (x : ℕ). has_bit x i) (half_with (with_bit v j (b / 2)) (b % 2) (omega arith))
    ∙ with_bit_law v j i (b / 2)
    ∙ sym (rw (eqb_suc i j, has_bit_next b i))

double : (v t : Bool) (x y p r : ℕ) → x + cond t p 0 ≡ y + cond v p 0 → x * 2 + r + cond t (p + p) 0 ≡ y * 2 + r + cond v (p + p) 0
double true true x y p r e = omega arith
double true false x y p r e = omega arith
double false true x y p r e = omega arith
double false false x y p r e = omega arith

-- "the bit worth 2^(A mod 8)", worded again: a byte with the bit so differs from the byte by what the bit is worth
pub with_bit_worth : (v : Bool) (j b : ℕ) → with_bit v j b + cond (has_bit b j) (2 ^ j) 0 ≡ b + cond v (2 ^ j) 0
unfolding with_bit has_bit
with_bit_worth v zero b = go v (test (eqb (b / 1 % 2) 1))
  where
    go : (v : Bool) → (eqb (b / 1 % 2) 1 ≡ true) ⊎ (eqb (b / 1 % 2) 1 ≡ false) → b / 2 * 2 + cond v 1 0 + cond (eqb (b / 1 % 2) 1) 1 0 ≡ b + cond v 1 0
    go true (inl e) = rw e (omega (arith, eqb-true (b / 1 % 2) 1 e))
    go false (inl e) = rw e (omega (arith, eqb-true (b / 1 % 2) 1 e))
    go true (inr e) = rw e (omega (arith, eqb-false (b / 1 % 2) 1 e))
    go false (inr e) = rw e (omega (arith, eqb-false (b / 1 % 2) 1 e))
with_bit_worth v (suc j) b =
    rw (has_bit_next b j, two-pow-succ j)
    (double v (has_bit (b / 2) j) (with_bit v j (b / 2)) (b / 2) (2 ^ j) (b % 2) (with_bit_worth v j (b / 2)) ∙ ap (λ (n : ℕ). n + cond v (2 ^ j + 2 ^ j) 0) (div-add-mod' b 2))

-- ---- the bit of an address

length_put : (v : Bool) (a : ℕ) (bytes : List ℕ) → length (put_at v a bytes) ≡ length bytes
unfolding put_at
length_put v a bytes = length-set bytes (a / 8) (with_bit v (a % 8) (get_or bytes (a / 8) 0))

put_law : (v : Bool) (a b : ℕ) (bytes : List ℕ) → length bytes ≡ 8192 → b < 65536 → bit_at (put_at v a bytes) b ≡ cond (eqb b a) v (bit_at bytes b)
unfolding bit_at put_at
put_law v a b bytes l h = go (test (eqb (b / 8) (a / 8)))
  where
    go : (eqb (b / 8) (a / 8) ≡ true) ⊎ (eqb (b / 8) (a / 8) ≡ false) → has_bit (get_or (set bytes (a / 8) (with_bit v (a % 8) (get_or bytes (a / 8) 0))) (b / 8) 0) (b % 8) ≡ cond (eqb b a) v (has_bit (get_or bytes (b / 8) 0) (b % 8))
    go (inl e) =
        let q : b / 8 ≡ a / 8 = eqb-true (b / 8) (a / 8) e in
        rw (q, get_or-set_same bytes (a / 8) (with_bit v (a % 8) (get_or bytes (a / 8) 0)) 0 (omega arith)) (with_bit_law v (a % 8) (b % 8) (get_or bytes (a / 8) 0) ∙ ap (λ (t : Bool). cond t v (has_bit (get_or bytes (a / 8) 0) (b % 8))) (told q))
      where
        told : b / 8 ≡ a / 8 → eqb (b % 8) (a % 8) ≡ eqb b a
        told q = pick (test (eqb b a))
          where
            pick : (eqb b a ≡ true) ⊎ (eqb b a ≡ false) → eqb (b % 8) (a % 8) ≡ eqb b a
            pick (inl y) = eq-eqb (b % 8) (a % 8) (ap (λ (x : ℕ). x % 8) (eqb-true b a y)) ∙ sym y
            pick (inr n) = ne_eqb (b % 8) (a % 8) (λ (r : b % 8 ≡ a % 8). eqb-false b a n (omega arith)) ∙ sym n
    go (inr e) =
        rw (get_or-set_other bytes (a / 8) (b / 8) (with_bit v (a % 8) (get_or bytes (a / 8) 0)) 0 (eqb-false (b / 8) (a / 8) e), ne_eqb b a (λ (q : b ≡ a). eqb-false (b / 8) (a / 8) e (ap (λ (x : ℕ). x / 8) q)))

-- "in byte A div 8, counted from 0": that byte alone is worth more
pub put_worth : (a : ℕ) (bytes : List ℕ) → a / 8 < length bytes → bit_at bytes a ≡ false → put_at true a bytes ≡ set bytes (a / 8) (get_or bytes (a / 8) 0 + 2 ^ (a % 8))
unfolding put_at bit_at
put_worth a bytes l h =
    let worth : with_bit true (a % 8) (get_or bytes (a / 8) 0) + cond (has_bit (get_or bytes (a / 8) 0) (a % 8)) (2 ^ (a % 8)) 0 ≡ get_or bytes (a / 8) 0 + 2 ^ (a % 8) = with_bit_worth true (a % 8) (get_or bytes (a / 8) 0) in
    ap (set bytes (a / 8)) (rw (h, add-zero (with_bit true (a % 8) (get_or bytes (a / 8) 0))) at worth)

-- some bytes written out
pub bytes_written : (put_from true 0 9 (0 ∷ 0 ∷ []) ≡ 255 ∷ 1 ∷ []) × (put_from true 14 4 (0 ∷ 0 ∷ 0 ∷ []) ≡ 0 ∷ 192 ∷ 3 ∷ []) × (put_from false 3 2 (255 ∷ []) ≡ 231 ∷ [])
unfolding put_from put_at with_bit
bytes_written = (refl, refl, refl)

pub length_from : (v : Bool) (a k : ℕ) (bytes : List ℕ) → length (put_from v a k bytes) ≡ length bytes
unfolding put_from
length_from v a zero bytes = refl
length_from v a (suc k) bytes = length_from v (suc a) k (put_at v a bytes) ∙ length_put v a bytes

-- k addresses from a on
abbrev among : ℕ → ℕ → ℕ → Bool
among a k b = leb a b && ltb b (a + k)

among_yes : (a k b : ℕ) → a ≤ b → b < a + k → among a k b ≡ true
among_yes a k b l m = rw (le-leb a b l, lt-ltb b (a + k) m)

among_before : (a k b : ℕ) → b < a → among a k b ≡ false
among_before a k b l = rw (lt-leb a b l)

among_behind : (a k b : ℕ) → a + k ≤ b → among a k b ≡ false
among_behind a k b l = rw (le-ltb b (a + k) l) (and-false (leb a b))

-- the first of them, or one of the others
among_step : (a k b : ℕ) (v x : Bool) → cond (among (suc a) k b) v (cond (eqb b a) v x) ≡ cond (among a (suc k) b) v x
among_step a k b v x = go (test (eqb b a)) (test (leb a b)) (test (ltb b (a + suc k)))
  where
    twice : (t : Bool) → cond t v v ≡ v
    twice true = refl
    twice false = refl

    go : (eqb b a ≡ true) ⊎ (eqb b a ≡ false) → (leb a b ≡ true) ⊎ (leb a b ≡ false) → (ltb b (a + suc k) ≡ true) ⊎ (ltb b (a + suc k) ≡ false) → cond (among (suc a) k b) v (cond (eqb b a) v x) ≡ cond (among a (suc k) b) v x
    go (inl e) _ _ = let q = eqb-true b a e in rw (e, among_yes a (suc k) b (omega arith) (omega arith)) (twice (among (suc a) k b))
    go (inr e) (inr f) _ = let q = leb-false a b f in rw (e, among_before a (suc k) b q, among_before (suc a) k b (omega arith))
    go (inr e) (inl t) (inr f) = let q = ltb-false b (a + suc k) f in rw (e, among_behind a (suc k) b q, among_behind (suc a) k b (omega arith))
    go (inr e) (inl t) (inl u) =
        let l = leb-true a b t in
        let m = ltb-true b (a + suc k) u in
        let n = eqb-false b a e in
        rw (e, among_yes a (suc k) b l m, among_yes (suc a) k b (omega (arith, n)) (omega arith))

from_law : (v : Bool) (a k b : ℕ) (bytes : List ℕ) → length bytes ≡ 8192 → b < 65536 → bit_at (put_from v a k bytes) b ≡ cond (among a k b) v (bit_at bytes b)
unfolding put_from
from_law v a zero b bytes l h = sym (ap (λ (t : Bool). cond t v (bit_at bytes b)) (nothing (test (leb a b))))
  where
    nothing : (leb a b ≡ true) ⊎ (leb a b ≡ false) → among a 0 b ≡ false
    nothing (inl t) = among_behind a 0 b (omega (arith, leb-true a b t))
    nothing (inr f) = among_before a 0 b (leb-false a b f)
from_law v a (suc k) b bytes l h =
    from_law v (suc a) k b (put_at v a bytes) (length_put v a bytes ∙ l) h
    ∙ ap (cond (among (suc a) k b) v) (put_law v a b bytes l h)
    ∙ among_step a k b v (bit_at bytes b)

-- the addresses of a span below 65,536
pub span_law : (v : Bool) (s : Span) (b : ℕ) (bytes : List ℕ) → length bytes ≡ 8192 → b < 65536 → bit_at (put_from v s.start.0 (low_length s) bytes) b ≡ cond (in_span s b) v (bit_at bytes b)
span_law v s b bytes l h = from_law v s.start.0 (low_length s) b bytes l h ∙ ap (λ (t : Bool). cond t v (bit_at bytes b)) (go (test (leb s.start.0 b)) (test (ltb b (end s))))
  where
    go : (leb s.start.0 b ≡ true) ⊎ (leb s.start.0 b ≡ false) → (ltb b (end s) ≡ true) ⊎ (ltb b (end s) ≡ false) → among s.start.0 (low_length s) b ≡ leb s.start.0 b && ltb b (end s)
    go (inr f) _ = rw f
    go (inl t) (inl u) = rw (t, u) (lt-ltb b (s.start.0 + low_length s) (omega (arith, leb-true s.start.0 b t, ltb-true b (end s) u)))
    go (inl t) (inr f) = rw (t, f) (le-ltb b (s.start.0 + low_length s) (omega (arith, leb-true s.start.0 b t, ltb-false b (end s) f)))

pub length_after : (bytes : List ℕ) (q : Request) → length (bits_after bytes q) ≡ length bytes
unfolding bits_after
length_after bytes (Single by (Create w s r)) = length_from false s.start.0 (low_length s) bytes
length_after bytes (Single by (Borrow w u s r)) = refl
length_after bytes (Single by (Read u s)) = refl
length_after bytes (Single by (Write u s)) = length_from true s.start.0 (low_length s) bytes
length_after bytes (Single by (Drop u)) = refl
length_after bytes (Group by names) = refl
length_after bytes (Mark by k) = refl
length_after bytes (Back by k) = refl

-- ---- what is noted as written

-- a create over the address, and a write
abbrev creates_over : ℕ → Note → Bool
creates_over a (New d r) = eqb d.parent 0 && in_span d.span a
creates_over a (Accessed b u s) = false
creates_over a (Dropped u) = false

abbrev writes_over : ℕ → Note → Bool
writes_over a (New d r) = false
writes_over a (Accessed Reading u s) = false
writes_over a (Accessed Writing u s) = in_span s a
writes_over a (Dropped u) = false

-- the notes that are newer than the last create over the address
abbrev since_create : ℕ → List Note → List Note
since_create a [] = []
since_create a (w ∷ notes) = cond (creates_over a w) [] (w ∷ since_create a notes)

-- "written since the last allowed create over it", worded again
pub written_since : (notes : List Note) (a : ℕ) → written notes a ≡ any (writes_over a) (since_create a notes)
unfolding written
written_since [] a = refl
written_since (New d r ∷ notes) a = go (eqb d.parent 0 && in_span d.span a) (written_since notes a)
  where
    go : (c : Bool) → written notes a ≡ any (writes_over a) (since_create a notes) → cond c false (written notes a) ≡ any (writes_over a) (cond c [] (New d r ∷ since_create a notes))
    go true ih = refl
    go false ih = ih
written_since (Accessed Reading u s ∷ notes) a = written_since notes a
written_since (Accessed Writing u s ∷ notes) a = ap (λ (c : Bool). in_span s a || c) (written_since notes a)
written_since (Dropped u ∷ notes) a = written_since notes a

-- ---- the bits and the notes

-- there are 8,192 bytes, and each bit is what the notes say
pub record BitsTold (bytes : List ℕ) (notes : List Note) : Type 0 where
  pub size : length bytes ≡ 8192
  pub told : (a : ℕ) → a < 65536 → bit_at bytes a ≡ written notes a

-- addresses are written alike where they are one by one
pub all_same : (f g : ℕ → Bool) (a k : ℕ) → ((x : ℕ) → a ≤ x → x < a + k → f x ≡ g x) → all_written f a k ≡ all_written g a k
unfolding all_written
all_same f g a zero h = refl
all_same f g a (suc k) h = ap₂ ◌&&◌ (h a (omega arith) (omega arith)) (all_same f g (suc a) k (λ x l m. h x (omega arith) (omega arith)))

-- no bit of zeros is set
blank : (n a : ℕ) → a / 8 < n → bit_at (replicate n 0) a ≡ false
unfolding bit_at has_bit
blank n a l = rw (get_or-replicate {A = ℕ} n (a / 8) 0 0 l, zero-div (2 ^ (a % 8)))

pub told_first : BitsTold (replicate 8192 0) []
unfolding written
told_first = record { size = length-replicate {A = ℕ} 8192 0; told = λ a l. blank 8192 a (omega arith) }
