-- The written bits: a bit by its worth, the eight of a byte at once, and a run of addresses in parts.
-- Assumes nothing.
use mathlib.Core.Path.{◌≡◌, refl, sym, ap, ◌∙◌}
use mathlib.Core.Bool.{Bool, true, false, not, cond, ◌&&◌, and_assoc, beq}
use mathlib.Core.List.{List, [], ◌∷◌}
use Prim.Native.Nat.{ℕ, zero, suc, ◌+◌, ◌-◌, ◌*◌, ◌/◌, ◌%◌, ◌^◌, ◌<◌, ◌≤◌}
use native.Mathlib.Nat.{add-zero, zero-add, add-suc, suc-add, mod-eq_of_lt, one-mul, pow-le-pow_right, two-pow-succ}
use native.Mathlib.Numerals.{add-one}
use native.Mathlib.Omega.{arith}
use lib.Dec.{eqb}
use lib.ListN.{length, get_or, set}
use lib.Seq.{get_or-set_same, set-get_or, set-set}
use Rattle.std.specs.List.{list_all, range_with_len}
use Rattle.model.specs.Bits.{has_bit, with_bit, bit_at, put_at, put_from, all_written}
use Rattle.model.proofs.Offered.{with_bit_worth}
use Rattle.table.specs.Bytes.{with_bits}

-- ---- one bit of a byte

pub beq_same : (a v : Bool) → beq a v ≡ true → a ≡ v
beq_same true true e = refl
beq_same true false e = sym e
beq_same false true e = e
beq_same false false e = refl

pub beq_other : (a v : Bool) → beq a v ≡ false → a ≡ not v
beq_other true true e = e
beq_other true false e = refl
beq_other false true e = refl
beq_other false false e = sym e

pub bit_is : (v : Bool) (j b : ℕ) → has_bit b j ≡ v → b ≡ with_bit v j b
bit_is v j b e = let w = rw e at (with_bit_worth v j b) in omega arith

pub bit_set : (j b : ℕ) → has_bit b j ≡ false → b + 2 ^ j ≡ with_bit true j b
bit_set j b e = let w = rw e at (with_bit_worth true j b) in omega arith

pub bit_clear : (j b : ℕ) → has_bit b j ≡ true → with_bit false j b + 2 ^ j ≡ b
bit_clear j b e = let w = rw e at (with_bit_worth false j b) in omega arith

-- what a byte with a bit so is below
pub bit_fits : (v : Bool) (j n b : ℕ) → j < n → b < 2 ^ n → with_bit v j b < 2 ^ n
unfolding with_bit
bit_fits v j zero b l h = absurd (omega arith)
bit_fits v zero (suc n) b l h = rw (two-pow-succ n) (go v (2 ^ n) (rw (two-pow-succ n) at h))
  where
    go : (v : Bool) (p : ℕ) → b < p + p → b / 2 * 2 + cond v 1 0 < p + p
    go true p i = omega arith
    go false p i = omega arith
bit_fits v (suc j) (suc n) b l h =
    let k : b < 2 ^ n + 2 ^ n = rw (two-pow-succ n) at h in
    let i : with_bit v j (b / 2) < 2 ^ n = bit_fits v j n (b / 2) (omega arith) (omega arith) in
    rw (two-pow-succ n) (omega arith)

-- one, shifted
pub shifted : (j : ℕ) → j < 8 → 1 * 2 ^ j % 256 ≡ 2 ^ j
shifted j l =
    let p : 2 ^ j ≤ 2 ^ 7 = pow-le-pow_right {n = 2} (omega arith) {i = j} {j = 7} (omega arith) in
    rw (one-mul (2 ^ j)) (mod-eq_of_lt (omega arith))

-- ---- every byte

-- f i, f (i + 1), ..: n of them
abbrev values : {A : Type 0} → (ℕ → A) → ℕ → ℕ → List A
values f i zero = []
values f i (suc n) = f i ∷ values f (suc i) n

alike : {A : Type 0} (f g : ℕ → A) (i n : ℕ) → values f i n ≡ values g i n → (k : ℕ) → k < n → f (i + k) ≡ g (i + k)
alike f g i zero e k h = absurd (omega arith)
alike f g i (suc n) e zero h = rw (add-zero i) (cc)
alike f g i (suc n) e (suc k) h =
    let t : values f (suc i) n ≡ values g (suc i) n = cc in
    rw (add-suc i k, ← (suc-add i k)) (alike f g (suc i) n t k (omega arith))

-- where antt computes the same of each of the 256 bytes
bytewise : {A : Type 0} (f g : ℕ → A) → values f 0 256 ≡ values g 0 256 → (b : ℕ) → b < 256 → f b ≡ g b
bytewise f g e b h = rw (zero-add b) at (alike f g 0 256 e b h)

pub byte_full : (b : ℕ) → b < 256 → eqb b 255 ≡ all_written (has_bit b) 0 8
unfolding all_written has_bit
byte_full = bytewise (λ b. eqb b 255) (λ b. all_written (has_bit b) 0 8) refl

pub byte_filled : (v : Bool) (b : ℕ) → b < 256 → cond v 255 0 ≡ with_bits v 8 b
unfolding with_bits with_bit
byte_filled true = bytewise (λ _. 255) (with_bits true 8) refl
byte_filled false = bytewise (λ _. 0) (with_bits false 8) refl

-- ---- a run of addresses

all_append : (f : ℕ → Bool) (a j k : ℕ) → all_written f a (j + k) ≡ all_written f a j && all_written f (a + j) k
unfolding all_written
all_append f a zero k = rw (zero-add k, add-zero a)
all_append f a (suc j) k = rw (suc-add j k) (ap (◌&&◌ (f a)) (all_append f (suc a) j k) ∙ rw (add-suc a j, suc-add a j) (sym (and_assoc (f a) (all_written f (suc a) j) (all_written f (suc (a + j)) k))))

-- a run in two parts
pub all_parts : (f : ℕ → Bool) (from mid to : ℕ) → from ≤ mid → mid ≤ to → all_written f from (to - from) ≡ all_written f from (mid - from) && all_written f mid (to - mid)
all_parts f from mid to l m =
    let e : to - from ≡ mid - from + (to - mid) = omega arith in
    let s : from + (mid - from) ≡ mid = omega arith in
    ap (all_written f from) e ∙ all_append f from (mid - from) (to - mid) ∙ ap (λ (x : ℕ). all_written f from (mid - from) && all_written f x (to - mid)) s

put_append : (v : Bool) (a j k : ℕ) (bytes : List ℕ) → put_from v a (j + k) bytes ≡ put_from v (a + j) k (put_from v a j bytes)
unfolding put_from
put_append v a zero k bytes = rw (zero-add k, add-zero a)
put_append v a (suc j) k bytes = rw (suc-add j k, add-suc a j, ← (suc-add a j)) (put_append v (suc a) j k (put_at v a bytes))

pub put_parts : (v : Bool) (from mid to : ℕ) (bytes : List ℕ) → from ≤ mid → mid ≤ to → put_from v from (to - from) bytes ≡ put_from v mid (to - mid) (put_from v from (mid - from) bytes)
put_parts v from mid to bytes l m =
    let e : to - from ≡ mid - from + (to - mid) = omega arith in
    let s : from + (mid - from) ≡ mid = omega arith in
    ap (λ (x : ℕ). put_from v from x bytes) e ∙ put_append v from (mid - from) (to - mid) bytes ∙ ap (λ (x : ℕ). put_from v x (to - mid) (put_from v from (mid - from) bytes)) s

-- the addresses of a run, tested in turn
pub all_in_turn : (f : ℕ → Bool) (a n : ℕ) → list_all f (range_with_len a n) ≡ all_written f a n
unfolding all_written
all_in_turn f a zero = refl
all_in_turn f a (suc n) = rw add-one (ap (◌&&◌ (f a)) (all_in_turn f (suc a) n))

-- the first address of a run, and what is behind it
pub put_first : (v : Bool) (a to : ℕ) (bytes : List ℕ) → a < to → put_from v a (to - a) bytes ≡ put_from v (a + 1) (to - (a + 1)) (put_at v a bytes)
unfolding put_from
put_first v a to bytes l =
    let e : to - a ≡ suc (to - (a + 1)) = omega arith in
    rw (e, add-one a)

pub put_none : (v : Bool) (a to : ℕ) (bytes : List ℕ) → to ≤ a → put_from v a (to - a) bytes ≡ bytes
unfolding put_from
put_none v a to bytes l = let e : to - a ≡ 0 = omega arith in rw e

-- ---- a run of bytes

-- the addresses of a byte are its bits
bits_of : (bytes : List ℕ) (q i k : ℕ) → i + k ≤ 8 → all_written (bit_at bytes) (q * 8 + i) k ≡ all_written (has_bit (get_or bytes q 0)) i k
unfolding all_written bit_at
bits_of bytes q i zero l = refl
bits_of bytes q i (suc k) l =
    let d : (q * 8 + i) / 8 ≡ q = omega arith in
    let m : (q * 8 + i) % 8 ≡ i = omega arith in
    rw (d, m) (ap (◌&&◌ (has_bit (get_or bytes q 0) i)) (rw (← (add-suc (q * 8) i)) (bits_of bytes q (suc i) k (omega arith))))

put_bits_of : (v : Bool) (bytes : List ℕ) (q k : ℕ) → q < length bytes → k ≤ 8 → put_from v (q * 8) k bytes ≡ set bytes q (with_bits v k (get_or bytes q 0))
unfolding put_from put_at with_bits
put_bits_of v bytes q zero l h = sym (set-get_or bytes q 0)
put_bits_of v bytes q (suc k) l h =
    let w = with_bits v k (get_or bytes q 0) in
    let d : (q * 8 + k) / 8 ≡ q = omega arith in
    let m : (q * 8 + k) % 8 ≡ k = omega arith in
    ap (λ (n : ℕ). put_from v (q * 8) n bytes) (sym (add-one k))
    ∙ put_append v (q * 8) k 1 bytes
    ∙ ap (put_from v (q * 8 + k) 1) (put_bits_of v bytes q k l (omega arith))
    ∙ rw (d, m, get_or-set_same bytes q w 0 l) (set-set bytes q w (with_bit v k w))

pub all_byte : (bytes : List ℕ) (i to : ℕ) → i < to → all_written (bit_at bytes) (i * 8) ((to - i) * 8) ≡ all_written (has_bit (get_or bytes i 0)) 0 8 && all_written (bit_at bytes) ((i + 1) * 8) ((to - (i + 1)) * 8)
all_byte bytes i to l =
    let e : (to - i) * 8 ≡ 8 + (to - (i + 1)) * 8 = omega arith in
    let s : i * 8 + 8 ≡ (i + 1) * 8 = omega arith in
    rw (e, all_append (bit_at bytes) (i * 8) 8 ((to - (i + 1)) * 8), s, ← (add-zero (i * 8)), bits_of bytes i 0 8 (omega arith))

pub put_byte : (v : Bool) (bytes : List ℕ) (i to : ℕ) → i < to → i < length bytes → put_from v (i * 8) ((to - i) * 8) bytes ≡ put_from v ((i + 1) * 8) ((to - (i + 1)) * 8) (set bytes i (with_bits v 8 (get_or bytes i 0)))
put_byte v bytes i to l h =
    let e : (to - i) * 8 ≡ 8 + (to - (i + 1)) * 8 = omega arith in
    let s : i * 8 + 8 ≡ (i + 1) * 8 = omega arith in
    rw (e, put_append v (i * 8) 8 ((to - (i + 1)) * 8) bytes, s, put_bits_of v bytes i 8 h (omega arith))

-- ---- a run in three parts, of which the middle one is whole bytes

pub all_thirds : (f : ℕ → Bool) (from first last to : ℕ) → from ≤ first * 8 → first ≤ last → last * 8 ≤ to → all_written f from (to - from) ≡ all_written f from (first * 8 - from) && (all_written f (first * 8) ((last - first) * 8) && all_written f (last * 8) (to - last * 8))
all_thirds f from first last to l m n =
    let e : last * 8 - first * 8 ≡ (last - first) * 8 = omega arith in
    all_parts f from (first * 8) to l (omega arith)
    ∙ ap (◌&&◌ (all_written f from (first * 8 - from))) (all_parts f (first * 8) (last * 8) to (omega arith) n ∙ ap (λ (x : ℕ). all_written f (first * 8) x && all_written f (last * 8) (to - last * 8)) e)

pub put_thirds : (v : Bool) (from first last to : ℕ) (bytes : List ℕ) → from ≤ first * 8 → first ≤ last → last * 8 ≤ to → put_from v from (to - from) bytes ≡ put_from v (last * 8) (to - last * 8) (put_from v (first * 8) ((last - first) * 8) (put_from v from (first * 8 - from) bytes))
put_thirds v from first last to bytes l m n =
    let e : last * 8 - first * 8 ≡ (last - first) * 8 = omega arith in
    let front = put_from v from (first * 8 - from) bytes in
    put_parts v from (first * 8) to bytes l (omega arith)
    ∙ put_parts v (first * 8) (last * 8) to front (omega arith) n
    ∙ ap (λ (x : ℕ). put_from v (last * 8) (to - last * 8) (put_from v (first * 8) x front)) e
