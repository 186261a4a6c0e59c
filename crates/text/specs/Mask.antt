-- Card 10, "domains with limits": how a mask of holders is spelled, "as 16 digits `0` to `9`, `a` to `f`, highest first, domain D being worth
-- 2^D", and which mask stands at a place of a text.
-- Assumes nothing.
use Rattle.std.specs.Prelude.{ℕ, zero, suc, ◌+◌, ◌-◌, ◌*◌, ◌/◌, ◌%◌, ◌^◌, cond, List, [], ◌∷◌, ◌++◌, ltb, eqb, get_or, drop}
use Rattle.text.specs.Class.{within}

-- the byte of a digit: 0 to 9 are the bytes 48 to 57, a to f are 97 to 102
abbrev pub hex_digit : ℕ → ℕ
hex_digit d = cond (ltb d 10) (48 + d) (87 + d)

-- the k lowest digits of n to the base 16, the highest of them first
unfoldable pub hex : ℕ → ℕ → List ℕ
hex zero n = []
hex (suc k) n = hex k (n / 16) ++ (hex_digit (n % 16) ∷ [])

-- the mask of holders behind a space; "a mask of the maker alone is left out"
abbrev pub mask_word : ℕ → ℕ → List ℕ
mask_word maker mask = cond (eqb mask (2 ^ maker)) [] (32 ∷ hex 16 mask)

-- what a byte is worth as a digit. Any other byte is worth 0 here, and is refused where the line is compared with the spelling of what was read.
abbrev pub hex_value : ℕ → ℕ
hex_value b = cond (within 48 57 b) (b - 48) (cond (within 97 102 b) (b - 87) 0)

-- v with the first k bytes of a text as digits behind it
unfoldable pub hex_from : ℕ → ℕ → List ℕ → ℕ
hex_from zero v s = v
hex_from (suc k) v [] = v
hex_from (suc k) v (b ∷ s) = hex_from k (v * 16 + hex_value b) s

-- the mask that the 16 digits at the front of a text spell
abbrev pub hex_of : List ℕ → ℕ
hex_of s = hex_from 16 0 s

-- the mask at a place of a text: where a space stands there, the 16 digits behind it, and else the maker alone
abbrev pub mask_at : ℕ → List ℕ → ℕ → ℕ
mask_at maker s k = cond (eqb (get_or s k 0) 32) (hex_of (drop (suc k) s)) (2 ^ maker)
