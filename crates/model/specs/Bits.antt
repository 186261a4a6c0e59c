-- Card 9, "write before read": the written bits that the caller lends.
-- Assumes nothing.
use Rattle.std.specs.Prelude.{ℕ, zero, suc, ◌+◌, ◌-◌, ◌*◌, ◌/◌, ◌%◌, ◌^◌, min, Bool, true, false, cond, ◌&&◌, List, leb, ltb, eqb, get_or, set}
use Rattle.model.specs.declared.Span.{Span}
use Rattle.model.specs.declared.Event.TheVariants.{Create, Borrow, Read, Write, Drop}
use Rattle.model.specs.Requests.{Request, Single, Group, Mark, Back}
use Rattle.model.specs.Values.{end}

-- ---- one bit

-- "the bit worth 2^(A mod 8)": the bit of this number of a byte; by card 10 a mask of holders is read by it too
unfoldable pub has_bit : ℕ → ℕ → Bool
has_bit b j = eqb (b / (2 ^ j) % 2) 1

-- the byte with that bit so
unfoldable pub with_bit : Bool → ℕ → ℕ → ℕ
with_bit v zero b = b / 2 * 2 + cond v 1 0
with_bit v (suc j) b = with_bit v j (b / 2) * 2 + b % 2

-- "address A below 65,536 has the bit worth 2^(A mod 8) in byte A div 8, counted from 0"
unfoldable pub bit_at : List ℕ → ℕ → Bool
bit_at bytes a = has_bit (get_or bytes (a / 8) 0) (a % 8)

unfoldable pub put_at : Bool → ℕ → List ℕ → List ℕ
put_at v a bytes = set bytes (a / 8) (with_bit v (a % 8) (get_or bytes (a / 8) 0))

-- ---- the bits of a span

-- the address lies in the span
abbrev pub in_span : Span → ℕ → Bool
in_span s a = leb s.start.0 a && ltb a (end s)

-- k addresses from a on
unfoldable pub put_from : Bool → ℕ → ℕ → List ℕ → List ℕ
put_from v a zero bytes = bytes
put_from v a (suc k) bytes = put_from v (suc a) k (put_at v a bytes)

-- those of a span that are below 65,536
abbrev pub low_length : Span → ℕ
low_length s = min (end s) 65536 - s.start.0

-- "Every allowed create clears its addresses, every allowed write sets its own."
unfoldable pub bits_after : List ℕ → Request → List ℕ
bits_after bytes (Single by (Create w s r)) = put_from false s.start.0 (low_length s) bytes
bits_after bytes (Single by (Borrow w u s r)) = bytes
bits_after bytes (Single by (Read u s)) = bytes
bits_after bytes (Single by (Write u s)) = put_from true s.start.0 (low_length s) bytes
bits_after bytes (Single by (Drop u)) = bytes
bits_after bytes (Group by names) = bytes
bits_after bytes (Mark by k) = bytes
bits_after bytes (Back by k) = bytes

-- every one of k addresses from a on is written
unfoldable pub all_written : (ℕ → Bool) → ℕ → ℕ → Bool
all_written is_written a zero = true
all_written is_written a (suc k) = is_written a && all_written is_written (suc a) k

-- every address of a span is
abbrev pub span_written : (ℕ → Bool) → Span → Bool
span_written is_written s = all_written is_written s.start.0 s.length
