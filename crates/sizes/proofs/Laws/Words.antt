-- The line of a report fits 48 bytes.
-- Assumes nothing.
use Rattle.std.specs.Prelude.{Ok, Err, Result}
use mathlib.Core.Path.{◌≡◌, refl, ap, ap₂, ◌∙◌}
use mathlib.Core.List.{List, [], ◌∷◌, ◌++◌}
use Prim.Native.Nat.{ℕ, ◌+◌, ◌≤◌, ◌<◌}
use native.Mathlib.Omega.{arith}
use lib.ListN.{length, take, drop, length-append}
use lib.Seq.{sets-eq, length-sets, take-append_seam}
use Rattle.model.specs.Answers.{number}
use Rattle.text.specs.Decimal.{decimal}
use Rattle.text.specs.Event.{bytes, spaced}
use Rattle.text.specs.Put.{Put}
use Rattle.text.proofs.Offered.{decimal_under}
use Rattle.kelzoud_events.proofs.Laws.{number_small}
use Rattle.sizes.specs.declared.RefusedAt.{RefusedAt}
use Rattle.sizes.specs.Report.{word, report_of, report_line}

-- a number of 32 bits, with its space, has at most eleven bytes
one_short : (n : ℕ) (ns : List ℕ) → n < 4294967296 → length (spaced (n ∷ ns)) ≤ 11 + length (spaced ns)
unfolding spaced
one_short n ns l = omega (arith, length-append (decimal n) (spaced ns), decimal_under n 9 (omega arith))

none_short : length (spaced []) ≡ 0
unfolding spaced
none_short = refl

pub rows_short : (n : ℕ) → length (bytes "(rows" ++ (spaced (word n ∷ []) ++ bytes ")\n")) ≤ 48
rows_short n = omega (arith, length-append (spaced (word n ∷ [])) (bytes ")\n"), one_short (word n) [] (omega arith), none_short)

pub refused_short : (k c l : ℕ) → k < 4294967296 → length (bytes "(refused" ++ (spaced (k ∷ word c ∷ word l ∷ []) ++ bytes ")\n")) ≤ 48
refused_short k c l h = omega (
  arith,
  length-append (spaced (k ∷ word c ∷ word l ∷ [])) (bytes ")\n"),
  one_short k (word c ∷ word l ∷ []) h,
  one_short (word c) (word l ∷ []) (omega arith),
  one_short (word l) [] (omega arith),
  none_short,
)

line_short : (s : Result ℕ RefusedAt) → length (report_line (report_of s)) ≤ 48
unfolding report_line
line_short (Ok n) = rows_short n
line_short (Err at) = refused_short (number at.refusal) at.client at.line (omega (arith, number_small at.refusal))

-- what is put into a buffer of 48 bytes begins it
pub printed : (s : Result ℕ RefusedAt) (out after : List ℕ) (r : ℕ) → length out ≡ 48 → Put out 0 (report_line (report_of s)) after r → (take r after ≡ report_line (report_of s)) × (r ≤ 48) × (length after ≡ 48)
printed s out after r e p =
    let l = report_line (report_of s) in
    let short = line_short s in
    let long : r ≡ length l = omega (arith, p.moved) in
    (ap₂ take long (p.stored ∙ sets-eq l out 0 (omega arith)) ∙ take-append_seam l (drop (0 + length l) out), omega arith, ap length p.stored ∙ length-sets out 0 l ∙ e)
