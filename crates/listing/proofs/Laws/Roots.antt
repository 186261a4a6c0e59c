-- The lines of a listing as they are read, one after the other.
-- Assumes nothing.
use mathlib.Core.Path.{◌≡◌, refl, sym, ap, ◌∙◌}
use mathlib.Core.Bool.{Bool, true, false, ◌&&◌}
use mathlib.Core.List.{List, []}
use Prim.Native.Nat.{ℕ, zero, suc, ◌+◌, ◌-◌, ◌*◌, ◌≤◌, ◌<◌}
use native.Mathlib.Omega.{arith}
use lib.Dec.{ltb}
use lib.ListN.{length, drop, drop_of_length-le}
use lib.Seq.{drop-drop}
use borrow.Author.Tests.{lt-ltb, le-ltb}
use Rattle.listing.specs.Forms.{Reading, read_form, read_line, line_follows, read_lines}
use Rattle.listing.specs.Stored.{Reads, newest, Stored}
use Rattle.listing.proofs.Laws.Reading.{last_last, tail, tail_length}
use Rattle.listing.proofs.Laws.Stored.{length_newest}

-- the lines of the last bytes are left to read, where count rows are stored
pub record Left (text : List ℕ) (ws : List (List ℕ)) (left count : ℕ) : Type 0 where
  pub inside : left ≤ length text
  pub stored : Stored ws count
  pub k : ℕ
  pub enough : 1024 ≤ k + count
  pub same : read_lines k (record { rest = tail text left; rows = newest ws count }) ≡ read_lines 1024 (record { rest = text; rows = [] })

pub all_left : (text : List ℕ) (ws : List (List ℕ)) → Stored ws 0 → Left text ws (length text) 0
all_left text ws s =
    let z : length text - length text ≡ 0 = omega arith in
    record { inside = omega arith; stored = s; k = 1024; enough = omega arith; same = ap (λ (n : ℕ). read_lines 1024 (record { rest = drop n text; rows = [] })) z }

-- behind one byte more
shorter : (text : List ℕ) (left : ℕ) → left ≤ length text → drop 1 (tail text left) ≡ tail text (left - 1)
shorter text zero h = drop_of_length-le (tail text 0) {i = 1} (omega (arith, tail_length text 0 h)) ∙ sym (drop_of_length-le text {i = length text - 0} (omega arith))
shorter text (suc left) h =
    let e : (length text - suc left) + 1 ≡ length text - (suc left - 1) = omega arith in
    drop-drop 1 (length text - suc left) text ∙ ap (λ (n : ℕ). drop n text) e

pub goes_on : (r : Reading) → 0 < length r.rest → length r.rows < 1024 → line_follows r ≡ true
goes_on r a b = rw (lt-ltb 0 (length r.rest) a, lt-ltb (length r.rows) 1024 b)

pub line_more : (k : ℕ) (r : Reading) → line_follows r ≡ true → read_lines (suc k) r ≡ read_lines k (read_line r)
unfolding read_lines
line_more k r h = rw h

line_none : (k : ℕ) (r : Reading) → line_follows r ≡ false → read_lines k r ≡ r.rows
unfolding read_lines
line_none zero r h = refl
line_none (suc k) r h = rw h

module _ {text : List ℕ} {ws : List (List ℕ)} {left count : ℕ} (l : Left text ws left count) where
  abbrev here : Reading
  here = record { rest = tail text left; rows = newest ws count }

  -- one line more
  pub line_read : {s : List ℕ} {ws' : List (List ℕ)} {line count' : ℕ} → 0 < left → count < 1024 → s ≡ tail text left → count < count' → Stored ws' count'
      → Reads (λ (k : ℕ). read_form k 0 1 (record { rest = s; rows = newest ws count })) (2 * length s + 1) s line (newest ws' count')
      → Left text ws' (line - 1) count'
  line_read {s} {ws'} {line} {count'} some room es up st r = go l.k l.enough l.same
    where
      long : length (tail text left) ≡ left
      long = tail_length text left l.inside

      small : line ≤ left
      small = omega (arith, r.inside, ap length es, long)

      formed : read_form (2 * length (tail text left) + 2) 0 1 here ≡ record { rest = drop (length (tail text left) - line) (tail text left); rows = newest ws' count' }
      formed = rw es at (r.reads (2 * length s + 2) (omega arith))

      rest : drop 1 (drop (length (tail text left) - line) (tail text left)) ≡ tail text (line - 1)
      rest = ap (drop 1) (last_last (length text - left) line text (omega (arith, long, small))) ∙ shorter text line (omega (arith, l.inside, small))

      after : read_line here ≡ record { rest = tail text (line - 1); rows = newest ws' count' }
      after = ap (λ (x : Reading). record { rest = drop 1 x.rest; rows = x.rows }) formed ∙ (λ i. record { rest = rest i; rows = newest ws' count' })

      go : (k : ℕ) → 1024 ≤ k + count → read_lines k here ≡ read_lines 1024 (record { rest = text; rows = [] }) → Left text ws' (line - 1) count'
      go zero e h = absurd (omega arith)
      go (suc k) e h = record {
        inside = omega (arith, l.inside, small);
        stored = st;
        k = k;
        enough = omega arith;
        same = ap (read_lines k) (sym after) ∙ sym (line_more k here (goes_on here (omega (arith, long)) (omega (arith, length_newest l.stored)))) ∙ h;
      }

  -- the text ends, or the table is full
  pub ended : left ≡ 0 → newest ws count ≡ read_lines 1024 (record { rest = text; rows = [] })
  ended z = sym (line_none l.k here (rw (le-ltb 0 (length (tail text left)) (omega (arith, tail_length text left l.inside))))) ∙ l.same

  pub full : 1024 ≤ count → newest ws count ≡ read_lines 1024 (record { rest = text; rows = [] })
  full h = sym (line_none l.k here (rw (le-ltb (length (newest ws count)) 1024 (omega (arith, length_newest l.stored))) (either (ltb 0 (length (tail text left)))))) ∙ l.same
    where
      either : (b : Bool) → (b && false) ≡ false
      either true = refl
      either false = refl
