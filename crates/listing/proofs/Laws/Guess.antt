-- What is guessed of any text has starts and lengths of 32 bits, and masks of 64.
-- Assumes nothing.
use mathlib.Core.Bool.{Bool, true, false, cond, not}
use mathlib.Core.List.{List, [], ◌∷◌, ◌++◌, reverse}
use Prim.Native.Nat.{ℕ, zero, suc, ◌+◌, ◌-◌}
use native.Mathlib.Omega.{arith}
use lib.Dec.{ltb}
use lib.ListN.{length, replicate, drop}
use Rattle.model.specs.declared.Cap.{Cap}
use Rattle.model.specs.Lists.{filter}
use Rattle.model.specs.Table.{empty_row, named, live_rows, lent_table}
use Rattle.model.proofs.Offered.{All, All_append, All_reverse, All_sub}
use Rattle.text.specs.Class.{newline}
use Rattle.text.specs.Line.{through}
use Rattle.text.proofs.Offered.{hex_of_small, number_of_small}
use Rattle.listing.specs.Sort.{insert, sorted}
use Rattle.listing.specs.Forms.{Reading, start_text, length_text, mask_text, children_text, row_of, child_follows, read_form, read_run, read_line, line_follows, read_lines, guess_rows}
use Rattle.listing.specs.ReadListing.{guess_table}
use Rattle.listing.specs.Listable.{Small, SmallRows}

row_small : (s : List ℕ) (parent depth : ℕ) → Small (row_of s parent depth)
row_small s parent depth = (number_of_small (start_text s), number_of_small (length_text s), hex_of_small (mask_text s))

-- the rows of one of two readings
either : (t : Bool) (a b : Reading) → All Small a.rows → All Small b.rows → All Small (cond t a b).rows
either true a b ha hb = ha
either false a b ha hb = hb

mutual
  unfolding read_form

  form_small : (k parent depth : ℕ) (r : Reading) → All Small r.rows → All Small (read_form k parent depth r).rows
  form_small zero parent depth r h = h
  form_small (suc k) parent depth r h =
      let row = row_of r.rest parent depth in
      run_small k row.name.0 depth (record { rest = children_text r.rest; rows = row ∷ r.rows }) (row_small r.rest parent depth, h)

  run_small : (k parent depth : ℕ) (r : Reading) → All Small r.rows → All Small (read_run k parent depth r).rows
  run_small zero parent depth r h = h
  run_small (suc k) parent depth r h =
      let start : Reading = record { rest = drop 1 r.rest; rows = r.rows } in
      let child = read_form k parent (depth + 1) start in
      either (child_follows depth r) (read_run k parent depth child) r (run_small k parent depth child (form_small k parent (depth + 1) start h)) h

lines_small : (k : ℕ) (r : Reading) → All Small r.rows → All Small (read_lines k r)
unfolding read_lines
lines_small zero r h = h
lines_small (suc k) r h = go (line_follows r) (lines_small k (read_line r) (form_small _ 0 1 r h))
  where
    go : (t : Bool) → All Small (read_lines k (read_line r)) → All Small (cond t (read_lines k (read_line r)) r.rows)
    go true m = m
    go false m = h

insert_small : (c : Cap) (rows : List Cap) → Small c → All Small rows → All Small (insert c rows)
unfolding insert
insert_small c [] s h = (s, tt)
insert_small c (x ∷ xs) s h = go (ltb c.name.0 x.name.0) (insert_small c xs s h.1)
  where
    go : (t : Bool) → All Small (insert c xs) → All Small (cond t (c ∷ x ∷ xs) (x ∷ insert c xs))
    go true m = (s, h)
    go false m = (h.0, m)

sorted_small : (rows : List Cap) → All Small rows → All Small (sorted rows)
unfolding sorted
sorted_small [] h = tt
sorted_small (c ∷ rows) h = insert_small c (sorted rows) h.0 (sorted_small rows h.1)

zeros_small : (n : ℕ) → All Small (replicate n empty_row)
zeros_small zero = tt
zeros_small (suc n) = ((omega arith, omega arith, omega arith), zeros_small n)

guess_rows_small : (s : List ℕ) → All Small (guess_rows s)
unfolding guess_rows
guess_rows_small s =
    let start : Reading = record { rest = drop (through newline s) s; rows = [] } in
    sorted_small (reverse (read_lines 1024 start)) (All_reverse Small (read_lines 1024 start) (lines_small 1024 start tt))

small_rows : (rows : List Cap) → All Small rows → SmallRows rows
small_rows [] h = tt
small_rows (c ∷ rows) h = (h.0, small_rows rows h.1)

pub guess_small : (s : List ℕ) → SmallRows (live_rows (guess_table s))
unfolding guess_table lent_table live_rows
guess_small s =
    let rows = reverse (guess_rows s) in
    let zeros = replicate (1024 - length rows) empty_row in
    let all : All Small (reverse rows ++ zeros) =
    All_append Small (reverse rows) zeros (All_reverse Small rows (All_reverse Small (guess_rows s) (guess_rows_small s))) (zeros_small (1024 - length rows)) in
    let live = filter (λ c. not (named 0 c)) (reverse rows ++ zeros) in
    small_rows (reverse live) (All_reverse Small live (All_sub (λ c. not (named 0 c)) Small (reverse rows ++ zeros) all))
