-- `listing::reading::guess_table` meets its contract: the rows of the lines, sorted, stand first in the table.
-- Assumes nothing.
use mathlib.Core.Path.{◌≡◌, sym, ap, ◌∙◌}
use Prim.Native.Nat.{ℕ}
use mathlib.Core.List.{List, [], reverse, reverse-reverse}
use lib.ListN.{drop}
use Rattle.model.specs.declared.Cap.{Cap}
use Rattle.model.specs.Table.{lent_table}
use Rattle.table.specs.Words.{rows_in}
use Rattle.listing.specs.First.{first_rows}
use Rattle.text.specs.Class.{newline}
use Rattle.text.specs.Line.{through}
use Rattle.listing.specs.Sort.{sorted}
use Rattle.listing.specs.Forms.{read_lines, guess_rows}
use Rattle.listing.specs.Stored.{newest, Stored}
use Rattle.listing.specs.ReadListing.{guess_table}
use Rattle.listing.proofs.reading.guess_table.Goals as goal

table_is : (s lines : List ℕ) (ws ws' : List (List ℕ)) (count : ℕ) → lines ≡ drop (through newline s) s → newest ws count ≡ read_lines 1024 (record { rest = lines; rows = [] })
    → Stored ws' count → first_rows ws' count ≡ sorted (first_rows ws count) → rows_in ws' ≡ guess_table s
unfolding guess_table guess_rows
table_is s lines ws ws' count el er st es =
    st.table
    ∙ ap (λ (rows : List Cap). lent_table 1024 (reverse rows)) (es ∙ ap sorted (sym (reverse-reverse (first_rows ws count)) ∙ ap reverse er))
    ∙ ap (λ (l : List ℕ). lent_table 1024 (reverse (sorted (reverse (read_lines 1024 (record { rest = l; rows = [] })))))) el

pub returns : goal.returns
returns c =
    let s = c.args.text.now in
    let lines = c.past.ensures ∙ ap (λ (n : ℕ). drop n s) c.count_through-start.ensures in
    (table_is s c.past.result.now c.read_lines-count.new.table c.sort_rows.new.table c.read_lines-count.result lines c.read_lines-count.ensures.1 c.sort_rows.ensures.0 c.sort_rows.ensures.1, c.sort_rows.ensures.0)
