-- A table in order, and its live rows by rising name.
-- Assumes nothing.
use mathlib.Core.Path.{◌≡◌, refl, sym, ap, ◌∙◌, subst}
use mathlib.Core.Bool.{true, not, ◌&&◌}
use mathlib.Core.List.{List, [], ◌∷◌, reverse, reverse-reverse}
use Prim.Native.Nat.{ℕ, suc, ◌≤◌}
use native.Mathlib.Omega.{arith}
use lib.Dec.{leb}
use lib.ListN.{length, length-reverse}
use borrow.Author.Tests.{leb-true}
use Rattle.model.specs.declared.Cap.{Cap}
use Rattle.model.specs.Lists.{all}
use Rattle.model.specs.Table.{named, live_rows, live_rows_first, rows_in_order, in_order}
use Rattle.table.specs.Words.{rows_in}
use Rattle.listing.specs.First.{first_rows}
use Rattle.table.specs.Rows.{Front}
use Rattle.model.proofs.Offered.{All_reverse, and_both, Named, rows_in_order_wider, live_named}
use Rattle.table.proofs.Offered.{length_in_lem, before_reverse, live_rows_first_front, live_front}
use Rattle.listing.proofs.Laws.First.{length_first}
use Rattle.listing.specs.Listing.{listed, listing}
use Rattle.listing.specs.Links.{Live}

-- what order says
pub record Order (table : List Cap) (issued : ℕ) : Type 0 where
  pub few : length table ≤ 1024
  pub arrange : live_rows_first table ≡ true
  pub names : issued ≤ 1000000
  pub rises : rows_in_order (suc issued) (live_rows table) ≡ true

pub order : {table : List Cap} {issued : ℕ} → in_order table issued ≡ true → Order table issued
unfolding in_order
order {table} {issued} h =
    let p = and_both (leb (length table) 1024 && live_rows_first table && leb issued 1000000) (rows_in_order (suc issued) (live_rows table)) h in
    let q = and_both (leb (length table) 1024 && live_rows_first table) (leb issued 1000000) p.0 in
    let r = and_both (leb (length table) 1024) (live_rows_first table) q.0 in
    record { few = leb-true (length table) 1024 r.0; arrange = r.1; names = leb-true issued 1000000 q.1; rises = p.1 }

all_named : (rows : List Cap) → Named rows → all (λ c. not (named 0 c)) rows ≡ true
all_named [] h = refl
all_named (c ∷ rows) h = rw h.0 (all_named rows h.1)

-- the live rows of a table in order
pub order_live : (table : List Cap) (issued : ℕ) → in_order table issued ≡ true → Live (reverse (live_rows table))
order_live table issued h =
    let o = order h in
    record {
      names = all_named (reverse (live_rows table)) (All_reverse _ (live_rows table) (live_named table));
      rises = rw (reverse-reverse (live_rows table)) (rows_in_order_wider (suc issued) 1000001 (live_rows table) (omega (arith, o.names)) o.rises);
    }

-- where k of the n rows of a table are live
module _ (ws : List (List ℕ)) (n k : ℕ) (whole : length ws ≡ n) (f : Front (rows_in ws) n k) where
  abbrev table : List Cap
  table = rows_in ws

  pub front_rows : live_rows_first table ≡ true → reverse (live_rows table) ≡ first_rows ws k
  front_rows a =
      let long : length (rows_in ws) ≡ n = length_in_lem ws ∙ whole in
      ap reverse (live_front (rows_in ws) n k f long (sym (live_rows_first_front (rows_in ws) n k f long) ∙ a) ∙ sym (before_reverse (rows_in ws) k (omega (arith, f.fits))))
      ∙ reverse-reverse (first_rows ws k)

  pub front_count : live_rows_first table ≡ true → length (live_rows table) ≡ k
  front_count a = sym (length-reverse (live_rows table)) ∙ ap length (front_rows a) ∙ length_first ws k (omega (arith, f.fits))

  module _ (issued : ℕ) (h : in_order table issued ≡ true) where
    pub front_live : Live (first_rows ws k)
    front_live = subst Live (front_rows (order h).arrange) (order_live table issued h)

    pub front_listing : listing table issued ≡ listed (first_rows ws k) issued
    front_listing = ap (λ (rows : List Cap). listed rows issued) (front_rows (order h).arrange)
