-- A listing that is written from a lent table, or read into one.
-- Assumes nothing.
use Rattle.std.specs.Prelude.{Err, Ok}
use mathlib.Core.Path.{◌≡◌, sym, ap, ◌∙◌}
use mathlib.Core.Bool.{false}
use mathlib.Core.List.{List}
use Prim.Native.Nat.{ℕ, ◌≤◌, ◌<◌}
use lib.ListN.{length}
use borrow.Author.Tests.{le-leb, lt-leb}
use Rattle.model.specs.declared.Cap.{Cap}
use Rattle.model.specs.declared.Refusal.{Refusal}
use Rattle.model.specs.declared.Refusal.TheVariants.{Disordered}
use Rattle.model.specs.Answers.{number}
use Rattle.model.specs.Table.{in_order}
use Rattle.table.specs.Words.{rows_in}
use Rattle.table.specs.Lent.{tally_in}
use Rattle.table.proofs.Offered.{length_in_lem}
use Rattle.text.specs.Result.{Result, value, refused}
use Rattle.listing.specs.WriteListing.{listing_written, listing_stored, WritesListing}
use Rattle.listing.specs.ReadListing.{Listed, read_listing}
use Rattle.listing.specs.ReadInto.{read_table, with_issued, issued_read, Target, target, target_read, ReadsInto}

-- nothing is written of a table out of order
pub not_written : (rows : List Cap) (issued : ℕ) (out : List ℕ) → in_order rows issued ≡ false → WritesListing rows issued out out (Err Disordered)
unfolding listing_written listing_stored
not_written rows issued out h = record { answer = sym (rw h); buffer = sym (rw h) }

-- ---- reading

module _ (s : List ℕ) (ws : List (List ℕ)) (w : List ℕ) where
  abbrev before : Target
  before = target ws w

  abbrev Is : Result Listed → Type 0
  Is z = z ≡ read_table s (length (rows_in ws))

  unchanged : (x : Refusal) → Is (refused (number x)) → ReadsInto s before before (Err x)
  unchanged x e = record { answer = ap issued_read e; table = ap (λ (z : Result Listed). (target_read z before).table) e; tally = ap (λ (z : Result Listed). (target_read z before).tally) e }

  pub read_many : 1024 < length ws → ReadsInto s before before (Err Disordered)
  unfolding read_table
  read_many l = unchanged Disordered (sym (rw (length_in_lem ws, lt-leb (length ws) 1024 l)))

  module _ (few : length ws ≤ 1024) where
    read_as : (z : Result Listed) → z ≡ read_listing s (length ws) → Is z
    unfolding read_table
    read_as z h = rw (length_in_lem ws, le-leb (length ws) 1024 few) h

    pub read_refused : (x : Refusal) → refused (number x) ≡ read_listing s (length ws) → ReadsInto s before before (Err x)
    read_refused x h = unchanged x (read_as (refused (number x)) h)

    pub read_given : (ws' : List (List ℕ)) (w' : List ℕ) (i : ℕ) → ◌≡◌ {A = Result Listed} (value (record { table = rows_in ws'; issued = i })) (read_listing s (length ws)) → tally_in w' ≡ with_issued i (tally_in w)
        → ReadsInto s before (target ws' w') (Ok i)
    read_given ws' w' i h t =
        let e = read_as (value (record { table = rows_in ws'; issued = i })) h in
        record { answer = ap issued_read e; table = ap (λ (z : Result Listed). (target_read z before).table) e; tally = t ∙ ap (λ (z : Result Listed). (target_read z before).tally) e }
