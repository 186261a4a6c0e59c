-- What reading a listing does to what is lent: the table and the issued number are those that were read, or stay where nothing was; the
-- other counts of the tally stay in any case.
-- Assumes nothing.
use mathlib.Core.Path.{◌≡◌, refl, ap, ◌∙◌}
use mathlib.Core.List.{List}
use Prim.Native.Nat.{ℕ}
use lib.ListN.{length, take}
use Rattle.model.specs.declared.Cap.{Cap}
use Rattle.model.specs.Counted.{Counter, Creates, Borrows, Reads, Writes, Drops, Refusals, count_in}
use Rattle.text.specs.Result.{Result, value, refused}
use Rattle.listing.specs.ReadListing.{Listed}
use Rattle.listing.specs.WriteListing.{listing_written, listing_stored}
use Rattle.listing.specs.Listable.{Listable}
use Rattle.listing.specs.ReadInto.{read_table, Target, target_read, target_into, Fixes}
use Rattle.listing.proofs.Laws.Theorems.{written_reads_into}

-- "no listing changes the tally's other counts"
pub counts_stay : (s : List ℕ) (h : Target) (c : Counter) → count_in c (target_into s h).tally ≡ count_in c h.tally
counts_stay s h c = go (read_table s (length h.table)) c
  where
    go : (r : Result Listed) (c : Counter) → count_in c (target_read r h).tally ≡ count_in c h.tally
    go (value l) Creates = refl
    go (value l) Borrows = refl
    go (value l) Reads = refl
    go (value l) Writes = refl
    go (value l) Drops = refl
    go (value l) Refusals = refl
    go (refused k) c = refl

module _ (s : List ℕ) (h : Target) where
  -- "A listing that is read fixes the whole lent table and the issued number"
  pub read_fixes : (l : Listed) → read_table s (length h.table) ≡ value l → Fixes l (target_into s h)
  read_fixes l e = record {
    table = ap (λ (r : Result Listed). (target_read r h).table) e;
    issued = ap (λ (r : Result Listed). (target_read r h).tally.issued) e;
  }

  -- "on refusal the lent table and the issued number are unchanged"
  pub refused_keeps : (k : ℕ) → read_table s (length h.table) ≡ refused k → target_into s h ≡ h
  refused_keeps k e = ap (λ (r : Result Listed). target_read r h) e

-- what was written of one table fixes another of as many rows to be the same, whatever it held
pub written_fixes : (table : List Cap) (issued : ℕ) → Listable table issued → (out : List ℕ) (n : ℕ) → listing_written table issued out ≡ value n
    → (h : Target) → length h.table ≡ length table → Fixes (record { table = table; issued = issued }) (target_into (take n (listing_stored table issued out)) h)
written_fixes table issued t out n w h e =
    let s = take n (listing_stored table issued out) in
    read_fixes s h (record { table = table; issued = issued }) (ap (read_table s) e ∙ written_reads_into table issued t out n w)
