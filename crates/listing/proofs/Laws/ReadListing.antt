-- What `read_listing` answers, from what its steps find.
-- Assumes nothing.
use mathlib.Core.Path.{◌≡◌, refl, sym, ap, ap₂, ◌∙◌}
use mathlib.Core.Bool.{Bool, true, false, ◌&&◌}
use mathlib.Core.Logic.{◌⊎◌, inl, inr}
use mathlib.Core.List.{List, [], ◌∷◌, ◌++◌, reverse}
use Prim.Native.Nat.{ℕ, zero, suc, ◌+◌, ◌-◌, ◌≤◌, ◌<◌}
use native.Mathlib.Omega.{arith}
use lib.ListN.{length, take, replicate, length-reverse, length-replicate, replicate-append-replicate}
use lib.Seq.{take-append-add, take_at}
use borrow.Author.Tests.{le-leb, lt-leb}
use Rattle.model.specs.declared.Cap.{Cap}
use Rattle.model.specs.Table.{empty_row, live_rows, lent_table, live_rows_first, in_order}
use Rattle.table.specs.Words.{rows_in}
use Rattle.listing.specs.First.{first_rows}
use Rattle.table.specs.Rows.{Front}
use Rattle.model.proofs.Offered.{test, clash, lent_live}
use Rattle.table.proofs.Offered.{length_in_lem}
use Rattle.text.specs.Result.{Result, value, refused}
use Rattle.text.specs.Read.{same}
use Rattle.listing.specs.Listing.{listed}
use Rattle.listing.specs.Forms.{guess_issued}
use Rattle.listing.specs.Stored.{Stored}
use Rattle.listing.specs.ReadListing.{is_listing, guess_table, Listed, read_listing}
use Rattle.listing.proofs.Laws.Front.{order, front_count}
use Rattle.listing.proofs.Laws.Padded.{stored_live, stored_order}

-- ---- a table of zeros

zero_rows : (n : ℕ) → rows_in (replicate n (0 ∷ 0 ∷ 0 ∷ 0 ∷ 0 ∷ 0 ∷ 0 ∷ 0 ∷ 0 ∷ 0 ∷ 0 ∷ [])) ≡ replicate n empty_row
unfolding rows_in
zero_rows zero = refl
zero_rows (suc n) = ap {B = List Cap} (λ l. empty_row ∷ l) (zero_rows n)

pub stored_none : Stored (replicate 1024 (0 ∷ 0 ∷ 0 ∷ 0 ∷ 0 ∷ 0 ∷ 0 ∷ 0 ∷ 0 ∷ 0 ∷ 0 ∷ [])) 0
unfolding lent_table
stored_none = record { few = omega arith; long = length-replicate {A = List ℕ} 1024 (0 ∷ 0 ∷ 0 ∷ 0 ∷ 0 ∷ 0 ∷ 0 ∷ 0 ∷ 0 ∷ 0 ∷ 0 ∷ []); table = zero_rows 1024 }

-- ---- fewer rows of a table

take_zeros : (j r : ℕ) → take j (replicate (j + r) empty_row) ≡ replicate j empty_row
take_zeros j r = ap (take j) (sym (replicate-append-replicate j r empty_row)) ∙ take_at (replicate j empty_row) (replicate r empty_row) j (length-replicate j empty_row)

pub take_lent : (n m : ℕ) (rows : List Cap) → length rows ≤ n → n ≤ m → take n (lent_table m rows) ≡ lent_table n rows
unfolding lent_table
take_lent n m rows h l =
    let k = length rows in
    let long : length (reverse rows) ≡ k = length-reverse rows in
    let a : n ≡ length (reverse rows) + (n - k) = omega arith in
    let d : m - k ≡ (n - k) + (m - n) = omega arith in
    ap₂ (λ (i j : ℕ). take i (reverse rows ++ replicate j empty_row)) a d
    ∙ take-append-add (reverse rows) (replicate ((n - k) + (m - n)) empty_row) (n - k)
    ∙ ap (λ (t : List Cap). reverse rows ++ t) (take_zeros (n - k) (m - n))

-- ---- the answer

module _ (s : List ℕ) (n : ℕ) (few : n ≤ 1024) {ws : List (List ℕ)} {stored : ℕ} (st : Stored ws stored) (issued : ℕ) (et : rows_in ws ≡ guess_table s) (ei : issued ≡ guess_issued s) where
  -- the rows that were stored are judged
  judged : is_listing s (guess_table s) (guess_issued s) ≡ is_listing s (first_rows ws stored) issued
  unfolding is_listing
  judged =
      ap₂ (is_listing s) (sym et) (sym ei)
      ∙ ap₂ (λ (b : Bool) (rows : List Cap). b && same s (listed (reverse rows) issued)) (stored_order st issued) (stored_live st)

  pub answers_2 : is_listing s (first_rows ws stored) issued ≡ false → refused 2 ≡ read_listing s n
  unfolding read_listing
  answers_2 h = sym (rw (judged ∙ h))

  module _ (h : is_listing s (first_rows ws stored) issued ≡ true) (k : ℕ) (f : Front (rows_in ws) 1024 k) where
    in_order_lem : in_order (rows_in ws) issued ≡ true
    unfolding is_listing
    in_order_lem = stored_order st issued ∙ go (test (in_order (first_rows ws stored) issued))
      where
        go : (in_order (first_rows ws stored) issued ≡ true) ⊎ (in_order (first_rows ws stored) issued ≡ false) → in_order (first_rows ws stored) issued ≡ true
        go (inl t) = t
        go (inr f) = clash h (rw f)

    arrange : live_rows_first (rows_in ws) ≡ true
    arrange = (order in_order_lem).arrange

    count : length (live_rows (guess_table s)) ≡ k
    count = ap (λ (t : List Cap). length (live_rows t)) (sym et) ∙ front_count ws 1024 k st.long f arrange

    pub answers_10 : n < k → refused 10 ≡ read_listing s n
    unfolding read_listing
    answers_10 l = sym (rw (judged ∙ h, lt-leb (length (live_rows (guess_table s))) n (omega (arith, count))))

    table_is : k ≤ n → first_rows ws n ≡ lent_table n (live_rows (guess_table s))
    table_is fits =
        let whole : rows_in ws ≡ lent_table 1024 (live_rows (guess_table s)) = sym (lent_live (rows_in ws) arrange) ∙ ap₂ (λ (m : ℕ) (t : List Cap). lent_table m (live_rows t)) (length_in_lem ws ∙ st.long) et in
        ap (take n) whole ∙ take_lent n 1024 (live_rows (guess_table s)) (omega (arith, count)) few

    pub answers_given : k ≤ n → {rows : List Cap} → rows ≡ first_rows ws n → ◌≡◌ {A = Result Listed} (value (record { table = rows; issued = issued })) (read_listing s n)
    unfolding read_listing
    answers_given l e =
        let small : length (live_rows (guess_table s)) ≤ n = omega (arith, count) in
        sym (rw (judged ∙ h, le-leb (length (live_rows (guess_table s))) n small) (λ i. value (record { table = sym (e ∙ table_is l) i; issued = sym ei i })))
