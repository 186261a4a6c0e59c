-- What reading and writing a listing are refused for: the number given is the first whose condition holds. 2 is given of no text that a
-- table in order has as its listing, and of every other; 10 of every such text with too many capabilities, and of no other.
-- Assumes nothing.
use mathlib.Core.Path.{◌≡◌, refl, sym, ap, ◌∙◌}
use mathlib.Core.Logic.{◌⊎◌, inl, inr}
use mathlib.Core.Bool.{Bool, true, false, cond, not}
use mathlib.Core.List.{List}
use Prim.Native.Nat.{ℕ, suc, ◌<◌}
use native.Mathlib.Omega.{arith}
use lib.Dec.{leb, ltb}
use lib.ListN.{length}
use borrow.Author.Tests.{leb-true, leb-false, ltb-true, lt-ltb, le-ltb, not-true, not-false}
use Rattle.model.specs.declared.Cap.{Cap}
use Rattle.model.specs.Lists.{first}
use Rattle.model.specs.Refusals.{place}
use Rattle.model.specs.Table.{live_rows, lent_table, in_order}
use Rattle.model.proofs.Offered.{listed, test, clash, unless, and_both, rises_from, first_lowest, first_holds}
use Rattle.text.specs.Result.{Result, value, refused, refusal_of}
use Rattle.text.specs.Read.{same}
use Rattle.text.specs.Write.{written}
use Rattle.listing.specs.Listing.{listing}
use Rattle.listing.specs.Forms.{guess_issued}
use Rattle.listing.specs.ReadListing.{is_listing, guess_table, Listed, read_listing}
use Rattle.listing.specs.WriteListing.{listing_written}
use Rattle.listing.specs.ReadInto.{read_table, issued_read, Target, answer_into}
use Rattle.listing.specs.Listable.{ListingOf, Overfull}
use Rattle.listing.specs.Refusals.{no_listing, too_many_capabilities, read_refusals, write_refusals}
use Rattle.text.proofs.Offered.{same_true}
use Rattle.listing.proofs.Laws.Guess.{guess_small}
use Rattle.listing.proofs.Laws.Theorems.{is_listing_lem, live_back, read_full}

-- a test of numbers, and its opposite
over : (a b : ℕ) → ltb b a ≡ not (leb a b)
over a b = go (test (leb a b))
  where
    go : (leb a b ≡ true) ⊎ (leb a b ≡ false) → ltb b a ≡ not (leb a b)
    go (inl t) = rw (t, le-ltb b a (leb-true a b t))
    go (inr f) = rw (f, lt-ltb b a (leb-false a b f))

-- ---- the number given

pub read_first : (s : List ℕ) (rows : ℕ) → refusal_of (read_table s rows) ≡ first (read_refusals s rows)
unfolding read_table read_listing read_refusals
read_first s rows =
    rw (over rows 1024, over (length (live_rows (guess_table s))) rows)
    (go (leb rows 1024) (is_listing s (guess_table s) (guess_issued s)) (leb (length (live_rows (guess_table s))) rows))
  where
    l : Listed
    l = record { table = lent_table rows (live_rows (guess_table s)); issued = guess_issued s }

    go : (few is fits : Bool) → refusal_of (cond few (cond is (cond fits (value l) (refused 10)) (refused 2)) (refused 1)) ≡ cond (not few) 1 (cond (not is) 2 (cond (not fits) 10 0))
    go true true true = refl
    go true true false = refl
    go true false fits = refl
    go false is fits = refl

-- the answer to a caller has that refusal
pub answer_first : (s : List ℕ) (h : Target) → refusal_of (answer_into s h) ≡ first (read_refusals s (length h.table))
answer_first s h = same_refusal (read_table s (length h.table)) ∙ read_first s (length h.table)
  where
    same_refusal : (r : Result Listed) → refusal_of (issued_read r) ≡ refusal_of r
    same_refusal (value l) = refl
    same_refusal (refused k) = refl

pub write_first : (table : List Cap) (issued : ℕ) (out : List ℕ) → refusal_of (listing_written table issued out) ≡ first (write_refusals table issued out)
unfolding listing_written written write_refusals
write_first table issued out =
    rw (over (length (listing table issued)) (length out)) (go (in_order table issued) (leb (length (listing table issued)) (length out)))
  where
    n : ℕ
    n = length (listing table issued)

    go : (ordered fits : Bool) → refusal_of (cond ordered (cond fits (value n) (refused 11)) (refused 1)) ≡ cond (not ordered) 1 (cond (not fits) 11 0)
    go true true = refl
    go true false = refl
    go false fits = refl

-- ---- the numbers stand in order of precedence, so that the first that holds is the one to be given

module _ (s : List ℕ) (rows : ℕ) where
  read_rising : rises_from 0 (read_refusals s rows) ≡ true
  unfolding read_refusals
  read_rising = refl

  pub read_given_holds : (j : ℕ) → refusal_of (read_table s rows) ≡ suc j → listed (suc j) (read_refusals s rows) ≡ true
  read_given_holds j h = first_holds (read_refusals s rows) 0 j read_rising (rw (read_first s rows) at h)

  pub read_given_first : (j : ℕ) → place j < place (refusal_of (read_table s rows)) → listed j (read_refusals s rows) ≡ false
  read_given_first j l = first_lowest (read_refusals s rows) 0 j read_rising (rw (read_first s rows) at l)

module _ (table : List Cap) (issued : ℕ) (out : List ℕ) where
  write_rising : rises_from 0 (write_refusals table issued out) ≡ true
  unfolding write_refusals
  write_rising = refl

  pub write_given_holds : (j : ℕ) → refusal_of (listing_written table issued out) ≡ suc j → listed (suc j) (write_refusals table issued out) ≡ true
  write_given_holds j h = first_holds (write_refusals table issued out) 0 j write_rising (rw (write_first table issued out) at h)

  pub write_given_first : (j : ℕ) → place j < place (refusal_of (listing_written table issued out)) → listed j (write_refusals table issued out) ≡ false
  write_given_first j l = first_lowest (write_refusals table issued out) 0 j write_rising (rw (write_first table issued out) at l)

-- ---- what the conditions of 2 and 10 say

guessed : (s : List ℕ) → is_listing s (guess_table s) (guess_issued s) ≡ true → ListingOf s
unfolding is_listing
guessed s h =
    let p = and_both (in_order (guess_table s) (guess_issued s)) (same s (listing (guess_table s) (guess_issued s))) h in
    record {
      table = guess_table s;
      issued = guess_issued s;
      listable = record { ordered = p.0; small = guess_small s };
      text = same_true s (listing (guess_table s) (guess_issued s)) p.1;
    }

-- 2 does not hold of the listing of a table in order
pub no_listing_lem : (s : List ℕ) → no_listing s ≡ true → ListingOf s → ⊥
no_listing_lem s h l =
    clash (rw l.text (is_listing_lem l.table l.issued l.listable)) (not-true (is_listing s (guess_table s) (guess_issued s)) h)

-- and holds of every other text
pub some_listing : (s : List ℕ) → no_listing s ≡ false → ListingOf s
some_listing s h = guessed s (not-false (is_listing s (guess_table s) (guess_issued s)) h)

-- 10 holds of a listing where the table has more capabilities
pub capabilities : (s : List ℕ) (l : ListingOf s) (rows : ℕ) → too_many_capabilities s rows ≡ ltb rows (length (live_rows l.table))
capabilities s l rows = rw l.text (ap (λ (live : List Cap). ltb rows (length live)) (live_back l.table l.issued l.listable))

-- ---- 2 and 10 of a reader, and only there

module _ (s : List ℕ) (n : ℕ) where
  abbrev given : Result Listed
  given = value (record { table = lent_table n (live_rows (guess_table s)); issued = guess_issued s })

  -- 10 tells that a table in order has this listing, and more capabilities than rows
  pub refused_10 : read_listing s n ≡ refused 10 → Overfull s n
  unfolding read_listing
  refused_10 h = go (test (is_listing s (guess_table s) (guess_issued s))) (test (leb (length (live_rows (guess_table s))) n))
    where
      go : (is_listing s (guess_table s) (guess_issued s) ≡ true) ⊎ (is_listing s (guess_table s) (guess_issued s) ≡ false)
          → (leb (length (live_rows (guess_table s))) n ≡ true) ⊎ (leb (length (live_rows (guess_table s))) n ≡ false) → Overfull s n
      go (inl is) (inr f) =
          let l = guessed s is in
          let more : ltb n (length (live_rows l.table)) ≡ true = sym (capabilities s l n) ∙ lt-ltb n (length (live_rows (guess_table s))) (leb-false (length (live_rows (guess_table s))) n f) in
          record { has = l; more = ltb-true n (length (live_rows l.table)) more }
      go (inl is) (inl t) = absurd (let e : given ≡ refused 10 = rw (is, t) at h in let z : ◌≡◌ {A = ℕ} 0 1 = cc in omega arith)
      go (inr f) t = absurd (let e : ◌≡◌ {A = Result Listed} (refused 2) (refused 10) = rw f at h in let z : ◌≡◌ {A = ℕ} 2 10 = cc in omega arith)

  -- and is given wherever that is so
  pub overfull_10 : Overfull s n → read_listing s n ≡ refused 10
  overfull_10 o = ap (λ (t : List ℕ). read_listing t n) o.has.text ∙ read_full o.has.table o.has.issued o.has.listable n o.more

  -- 2 is given where no table in order has this listing; `unlisted` says that it is not given elsewhere
  pub unlisted_2 : (ListingOf s → ⊥) → read_listing s n ≡ refused 2
  unfolding read_listing
  unlisted_2 none = rw (unless (is_listing s (guess_table s) (guess_issued s)) (λ is. none (guessed s is)))
