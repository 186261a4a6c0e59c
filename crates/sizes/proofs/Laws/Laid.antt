-- Lengths and places: the clients' texts as the code finds them are those of the definition; and what stands before the first line.
-- Assumes nothing.
use mathlib.Core.Path.{◌≡◌, refl, sym, ap, ◌∙◌}
use mathlib.Core.Bool.{true, false}
use mathlib.Core.List.{List, [], ◌∷◌, map}
use Prim.Native.Nat.{ℕ, zero, suc, ◌+◌, ◌-◌, ◌*◌, ◌≤◌, ◌<◌}
use native.Mathlib.Omega.{arith}
use lib.Dec.{leb, eqb}
use native.Mathlib.Numerals.{add-one}
use mathlib.Core.Logic.{◌⊎◌, inl, inr}
use lib.ListN.{length, get_or, set, take, drop, replicate, length-set, length-replicate}
use lib.Seq.{get_or-set_same, get_or-set_other, drop-drop}
use borrow.Author.Tests.{leb-true, eqb-true}
use Rattle.std.specs.Prelude.{sum as listed}
use Rattle.std.proofs.lemmas.List.Sums.{sum_by-cons}
use Rattle.model.specs.declared.Cap.{Cap}
use Rattle.model.specs.Table.{empty_row, in_order}
use Rattle.model.specs.Requests.{Unlimited}
use Rattle.model.specs.Slots.{unstored}
use Rattle.model.specs.Limits.{sum, refused_sheet}
use Rattle.model.specs.Counts.{tally}
use Rattle.model.proofs.Offered.{and_both, order_fresh}
use Rattle.table.specs.Words.{rows_in}
use Rattle.table.specs.Rows.{name_at, Orderly}
use Rattle.table.proofs.Offered.{last, length_in_lem, places_none}
use Rattle.rules.specs.Steps.{lends}
use Rattle.text.specs.Line.{lines_of}
use Rattle.sizes.specs.Turns.{texts}
use Rattle.sizes.specs.Clients.{fresh}
use Rattle.sizes.specs.Report.{fits}
use Rattle.sizes.specs.Taken.{memory, Holds}
use Rattle.sizes.specs.Rounds.{left_at, lines_from, Laid, Places}

-- ---- sums

pub sum_more : (l : List ℕ) (k : ℕ) → k < length l → sum (take (suc k) l) ≡ sum (take k l) + get_or l k 0
sum_more [] k h = absurd (omega arith)
sum_more (n ∷ l) zero h = omega arith
sum_more (n ∷ l) (suc k) h = let e = sum_more l k (omega arith) in omega arith

-- the library's sum is this one
pub sum_is : (l : List ℕ) → listed l ≡ sum l
sum_is [] = refl
sum_is (n ∷ l) = sum_by-cons (λ x. x) n l ∙ ap (λ (s : ℕ). n + s) (sum_is l)

sum_part : (l : List ℕ) (k : ℕ) → sum (take k l) ≤ sum l
sum_part [] zero = omega arith
sum_part [] (suc k) = omega arith
sum_part (n ∷ l) zero = omega arith
sum_part (n ∷ l) (suc k) = let e = sum_part l k in omega arith

-- ---- places

pub fit_few : (text lengths : List ℕ) → fits text lengths ≡ true → length lengths ≤ 8
unfolding fits
fit_few text lengths f = leb-true (length lengths) 8 (and_both (leb (length lengths) 8) (eqb (sum lengths) (length text)) f).0

fit_sum : (text lengths : List ℕ) → fits text lengths ≡ true → sum lengths ≡ length text
unfolding fits
fit_sum text lengths f = eqb-true (sum lengths) (length text) (and_both (leb (length lengths) 8) (eqb (sum lengths) (length text)) f).1

module _ (text lengths at ends : List ℕ) (laid : Laid lengths at ends) where
  pub laid_places : fits text lengths ≡ true → Places text at ends (length lengths)
  laid_places f = record {
    long = laid.long;
    rising = λ k l. omega (arith, laid.begins k l, laid.stops k l, sum_more lengths k l);
    inside = λ k l. omega (arith, laid.stops k l, sum_part lengths (suc k), fit_sum text lengths f);
  }

  -- the lines of the clients from k on, whose lengths these are, and the first of whose texts begins at p
  lines_from_lem : (rest : List ℕ) (k p : ℕ) → ((j : ℕ) → j < length rest → get_or at (k + j) 0 ≡ p + sum (take j rest)) → ((j : ℕ) → j < length rest → get_or ends (k + j) 0 ≡ p + sum (take (suc j) rest))
      → lines_from text at ends k (length rest) ≡ map lines_of (texts (drop p text) rest)
  unfolding lines_from texts
  lines_from_lem [] k p b s = refl
  lines_from_lem (n ∷ rest) k p b s =
      let here : k + 0 ≡ k = omega arith in
      let from : get_or at k 0 ≡ p = ap (λ (i : ℕ). get_or at i 0) (sym here) ∙ b 0 (omega arith) ∙ omega arith in
      let to : get_or ends k 0 ≡ p + n = ap (λ (i : ℕ). get_or ends i 0) (sym here) ∙ s 0 (omega arith) ∙ omega arith in
      let long : p + n - p ≡ n = omega arith in
      let first : left_at text at ends k ≡ take n (drop p text) = (λ j. take (to j - from j) (drop (from j) text)) ∙ ap (λ (m : ℕ). take m (drop p text)) long in
      let others = lines_from_lem rest (suc k) (p + n)
      (λ j l. let e : suc k + j ≡ k + suc j = omega arith in ap (λ (i : ℕ). get_or at i 0) e ∙ b (suc j) (omega arith) ∙ omega arith)
      (λ j l. let e : suc k + j ≡ k + suc j = omega arith in ap (λ (i : ℕ). get_or ends i 0) e ∙ s (suc j) (omega arith) ∙ omega arith) in
      (λ j. lines_of (first j) ∷ others j) ∙ ap (λ (t : List ℕ). lines_of (take n (drop p text)) ∷ map lines_of (texts t rest)) (sym (drop-drop n p text))

  pub lines_laid : lines_from text at ends 0 (length lengths) ≡ map lines_of (texts text lengths)
  lines_laid = lines_from_lem lengths 0 0
      (λ j l. let e : 0 + j ≡ j = omega arith in ap (λ (i : ℕ). get_or at i 0) e ∙ laid.begins j l ∙ omega arith)
      (λ j l. let e : 0 + j ≡ j = omega arith in ap (λ (i : ℕ). get_or ends i 0) e ∙ laid.stops j l ∙ omega arith)

-- ---- before the first line

-- a row whose words are zeros
abbrev pub zero_row : List ℕ
zero_row = replicate 11 0

rows_zero : (n : ℕ) → rows_in (replicate n zero_row) ≡ replicate n empty_row
unfolding rows_in
rows_zero zero = refl
rows_zero (suc n) = ap (λ (rows : List Cap). empty_row ∷ rows) (rows_zero n)

-- no client was given a name
no_counts_lem : (n k : ℕ) → ◌≡◌ {A = ℕ} 0 (get_or (replicate n 0) k 0)
no_counts_lem zero k = refl
no_counts_lem (suc n) zero = refl
no_counts_lem (suc n) (suc k) = no_counts_lem n k

-- a table of n zero rows
module _ (n : ℕ) (few : n ≤ 1024) where
  abbrev T : List Cap
  T = rows_in (replicate n zero_row)

  first_empty : (m : ℕ) → name_at (replicate m empty_row) 0 ≡ 0
  first_empty zero = refl
  first_empty (suc m) = refl

  rows_many : length T ≡ length (replicate n zero_row)
  rows_many = length_in_lem (replicate n zero_row)

  all_rows : length (replicate n zero_row) ≡ n
  all_rows = length-replicate {A = List ℕ} n zero_row

  zero_orderly : Orderly T (length (replicate n zero_row)) 0 0
  zero_orderly = record {
    few = omega (arith, all_rows);
    all = rows_many;
    front = record { fits = omega arith; filled = λ i l. absurd (omega arith); stop = λ l. ap (λ (rows : List Cap). name_at rows 0) (rows_zero n) ∙ first_empty n };
    ordered = ap (λ (rows : List Cap). in_order rows 0) (rows_zero n) ∙ order_fresh n (tally 0 0 0 0 0 0 0) few refl;
  }

  no_sheet : refused_sheet T Unlimited ≡ false
  unfolding refused_sheet
  no_sheet = refl

  pub zero_holds : (bits places names keys counts : List ℕ) → bits ≡ replicate 8192 0 → length places ≡ 1024 → length names ≡ 2048 → length keys ≡ 2048 → counts ≡ replicate 8 0
      → Holds (fresh n) (memory (replicate n zero_row) bits places names keys counts) 0 0 (tally 0 0 0 0 0 0 0)
  zero_holds bits places names keys counts b p m k c = record {
    fit = record {
      known = record { orderly = zero_orderly; placed = places_none T places p };
      sized = ap length b ∙ length-replicate {A = ℕ} 8192 0;
      allowed = no_sheet;
    };
    state = λ j. lends (sym (rows_zero n) j) (sym b j) unstored (tally 0 0 0 0 0 0 0);
    listed = record { fits = omega arith; room = m; rising = λ i j l o. absurd (omega arith); living = λ j l. absurd (omega arith) };
    keyed = record { room = k; each = λ i l. absurd (omega arith) };
    given = record { positive = λ d a l. absurd (omega arith); most = λ d a. omega arith; few = λ d. omega arith; once = λ d e a i l. absurd (omega arith) };
    counted = record { all_clients = ap length c ∙ length-replicate {A = ℕ} 8 0; each = λ d l. no_counts_lem 8 d ∙ ap (λ (q : List ℕ). get_or q d 0) (sym c) };
  }

-- ---- the places are laid out

pub record Laying (lengths at ends : List ℕ) (place k : ℕ) : Type 0 where
  pub within : k ≤ length lengths
  pub long : length at ≡ 8
  pub long_ends : length ends ≡ 8
  pub here : place ≡ sum (take k lengths)
  pub small : place ≤ 4294967296 * k
  pub begins : (j : ℕ) → j < k → get_or at j 0 ≡ sum (take j lengths)
  pub stops : (j : ℕ) → j < k → get_or ends j 0 ≡ sum (take (suc j) lengths)

pub laying_none : (lengths at ends : List ℕ) → length at ≡ 8 → length ends ≡ 8 → Laying lengths at ends 0 0
laying_none lengths at ends l m = record { within = omega arith; long = l; long_ends = m; here = refl; small = omega arith; begins = λ j h. absurd (omega arith); stops = λ j h. absurd (omega arith) }

module _ (lengths at ends : List ℕ) (place k : ℕ) (few : length lengths ≤ 8) (so : Laying lengths at ends place k) (more : k < length lengths) (n : ℕ) (is : n ≡ get_or lengths k 0) (low : n < 4294967296) where
  abbrev at' : List ℕ
  at' = set at k place

  abbrev ends' : List ℕ
  ends' = set ends k (place + n)

  next : place + n ≡ sum (take (suc k) lengths)
  next = omega (arith, so.here, is, sum_more lengths k more)

  pub laying_more : Laying lengths at' ends' (place + n) (k + 1)
  laying_more = record {
    within = omega arith;
    long = length-set at k place ∙ so.long;
    long_ends = length-set ends k (place + n) ∙ so.long_ends;
    here = next ∙ ap (λ (m : ℕ). sum (take m lengths)) (sym (add-one k));
    small = omega (arith, so.small);
    begins = λ j l. begins j (last j k l);
    stops = λ j l. stops j (last j k l);
  }
    where
      begins : (j : ℕ) → (j < k) ⊎ (j ≡ k) → get_or at' j 0 ≡ sum (take j lengths)
      begins j (inl w) = get_or-set_other at k j place 0 (λ (e : j ≡ k). omega arith) ∙ so.begins j w
      begins j (inr e) = rw e (get_or-set_same at k place 0 (omega (arith, so.long)) ∙ so.here)

      stops : (j : ℕ) → (j < k) ⊎ (j ≡ k) → get_or ends' j 0 ≡ sum (take (suc j) lengths)
      stops j (inl w) = get_or-set_other ends k j (place + n) 0 (λ (e : j ≡ k). omega arith) ∙ so.stops j w
      stops j (inr e) = rw e (get_or-set_same ends k (place + n) 0 (omega (arith, so.long_ends)) ∙ next)

pub laying_all : (lengths at ends : List ℕ) (place k : ℕ) → Laying lengths at ends place k → length lengths ≤ k → Laid lengths at ends
laying_all lengths at ends place k so end = record { long = so.long; begins = λ j l. so.begins j (omega arith); stops = λ j l. so.stops j (omega arith) }
