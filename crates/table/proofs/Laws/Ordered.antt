-- A table's order, checked from the first row to the last.
-- Assumes nothing.
use mathlib.Core.Path.{◌≡◌, refl, sym, ap, ◌∙◌}
use mathlib.Core.Logic.{◌⊎◌, inl, inr}
use mathlib.Core.Bool.{Bool, true, false, not, ◌&&◌, and-false, and_assoc}
use mathlib.Core.List.{List, [], ◌∷◌, ◌++◌, reverse, reverse-append, reverse-reverse}
use Prim.Native.Nat.{ℕ, zero, suc, ◌+◌, ◌-◌, ◌*◌, ◌≤◌, ◌<◌}
use native.Mathlib.Nat.{not-suc-le-zero, le_of_suc-le-suc}
use native.Mathlib.Omega.{arith}
use lib.Dec.{eqb, leb}
use lib.ListN.{length, get_or, take, drop, replicate, length-drop, take-append-drop, length-replicate, get_or-replicate}
use lib.Seq.{take-suc, ext_get_or, get_or-drop}
use lib.Pointwise.{pointwise}
use borrow.Author.Tests.{eqb-true, eqb-false, ne_eqb, eq-eqb, leb-true, le-leb, lt-leb, leb-false}
use Rattle.std.specs.List.{list_all}
use Rattle.model.specs.declared.Cap.{Cap}
use Rattle.model.specs.Lists.{filter, any, all}
use Rattle.model.specs.Table.{empty_row, named, live_rows, lent_table, lookup, is_empty_row, live_rows_first, row_in_order, rows_in_order, in_order}
use Rattle.table.specs.Words.{cap_of, rows_in}
use Rattle.table.specs.Rows.{name_at, before, Filled, Rise, Front}
use Rattle.model.proofs.Offered.{test, clash, unless, and_both, below_differs, empty_row_empty, Rises, rises, risen, rows_in_order_wider}
use Rattle.table.proofs.Laws.Prefix.{last, before_suc, length_before}
use Rattle.table.proofs.Laws.Words.{length_in_lem}

pub rise_sub : (T : List Cap) (k i : ℕ) → i ≤ k → Rise T k → Rise T i
rise_sub T k i l r = record { positive = λ j h. r.positive j (omega arith); sorted = λ j m h g. r.sorted j m h (omega arith) }

-- the row at a name's place is the row of that name
pub lookup_place : (T : List Cap) (k r x : ℕ) → Rise T k → r < k → name_at T r ≡ x → (any (named x) (before T k) ≡ true) × (lookup x (before T k) ≡ get_or T r empty_row)
unfolding before lookup
lookup_place T zero r x s l e = absurd (not-suc-le-zero l)
lookup_place T (suc k) r x s l e = go (last r k (omega arith)) (lookup_place T k r x (rise_sub T (suc k) k (omega arith) s))
  where
    go : (r < k) ⊎ (r ≡ k) → (r < k → name_at T r ≡ x → (any (named x) (before T k) ≡ true) × (lookup x (before T k) ≡ get_or T r empty_row))
        → (any (named x) (before T (suc k)) ≡ true) × (lookup x (before T (suc k)) ≡ get_or T r empty_row)
    go (inl h) ih = let q : name_at T r < name_at T k = s.sorted r k h (omega arith) in let d : eqb x (name_at T k) ≡ false = rw (← e) (below_differs q) in let p = ih h e in (rw (d, p.0), rw (d, p.1))
    go (inr h) ih = let d : eqb x (name_at T k) ≡ true = eq-eqb x (name_at T k) (sym e ∙ ap (name_at T) h) in (rw d, rw (d, h))

-- ---- rows that rise

pub below_bound : (T : List Cap) (b k : ℕ) → rows_in_order b (before T k) ≡ true → (i : ℕ) → i < k → name_at T i < b
unfolding before
below_bound T b zero h i l = absurd (not-suc-le-zero l)
below_bound T b (suc k) h i l = let r = rises b (get_or T k empty_row) (before T k) h in go r (last i k (omega arith)) (below_bound T (name_at T k) k r.rest i)
  where
    go : Rises b (get_or T k empty_row) (before T k) → (i < k) ⊎ (i ≡ k) → (i < k → name_at T i < name_at T k) → name_at T i < b
    go r (inl s) ih = omega (arith, ih s, r.below_bound)
    go r (inr e) ih = rw e r.below_bound

sorted_in : (T : List Cap) (b k : ℕ) → rows_in_order b (before T k) ≡ true → (i j : ℕ) → i < j → j < k → name_at T i < name_at T j
unfolding before
sorted_in T b zero h i j l m = absurd (not-suc-le-zero m)
sorted_in T b (suc k) h i j l m = let r = rises b (get_or T k empty_row) (before T k) h in go r (last j k (omega arith)) (sorted_in T (name_at T k) k r.rest i j l)
  where
    go : Rises b (get_or T k empty_row) (before T k) → (j < k) ⊎ (j ≡ k) → (j < k → name_at T i < name_at T j) → name_at T i < name_at T j
    go r (inl s) ih = ih s
    go r (inr e) ih = rw e (below_bound T (name_at T k) k r.rest i (omega arith))

pub rows_in_order_rise : (T : List Cap) (b k : ℕ) → Filled T k → rows_in_order b (before T k) ≡ true → Rise T k
rows_in_order_rise T b k f h = record { positive = f; sorted = sorted_in T b k h }

-- what each row of rising rows meets
pub rows_in_order_at : (T : List Cap) (b k : ℕ) → rows_in_order b (before T k) ≡ true → (i : ℕ) → i < k → (rows_in_order (name_at T i) (before T i) ≡ true) × (row_in_order (get_or T i empty_row) (before T i) ≡ true)
unfolding before
rows_in_order_at T b zero h i l = absurd (not-suc-le-zero l)
rows_in_order_at T b (suc k) h i l = let r = rises b (get_or T k empty_row) (before T k) h in go r (last i k (omega arith)) (rows_in_order_at T (name_at T k) k r.rest i)
  where
    go : Rises b (get_or T k empty_row) (before T k) → (i < k) ⊎ (i ≡ k) → (i < k → (rows_in_order (name_at T i) (before T i) ≡ true) × (row_in_order (get_or T i empty_row) (before T i) ≡ true))
        → (rows_in_order (name_at T i) (before T i) ≡ true) × (row_in_order (get_or T i empty_row) (before T i) ≡ true)
    go r (inl s) ih = ih s
    go r (inr e) ih = rw e (r.rest, r.in_place)

-- the first i rows rise, and `last` is the least number that they rise to
pub record Checked (T : List Cap) (i last : ℕ) : Type 0 where
  pub up : rows_in_order (suc last) (before T i) ≡ true
  pub tight : (b : ℕ) → 0 < b → rows_in_order b (before T i) ≡ true → last < b

pub checked_none : (T : List Cap) → Checked T 0 0
unfolding before rows_in_order
checked_none T = record { up = refl; tight = λ b l h. l }

pub checked_more : (T : List Cap) (i m : ℕ) → Checked T i m → m < name_at T i → row_in_order (get_or T i empty_row) (before T i) ≡ true → Checked T (i + 1) (name_at T i)
checked_more T i m s l p = record {
  up = rw (before_suc T i) (risen (suc (name_at T i)) (get_or T i empty_row) (before T i) (record { below_bound = omega arith; in_place = p; rest = rows_in_order_wider (suc m) (name_at T i) (before T i) l s.up }));
  tight = λ b z h. (rises b (get_or T i empty_row) (before T i) (rw (before_suc T i) at h)).below_bound;
}

pub fails_name : (T : List Cap) (b k i m : ℕ) → Checked T i m → i < k → Filled T k → name_at T i ≤ m → rows_in_order b (before T k) ≡ false
fails_name T b k i m s l f h = unless (rows_in_order b (before T k)) (λ t. no (s.tight (name_at T i) (f i l) (rows_in_order_at T b k t i l).0))
  where
    no : m < name_at T i → ⊥
    no q = omega arith

pub fails_place : (T : List Cap) (b k i : ℕ) → i < k → row_in_order (get_or T i empty_row) (before T i) ≡ false → rows_in_order b (before T k) ≡ false
fails_place T b k i l h = unless (rows_in_order b (before T k)) (λ t. clash (rows_in_order_at T b k t i l).1 h)

pub checked_all : (T : List Cap) (k m issued : ℕ) → Checked T k m → leb m issued ≡ rows_in_order (suc issued) (before T k)
checked_all T k m issued s = go (test (leb m issued))
  where
    go : (leb m issued ≡ true) ⊎ (leb m issued ≡ false) → leb m issued ≡ rows_in_order (suc issued) (before T k)
    go (inl t) = t ∙ sym (rows_in_order_wider (suc m) (suc issued) (before T k) (omega (arith, leb-true m issued t)) s.up)
    go (inr f) = f ∙ sym (unless (rows_in_order (suc issued) (before T k)) (λ t. no (s.tight (suc issued) (omega arith) t)))
      where
        no : m < suc issued → ⊥
        no q = omega (arith, leb-false m issued f)

-- ---- the live rows stand first

full : Cap → Bool
full c = not (named 0 c)

pub live_rows_first_from : (t : List Cap) (k : ℕ) → Filled t k → (k < length t → name_at t k ≡ 0) → live_rows_first t ≡ all is_empty_row (drop k t)
unfolding live_rows_first
live_rows_first_from [] zero f s = refl
live_rows_first_from [] (suc k) f s = refl
live_rows_first_from (c ∷ t) zero f s = rw (eq-eqb 0 c.name.0 (sym (s (omega arith))))
live_rows_first_from (c ∷ t) (suc k) f s = rw (below_differs (f 0 (omega arith))) (live_rows_first_from t k (λ i l. f (suc i) (omega arith)) (λ l. s (omega arith)))

empty_row_zero : (c : Cap) → is_empty_row c ≡ true → named 0 c ≡ true
empty_row_zero c h = eq-eqb 0 c.name.0 (sym (ap (λ (d : Cap). d.name.0) (empty_row_empty c h)))

filter_from : (t : List Cap) (k : ℕ) → Filled t k → all is_empty_row (drop k t) ≡ true → k ≤ length t → filter (λ c. not (named 0 c)) t ≡ take k t
filter_from [] zero f b l = refl
filter_from [] (suc k) f b l = absurd (not-suc-le-zero l)
filter_from (c ∷ t) zero f b l = let p = and_both (is_empty_row c) (all is_empty_row t) b in rw (empty_row_zero c p.0) (filter_from t zero (λ i m. absurd (omega arith)) p.1 (omega arith))
filter_from (c ∷ t) (suc k) f b l = rw (below_differs (f 0 (omega arith)), filter_from t k (λ i m. f (suc i) (omega arith)) b (le_of_suc-le-suc l))

pub before_reverse : (T : List Cap) (k : ℕ) → k ≤ length T → reverse (take k T) ≡ before T k
unfolding before
before_reverse T zero l = refl
before_reverse T (suc k) l = rw (take-suc T k empty_row, reverse-append, before_reverse T k (omega arith))

-- rows that stand first, and zeros after them
pub before_lent : (T : List Cap) (n r : ℕ) → r ≤ n → length T ≡ n → ((j : ℕ) → r ≤ j → j < n → get_or T j empty_row ≡ empty_row) → T ≡ lent_table n (before T r)
unfolding lent_table
before_lent T n r b l z =
    sym (take-append-drop r T)
    ∙ rw (← before_reverse T r (omega arith), reverse-reverse (take r T), before_reverse T r (omega arith), length_before T r) (ap (λ (m : List Cap). take r T ++ m) zeros)
  where
    long : length (drop r T) ≡ n - r
    long = omega (arith, length-drop r T)

    zeros : drop r T ≡ replicate (n - r) empty_row
    zeros = ext_get_or empty_row (drop r T) (replicate (n - r) empty_row) (long ∙ sym (length-replicate (n - r) empty_row)) (λ j h.
        let s : j < n - r = omega (arith, long) in
        get_or-drop r T j empty_row ∙ z (r + j) (omega arith) (omega arith) ∙ sym (get_or-replicate (n - r) j empty_row empty_row s))

-- a row of words that are all zeros
zeros : (w : List ℕ) → length w ≡ 11 → pointwise eqb w (replicate 11 0) ≡ is_empty_row (cap_of w)
unfolding is_empty_row
zeros (a ∷ b ∷ c ∷ d ∷ e ∷ f ∷ g ∷ h ∷ i ∷ j ∷ k ∷ []) l = rw (halves j k) (simp and_assoc)
  where
    halves : (low high : ℕ) → eqb (low + high * 4294967296) 0 ≡ eqb low 0 && (eqb high 0 && true)
    halves low high = go (test (eqb low 0)) (test (eqb high 0))
      where
        go : (eqb low 0 ≡ true) ⊎ (eqb low 0 ≡ false) → (eqb high 0 ≡ true) ⊎ (eqb high 0 ≡ false) → eqb (low + high * 4294967296) 0 ≡ eqb low 0 && (eqb high 0 && true)
        go (inl p) (inl q) = rw (p, q) (eq-eqb (low + high * 4294967296) 0 (omega (arith, eqb-true low 0 p, eqb-true high 0 q)))
        go (inl p) (inr q) = rw (p, q) (ne_eqb (low + high * 4294967296) 0 (λ e. eqb-false high 0 q (omega arith)))
        go (inr p) q = rw p (ne_eqb (low + high * 4294967296) 0 (λ e. eqb-false low 0 p (omega arith)))
zeros ([]) l = absurd (omega arith)
zeros (a ∷ []) l = absurd (omega arith)
zeros (a ∷ b ∷ []) l = absurd (omega arith)
zeros (a ∷ b ∷ c ∷ []) l = absurd (omega arith)
zeros (a ∷ b ∷ c ∷ d ∷ []) l = absurd (omega arith)
zeros (a ∷ b ∷ c ∷ d ∷ e ∷ []) l = absurd (omega arith)
zeros (a ∷ b ∷ c ∷ d ∷ e ∷ f ∷ []) l = absurd (omega arith)
zeros (a ∷ b ∷ c ∷ d ∷ e ∷ f ∷ g ∷ []) l = absurd (omega arith)
zeros (a ∷ b ∷ c ∷ d ∷ e ∷ f ∷ g ∷ h ∷ []) l = absurd (omega arith)
zeros (a ∷ b ∷ c ∷ d ∷ e ∷ f ∷ g ∷ h ∷ i ∷ []) l = absurd (omega arith)
zeros (a ∷ b ∷ c ∷ d ∷ e ∷ f ∷ g ∷ h ∷ i ∷ j ∷ []) l = absurd (omega arith)
zeros (a ∷ b ∷ c ∷ d ∷ e ∷ f ∷ g ∷ h ∷ i ∷ j ∷ k ∷ m ∷ w) l = absurd (omega arith)

pub empty_rows : (ws : List (List ℕ)) → ((i : ℕ) → i < length ws → length (get_or ws i []) ≡ 11) → (k : ℕ) → list_all (λ w. pointwise eqb w (replicate 11 0)) (drop k ws) ≡ all is_empty_row (drop k (rows_in ws))
unfolding rows_in
empty_rows [] h zero = refl
empty_rows [] h (suc k) = refl
empty_rows (w ∷ ws) h zero = rw (zeros w (h 0 (omega arith))) (ap (◌&&◌ (is_empty_row (cap_of w))) (empty_rows ws (λ i l. h (suc i) (omega arith)) 0))
empty_rows (w ∷ ws) h (suc k) = empty_rows ws (λ i l. h (suc i) (omega arith)) k

-- k of the n rows are live
module _ (T : List Cap) (n k : ℕ) (h : Front T n k) (l : length T ≡ n) where
  pub live_rows_first_front : live_rows_first T ≡ all is_empty_row (drop k T)
  live_rows_first_front = live_rows_first_from T k h.filled (λ m. h.stop (omega arith))

  pub live_front : all is_empty_row (drop k T) ≡ true → live_rows T ≡ before T k
  unfolding live_rows
  live_front b = rw (filter_from T k h.filled b (omega (arith, h.fits))) (before_reverse T k (omega (arith, h.fits)))

  pub order_names : (issued : ℕ) → 1000000 < issued → in_order T issued ≡ false
  unfolding in_order
  order_names issued m = rw (lt-leb issued 1000000 m, and-false)

  pub order_zeros : (issued : ℕ) → all is_empty_row (drop k T) ≡ false → in_order T issued ≡ false
  unfolding in_order
  order_zeros issued b = rw (live_rows_first_front, b, and-false)

  pub order_rest : (issued : ℕ) → n ≤ 1024 → issued ≤ 1000000 → all is_empty_row (drop k T) ≡ true → in_order T issued ≡ rows_in_order (suc issued) (before T k)
  unfolding in_order
  order_rest issued m i b = rw (le-leb (length T) 1024 (omega arith), live_rows_first_front, b, le-leb issued 1000000 i, live_front b)

-- a table of more than 1,024 rows is not in order
pub too_many : (ws : List (List ℕ)) (issued : ℕ) → 1024 < length ws → in_order (rows_in ws) issued ≡ false
unfolding in_order
too_many ws issued l = rw (length_in_lem ws, lt-leb (length ws) 1024 l)
