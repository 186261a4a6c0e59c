-- Rows counted by their makers, row by row, and a sheet of limits against the counts.
-- Assumes nothing.
use mathlib.Core.Path.{◌≡◌, refl, sym, ap, ◌∙◌}
use mathlib.Core.Logic.{◌⊎◌, inl, inr}
use mathlib.Core.Bool.{Bool, true, false, not, cond, ◌&&◌, ◌||◌}
use mathlib.Core.List.{List, [], ◌∷◌}
use Prim.Native.Nat.{ℕ, zero, suc, ◌+◌, ◌≤◌, ◌<◌}
use native.Mathlib.Numerals.{add-one}
use native.Mathlib.Omega.{arith}
use lib.Dec.{eqb, leb, ltb}
use lib.ListN.{length, get_or, set, take, drop, replicate, length-set, length-replicate}
use lib.Seq.{drop-cons, get_or-set_same, get_or-set_other}
use borrow.Author.Tests.{lt-leb, le-leb, ltb-false, eqb-true, eqb-false, eq-eqb, ne_eqb, le-ltb, lt-ltb, ltb-true}
use Rattle.std.specs.List.{count_by, list_all, zip}
use Rattle.std.specs.List
use Rattle.std.proofs.lemmas.List.Sums.{sum_by-cons, sum_by_more}
use Rattle.model.specs.declared.Cap.{Cap}
use Rattle.model.specs.Lists.{cons_if, filter}
use Rattle.model.specs.Table.{empty_row, derivation, live_rows}
use Rattle.model.specs.Requests.{Limited}
use Rattle.model.specs.Limits.{made_by, made, sum, exceeds, refused_sheet, limit_reached, no_row}
use Rattle.model.proofs.Offered.{test, fitting, place, length_filter}
use Rattle.table.specs.Words.{cap_of, rows_in}
use Rattle.table.specs.Rows.{before, Orderly}
use Rattle.table.specs.Limits.{limits_in, Makers, Counts, exceeds_by}
use Rattle.table.proofs.Laws.Prefix.{before_suc, length_before}
use Rattle.table.proofs.Laws.Words.{in_at}
use Rattle.table.proofs.Laws.Judge.{orderly_row}

-- ---- one domain

none_made : (T : List Cap) (d : ℕ) → 0 ≡ made d (before T 0)
unfolding before
none_made T d = refl

-- one row more
pub made_more : (T : List Cap) (i d : ℕ) → made d (before T (i + 1)) ≡ cond (eqb d (get_or T i empty_row).maker) (suc (made d (before T i))) (made d (before T i))
made_more T i d = ap (made d) (before_suc T i) ∙ go (made_by d (get_or T i empty_row))
  where
    go : (b : Bool) → length (cons_if b (get_or T i empty_row) (filter (made_by d) (before T i))) ≡ cond b (suc (made d (before T i))) (made d (before T i))
    go true = refl
    go false = refl

-- the rows of words that are the domain's
pub made_counted : (ws : List (List ℕ)) (d k : ℕ) → k ≤ length ws → count_by (λ w. eqb (cap_of w).maker d) (take k ws) ≡ made d (before (rows_in ws) k)
made_counted ws d zero l = none_made (rows_in ws) d
made_counted ws d (suc k) l = rw add-one at (more (made_counted ws d k (omega arith)))
  where
    T : List Cap
    T = rows_in ws

    one_more : (m n : ℕ) → n + cond (eqb m d) 1 0 ≡ cond (eqb d m) (suc n) n
    one_more m n = go (test (eqb m d))
      where
        go : (eqb m d ≡ true) ⊎ (eqb m d ≡ false) → n + cond (eqb m d) 1 0 ≡ cond (eqb d m) (suc n) n
        go (inl t) = rw (t, eq-eqb d m (sym (eqb-true m d t))) (add-one n)
        go (inr f) = rw (f, ne_eqb d m (λ e. eqb-false m d f (sym e))) (omega arith)

    more : count_by (λ w. eqb (cap_of w).maker d) (take k ws) ≡ made d (before T k) → count_by (λ w. eqb (cap_of w).maker d) (take (k + 1) ws) ≡ made d (before T (k + 1))
    more e =
        sum_by_more (λ w. cond (eqb (cap_of w).maker d) 1 0) ws k [] (omega arith)
        ∙ ap (λ (n : ℕ). n + cond (eqb (cap_of (get_or ws k [])).maker d) 1 0) e
        ∙ one_more (cap_of (get_or ws k [])).maker (made d (before T k))
        ∙ ap (λ (r : Cap). cond (eqb d r.maker) (suc (made d (before T k))) (made d (before T k))) (sym (in_at ws k))
        ∙ sym (made_more T k d)

pub made_few : (T : List Cap) (i d : ℕ) → made d (before T i) ≤ i
made_few T i d = omega (arith, length_filter (made_by d) (before T i), length_before T i)

-- the makers of rows in order are domains
pub orderly_makers : (T : List Cap) (n k issued : ℕ) → Orderly T n k issued → Makers T k
orderly_makers T n k issued o i l =
    ltb-true (get_or T i empty_row).maker 64 (fitting (derivation (get_or T i empty_row)) (place (get_or T i empty_row) (before T i) (orderly_row T n k issued o i l)).has_terms).has_domain

-- ---- all domains

pub counts_none : (T : List Cap) → Counts T 0 (replicate 64 0)
unfolding before
counts_none T = record { all_domains = length-replicate {A = ℕ} 64 0; each = λ d l. zeros 64 d }
  where
    zeros : (n d : ℕ) → ◌≡◌ {A = ℕ} (get_or (replicate n 0) d 0) 0
    zeros zero d = refl
    zeros (suc n) zero = refl
    zeros (suc n) (suc d) = zeros n d

pub counts_more : (T : List Cap) (i : ℕ) (counts : List ℕ) → Counts T i counts → (get_or T i empty_row).maker < 64
    → Counts T (i + 1) (set counts (get_or T i empty_row).maker (suc (get_or counts (get_or T i empty_row).maker 0)))
counts_more T i counts c l = record { all_domains = length-set counts m (suc (get_or counts m 0)) ∙ c.all_domains; each = λ d b. made_more_at d b (test (eqb d m)) }
  where
    m : ℕ
    m = (get_or T i empty_row).maker

    made_more_at : (d : ℕ) → d < 64 → (eqb d m ≡ true) ⊎ (eqb d m ≡ false) → get_or (set counts m (suc (get_or counts m 0))) d 0 ≡ made d (before T (i + 1))
    made_more_at d b (inl t) =
        let e : d ≡ m = eqb-true d m t in
        rw (e, get_or-set_same counts m (suc (get_or counts m 0)) 0 (omega (arith, c.all_domains)), c.each m l) (sym (made_more T i m ∙ rw (eq-eqb m m refl)))
    made_more_at d b (inr f) = rw (get_or-set_other counts m d (suc (get_or counts m 0)) 0 (eqb-false d m f), c.each d b) (sym (made_more T i d ∙ rw f))

-- ---- a sheet against the counts

module _ (T : List Cap) (k : ℕ) (counts : List ℕ) (c : Counts T k counts) where
  pub exceeds_counts : (limits : List ℕ) (d : ℕ) → d + length limits ≡ 64 → exceeds_by d counts limits ≡ exceeds d (before T k) limits
  unfolding exceeds_by exceeds
  exceeds_counts [] d e = refl
  exceeds_counts (l ∷ limits) d e = rw (c.each d (omega arith), exceeds_counts limits (suc d) (omega arith))

-- each limit is kept
pub exceeds_each : (counts limits : List ℕ) (d : ℕ) → d + length limits ≡ length counts → list_all (λ p. leb p.1 p.0) (zip limits (drop d counts)) ≡ not (exceeds_by d counts limits)
unfolding exceeds_by
exceeds_each counts [] d e = refl
exceeds_each counts (l ∷ limits) d e =
    let h : d < length counts = omega arith in
    rw (drop-cons counts d 0 h, exceeds_each counts limits (suc d) (omega arith), kept l (get_or counts d 0)) (neither (ltb l (get_or counts d 0)) (exceeds_by (suc d) counts limits))
  where
    kept : (l n : ℕ) → leb n l ≡ not (ltb l n)
    kept l n = go (test (ltb l n))
      where
        go : (ltb l n ≡ true) ⊎ (ltb l n ≡ false) → leb n l ≡ not (ltb l n)
        go (inl t) = rw (t, lt-leb n l (ltb-true l n t))
        go (inr f) = rw (f, le-leb n l (ltb-false l n f))

    neither : (p q : Bool) → not p && not q ≡ not (p || q)
    neither true q = refl
    neither false q = refl

pub exceeds_none : (rows : List Cap) (limits : List ℕ) (d : ℕ) → length limits ≡ 0 → exceeds d rows limits ≡ false
unfolding exceeds
exceeds_none rows [] d e = refl
exceeds_none rows (l ∷ limits) d e = absurd (let z : suc (length limits) ≡ 0 = e in omega arith)

pub sum_same : (limits : List ℕ) → Rattle.std.specs.List.sum limits ≡ sum limits
sum_same [] = refl
sum_same (l ∷ limits) = sum_by-cons (λ x. x) l limits ∙ ap (λ (s : ℕ). l + s) (sum_same limits)

-- ---- the sheet that is lent

lent_some : (limits : List ℕ) → (length limits ≡ 0 → ⊥) → limits_in limits ≡ Limited limits
lent_some [] h = absurd (h refl)
lent_some (l ∷ limits) h = refl

module _ (T : List Cap) (limits : List ℕ) where
  pub none_refused : length limits ≡ 0 → refused_sheet T (limits_in limits) ≡ false
  unfolding refused_sheet
  none_refused e = go limits e
    where
      go : (limits : List ℕ) → length limits ≡ 0 → refused_sheet T (limits_in limits) ≡ false
      go [] e = refl
      go (l ∷ limits) e = absurd (let z : suc (length limits) ≡ 0 = e in omega arith)

  module _ (some : length limits ≡ 0 → ⊥) where
    pub length_refused : (length limits ≡ 64 → ⊥) → refused_sheet T (limits_in limits) ≡ true
    unfolding refused_sheet
    length_refused h = rw (lent_some limits some, ne_eqb (length limits) 64 h)

    module _ (e : length limits ≡ 64) where
      pub sum_refused : length T < sum limits → refused_sheet T (limits_in limits) ≡ true
      unfolding refused_sheet
      sum_refused l = rw (lent_some limits some, eq-eqb (length limits) 64 e, lt-ltb (length T) (sum limits) l)

      pub exceeded_refused : sum limits ≤ length T → refused_sheet T (limits_in limits) ≡ exceeds 0 (live_rows T) limits
      unfolding refused_sheet
      exceeded_refused l = rw (lent_some limits some, eq-eqb (length limits) 64 e, le-ltb (length T) (sum limits) l)

-- ---- a row more, by 10 or 18

module _ (rows : List Cap) (size : ℕ) (limits : List ℕ) (actor : ℕ) where
  pub unlimited_row : length limits ≡ 0 → (no_row (limits_in limits) rows size ≡ leb size (length rows)) × (limit_reached (limits_in limits) rows actor ≡ false)
  unfolding no_row limit_reached
  unlimited_row e = go limits e
    where
      go : (limits : List ℕ) → length limits ≡ 0 → (no_row (limits_in limits) rows size ≡ leb size (length rows)) × (limit_reached (limits_in limits) rows actor ≡ false)
      go [] e = (refl, refl)
      go (l ∷ limits) e = absurd (let z : suc (length limits) ≡ 0 = e in omega arith)

  pub limited_row : (length limits ≡ 0 → ⊥) → (no_row (limits_in limits) rows size ≡ false) × (limit_reached (limits_in limits) rows actor ≡ leb (get_or limits actor 0) (made actor rows))
  unfolding no_row limit_reached
  limited_row h = rw (lent_some limits h) (refl, refl)
