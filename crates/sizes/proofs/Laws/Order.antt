-- The lines in turn, as they are taken, are those of the second wording; and no report has a client above 8 or a line beyond a client's length.
-- Assumes nothing.
use mathlib.Core.Path.{◌≡◌, refl, sym, ap, subst, ◌∙◌}
use mathlib.Core.Logic.{◌⊎◌, inl, inr}
use mathlib.Core.Bool.{Bool, true, false, cond}
use mathlib.Core.List.{List, [], ◌∷◌, ◌++◌, map}
use Prim.Native.Nat.{ℕ, zero, suc, ◌+◌, ◌≤◌, ◌<◌}
use native.Mathlib.Omega.{arith}
use lib.Dec.{eqb}
use lib.ListN.{length, get_or, take, drop, length-map, length-take}
use lib.Seq.{take_all}
use borrow.Author.Tests.{eqb-true, eq-eqb, ne_eqb}
use Rattle.model.specs.Lists.{cons_if}
use Rattle.model.proofs.Offered.{All, All_append, All_map, test}
use Rattle.text.specs.Line.{lines_of, parts_of}
use Rattle.sizes.specs.Turns.{Turn, turn, texts, one_round, behind, rounds, longest, turns}
use Rattle.sizes.specs.Clients.{Shared, Stop, stop, fresh, refusal, after, outcome}
use Rattle.sizes.specs.Report as report
use Rattle.sizes.specs.Report.{fits, all_allowed, fewest, sizing, word, report_words}
use Rattle.sizes.specs.Order.{numbered, of_client, Earlier, BeforeAll, Rises, InTurn}
use Rattle.sizes.proofs.Laws.Turns.{lines_few}
use Rattle.sizes.proofs.Laws.Laid.{fit_few}
use Rattle.sizes.proofs.Laws.Peak.{peak_fits, fewest_peak}

-- ---- lists

of_append : (client : ℕ) (ts us : List Turn) → of_client client (ts ++ us) ≡ of_client client ts ++ of_client client us
of_append client [] us = refl
of_append client (t ∷ ts) us = go (eqb t.client client) (of_append client ts us)
  where
    go : (b : Bool) → of_client client (ts ++ us) ≡ of_client client ts ++ of_client client us → cons_if b t (of_client client (ts ++ us)) ≡ cons_if b t (of_client client ts) ++ of_client client us
    go true e = ap (λ (l : List Turn). t ∷ l) e
    go false e = e

before_all : (t : Turn) (us : List Turn) → All (Earlier t) us → BeforeAll t us
before_all t [] a = tt
before_all t (u ∷ us) a = (a.0, before_all t us a.1)

before_both : (t : Turn) (us vs : List Turn) → BeforeAll t us → BeforeAll t vs → BeforeAll t (us ++ vs)
before_both t [] vs a b = b
before_both t (u ∷ us) vs a b = (a.0, before_both t us vs a.1 b)

rises_append : (ts us : List Turn) → Rises ts → Rises us → All (λ t. BeforeAll t us) ts → Rises (ts ++ us)
rises_append [] us a b c = b
rises_append (t ∷ ts) us a b c = (before_both t ts us a.0 c.0, rises_append ts us a.1 b c.1)

-- ---- a round

-- the turns of a round have its number, and clients from the first on
abbrev From : ℕ → ℕ → ℕ → Turn → Type 0
From client number n t = (t.number ≡ number) × (client ≤ t.client) × (t.client < client + n)

round_from : (left : List (List (List ℕ))) (client number : ℕ) → All (From client number (length left)) (one_round client number left)
unfolding one_round
round_from [] client number = tt
round_from ([] ∷ others) client number = All_map _ _ (λ t f. (f.0, omega (arith, f.1), omega (arith, f.2))) (one_round (suc client) number others) (round_from others (suc client) number)
round_from ((line ∷ lines) ∷ others) client number =
    ((refl, omega arith, omega arith), All_map _ _ (λ t f. (f.0, omega (arith, f.1), omega (arith, f.2))) (one_round (suc client) number others) (round_from others (suc client) number))

round_rises : (left : List (List (List ℕ))) (client number : ℕ) → Rises (one_round client number left)
unfolding one_round
round_rises [] client number = tt
round_rises ([] ∷ others) client number = round_rises others (suc client) number
round_rises ((line ∷ lines) ∷ others) client number =
    (before_all (turn client number line) (one_round (suc client) number others) (All_map _ _ (λ t f. inr (sym f.0, omega (arith, f.1))) (one_round (suc client) number others) (round_from others (suc client) number)), round_rises others (suc client) number)

-- none of another client's
round_none : (left : List (List (List ℕ))) (k client number : ℕ) → client < k → of_client client (one_round k number left) ≡ []
unfolding one_round
round_none [] k client number l = refl
round_none ([] ∷ others) k client number l = round_none others (suc k) client number (omega arith)
round_none ((line ∷ lines) ∷ others) k client number l = rw (ne_eqb k client (λ (e : k ≡ client). omega arith)) (round_none others (suc k) client number (omega arith))

-- a client's next line
abbrev next : ℕ → ℕ → List (List ℕ) → List Turn
next client number lines = numbered client number (take 1 lines)

round_of_lem : (left : List (List (List ℕ))) (k i number : ℕ) → of_client (k + i) (one_round k number left) ≡ next (k + i) number (get_or left i [])
unfolding one_round
round_of_lem [] k i number = refl
round_of_lem ([] ∷ others) k zero number = round_none others (suc k) (k + 0) number (omega arith)
round_of_lem ([] ∷ others) k (suc i) number = let e : suc k + i ≡ k + suc i = omega arith in subst (λ (c : ℕ). of_client c (one_round (suc k) number others) ≡ next c number (get_or others i [])) e (round_of_lem others (suc k) i number)
round_of_lem ((line ∷ lines) ∷ others) k zero number =
    let e : k ≡ k + 0 = omega arith in
    rw (eq-eqb k (k + 0) e, round_none others (suc k) (k + 0) number (omega arith)) (ap (λ (c : ℕ). turn c number line ∷ []) e)
round_of_lem ((line ∷ lines) ∷ others) k (suc i) number =
    let e : suc k + i ≡ k + suc i = omega arith in
    rw (ne_eqb k (k + suc i) (λ (q : k ≡ k + suc i). omega arith)) (subst (λ (c : ℕ). of_client c (one_round (suc k) number others) ≡ next c number (get_or others i [])) e (round_of_lem others (suc k) i number))

-- ---- all rounds

rounds_from : (more number : ℕ) (left : List (List (List ℕ))) → All (λ t. (number ≤ t.number) × (t.number < number + more) × (1 ≤ t.client) × (t.client ≤ length left)) (rounds more number left)
unfolding rounds
rounds_from zero number left = tt
rounds_from (suc more) number left =
    All_append _ (one_round 1 number left) (rounds more (suc number) (map behind left))
    (All_map _ _ (λ t f. (omega (arith, f.0), omega (arith, f.0), f.1, omega (arith, f.2))) (one_round 1 number left) (round_from left 1 number))
    (All_map _ _ (λ t f. (omega (arith, f.0), omega (arith, f.1), f.2, omega (arith, f.3, length-map left behind))) (rounds more (suc number) (map behind left)) (rounds_from more (suc number) (map behind left)))

rounds_rise : (more number : ℕ) (left : List (List (List ℕ))) → Rises (rounds more number left)
unfolding rounds
rounds_rise zero number left = tt
rounds_rise (suc more) number left =
    rises_append (one_round 1 number left) (rounds more (suc number) (map behind left)) (round_rises left 1 number) (rounds_rise more (suc number) (map behind left))
    (All_map _ _ (λ t f. before_all t (rounds more (suc number) (map behind left)) (All_map _ _ (λ u g. inl (omega (arith, f.0, g.0))) (rounds more (suc number) (map behind left)) (rounds_from more (suc number) (map behind left)))) (one_round 1 number left) (round_from left 1 number))

behind_at : (left : List (List (List ℕ))) (i : ℕ) → get_or (map behind left) i [] ≡ behind (get_or left i [])
behind_at [] i = refl
behind_at (lines ∷ left) zero = refl
behind_at (lines ∷ left) (suc i) = behind_at left i

rounds_of : (more number : ℕ) (left : List (List (List ℕ))) (k : ℕ) → of_client (suc k) (rounds more number left) ≡ numbered (suc k) number (take more (get_or left k []))
unfolding rounds
rounds_of zero number left k = refl
rounds_of (suc more) number left k =
    let e : 1 + k ≡ suc k = omega arith in
    let first : of_client (suc k) (one_round 1 number left) ≡ next (suc k) number (get_or left k []) = subst (λ (c : ℕ). of_client c (one_round 1 number left) ≡ next c number (get_or left k [])) e (round_of_lem left 1 k number) in
    of_append (suc k) (one_round 1 number left) (rounds more (suc number) (map behind left))
    ∙ (λ j. first j ++ (rounds_of more (suc number) (map behind left) k ∙ ap (λ (l : List (List ℕ)). numbered (suc k) (suc number) (take more l)) (behind_at left k)) j)
    ∙ joined (get_or left k [])
  where
    joined : (l : List (List ℕ)) → next (suc k) number l ++ numbered (suc k) (suc number) (take more (behind l)) ≡ numbered (suc k) number (take (suc more) l)
    joined [] = ap (λ (m : List (List ℕ)). numbered (suc k) (suc number) m) (none more)
      where
        none : (n : ℕ) → take {A = List ℕ} n [] ≡ []
        none zero = refl
        none (suc n) = refl
    joined (line ∷ lines) = refl

-- no client's trace is longer than the longest
at_most : (left : List (List (List ℕ))) (k : ℕ) → length (get_or left k []) ≤ longest left
unfolding longest
at_most [] k = omega arith
at_most (lines ∷ left) zero = omega arith
at_most (lines ∷ left) (suc k) = omega (arith, at_most left k)

-- no client is 0
rounds_none : (more number : ℕ) (left : List (List (List ℕ))) → of_client 0 (rounds more number left) ≡ []
unfolding rounds
rounds_none zero number left = refl
rounds_none (suc more) number left =
    of_append 0 (one_round 1 number left) (rounds more (suc number) (map behind left))
    ∙ (λ j. round_none left 1 0 number (omega arith) j ++ rounds_none more (suc number) (map behind left) j)

lines_at : (parts : List (List ℕ)) (k : ℕ) → get_or (map lines_of parts) k [] ≡ lines_of (get_or parts k [])
unfolding parts_of
lines_at [] k = refl
lines_at (t ∷ parts) zero = refl
lines_at (t ∷ parts) (suc k) = lines_at parts k

-- "lines are taken singly in turn from client 1, finished clients are passed over"
pub in_turn_lem : (text lengths : List ℕ) → InTurn text lengths (turns text lengths)
in_turn_lem text lengths = record {
  each = λ k. let left = map lines_of (texts text lengths) in
      rounds_of (longest left) 1 left k
      ∙ ap (numbered (suc k) 1) (take_all (longest left) (get_or left k []) (at_most left k) ∙ lines_at (texts text lengths) k);
  none = let left = map lines_of (texts text lengths) in rounds_none (longest left) 1 left;
  rises = let left = map lines_of (texts text lengths) in rounds_rise (longest left) 1 left;
}

-- ---- what a report holds

-- a run stops at one of its lines
stop_at : (P : ℕ → ℕ → Type 0) → P 0 0 → (ts : List Turn) (h : Shared) → All (λ t. P t.client t.number) ts → P (outcome h ts).client (outcome h ts).line
unfolding outcome
stop_at P z [] h a = z
stop_at P z (t ∷ ts) h a = go (eqb (refusal h t) 0) (stop_at P z ts (after h t) a.1)
  where
    go : (b : Bool) → P (outcome (after h t) ts).client (outcome (after h t) ts).line
        → P (cond b (outcome (after h t) ts) (stop (refusal h t) t.client t.number)).client (cond b (outcome (after h t) ts) (stop (refusal h t) t.client t.number)).line
    go true p = p
    go false p = a.0

-- a client's trace has no more lines than its length says
longest_fits : (text lengths : List ℕ) (most : ℕ) → All (λ n. n ≤ most) lengths → longest (map lines_of (texts text lengths)) ≤ most
unfolding texts longest
longest_fits text [] most a = omega arith
longest_fits text (n ∷ lengths) most a = omega (arith, lines_few (take n text), length-take n text, a.0, longest_fits (drop n text) lengths most a.1)

texts_many : (text lengths : List ℕ) → length (texts text lengths) ≡ length lengths
unfolding texts
texts_many text [] = refl
texts_many text (n ∷ lengths) = ap suc (texts_many (drop n text) lengths)

-- Where no length is above `most`, which of 32 bits none is, a refused line's number is not either, and its client is at most the 8th; so nothing
-- is lost where these are given in 32 bits.
pub report_fits : (text lengths : List ℕ) (most : ℕ) (s : Stop) → All (λ n. n ≤ most) lengths → sizing text lengths ≡ report.refused s → (s.client ≤ 8) × (s.line ≤ most)
unfolding sizing
report_fits text lengths most s a e = go (test (fits text lengths))
  where
    same : {r t : Stop} → report.refused r ≡ report.refused t → r ≡ t
    same p = cc

    go : (fits text lengths ≡ true) ⊎ (fits text lengths ≡ false) → (s.client ≤ 8) × (s.line ≤ most)
    go (inr f) = let z : report.refused (stop 2 0 0) ≡ report.refused s = rw f at e in let q = same z in (omega (arith, ap (λ (t : Stop). t.client) q), omega (arith, ap (λ (t : Stop). t.line) q))
    go (inl t) = stopped (test (all_allowed 1024 (turns text lengths)))
      where
        few : length lengths ≤ 8
        few = fit_few text lengths t

        bounded : ((outcome (fresh 1024) (turns text lengths)).client ≤ 8) × ((outcome (fresh 1024) (turns text lengths)).line ≤ most)
        bounded =
            let left = map lines_of (texts text lengths) in
            stop_at (λ c n. (c ≤ 8) × (n ≤ most)) (omega arith, omega arith) (turns text lengths) (fresh 1024)
            (All_map _ _ (λ t f. (omega (arith, few, f.3, length-map (texts text lengths) lines_of, texts_many text lengths), omega (arith, f.1, longest_fits text lengths most a))) (turns text lengths) (rounds_from (longest left) 1 left))

        stopped : (all_allowed 1024 (turns text lengths) ≡ true) ⊎ (all_allowed 1024 (turns text lengths) ≡ false) → (s.client ≤ 8) × (s.line ≤ most)
        stopped (inl y) = absurd (let z : report.rows (fewest (turns text lengths)) ≡ report.refused s = rw (t, y) at e in let o : ◌≡◌ {A = ℕ} 0 1 = cc in omega arith)
        stopped (inr n) =
            let z : report.refused (outcome (fresh 1024) (turns text lengths)) ≡ report.refused s = rw (t, n) at e in
            subst (λ (r : Stop). (r.client ≤ 8) × (r.line ≤ most)) (same z) bounded

-- the rows that are reported are at most 1,024
rows_few : (text lengths : List ℕ) (n : ℕ) → sizing text lengths ≡ report.rows n → n ≤ 1024
unfolding sizing
rows_few text lengths n e = go (test (fits text lengths)) (test (all_allowed 1024 (turns text lengths)))
  where
    go : (fits text lengths ≡ true) ⊎ (fits text lengths ≡ false) → (all_allowed 1024 (turns text lengths) ≡ true) ⊎ (all_allowed 1024 (turns text lengths) ≡ false) → n ≤ 1024
    go (inr f) b = absurd (let z : report.refused (stop 2 0 0) ≡ report.rows n = rw f at e in let o : ◌≡◌ {A = ℕ} 0 1 = cc in omega arith)
    go (inl t) (inr f) = absurd (let z : report.refused (outcome (fresh 1024) (turns text lengths)) ≡ report.rows n = rw (t, f) at e in let o : ◌≡◌ {A = ℕ} 0 1 = cc in omega arith)
    go (inl t) (inl y) =
        let z : report.rows (fewest (turns text lengths)) ≡ report.rows n = rw (t, y) at e in
        let same : fewest (turns text lengths) ≡ n = cc in
        let q = eqb-true (outcome (fresh 1024) (turns text lengths)).refusal 0 y in
        omega (arith, same, fewest_peak (turns text lengths) q, peak_fits (turns text lengths) q)

-- So its words are the numbers themselves.
pub words_whole : (text lengths : List ℕ) → All (λ n. n ≤ 4294967295) lengths
    → ((s : Stop) → sizing text lengths ≡ report.refused s → report_words (report.refused s) ≡ s.refusal ∷ 0 ∷ s.client ∷ s.line ∷ [])
    × ((n : ℕ) → sizing text lengths ≡ report.rows n → report_words (report.rows n) ≡ 0 ∷ n ∷ 0 ∷ 0 ∷ [])
words_whole text lengths a = (refusal_whole, rows_whole)
  where
    refusal_whole : (s : Stop) → sizing text lengths ≡ report.refused s → report_words (report.refused s) ≡ s.refusal ∷ 0 ∷ s.client ∷ s.line ∷ []
    refusal_whole s e =
        let f = report_fits text lengths 4294967295 s a e in
        let c : word s.client ≡ s.client = omega (arith, f.0) in
        let l : word s.line ≡ s.line = omega (arith, f.1) in
        λ j. s.refusal ∷ 0 ∷ c j ∷ l j ∷ []

    rows_whole : (n : ℕ) → sizing text lengths ≡ report.rows n → report_words (report.rows n) ≡ 0 ∷ n ∷ 0 ∷ 0 ∷ []
    rows_whole n e = let r : word n ≡ n = omega (arith, rows_few text lengths n e) in λ j. 0 ∷ r j ∷ 0 ∷ 0 ∷ []
