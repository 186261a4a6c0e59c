-- A run that is allowed goes by the requests that its lines read as, in either of the two spellings.
-- Assumes nothing.
use mathlib.Core.Path.{◌≡◌, refl, sym, ap, ◌∙◌}
use mathlib.Core.Logic.{◌⊎◌, inl, inr}
use mathlib.Core.Bool.{Bool, true, false, cond, ◌&&◌}
use mathlib.Core.List.{List, [], ◌∷◌, ◌++◌}
use Prim.Native.Nat.{ℕ, suc, ◌+◌}
use native.Mathlib.Nat.{add-zero}
use native.Mathlib.Omega.{arith}
use lib.Dec.{eqb}
use lib.ListN.{length}
use borrow.Author.Tests.{eq-eqb}
use Rattle.model.specs.declared.Sheet.{Sheet}
use Rattle.model.specs.Lists.{all, answers, final}
use Rattle.model.specs.Requests.{Limits, Request}
use Rattle.model.specs.Step.{State, is_allowed, answer, after}
use Rattle.model.proofs.Offered.{test, clash, and_both}
use Rattle.text.specs.Read.{same}
use Rattle.text.specs.Result.{Result, value, refused}
use Rattle.text.specs.Request.{read_request}
use Rattle.text.specs.declared.spelling.Spelling.{Spelling}
use Rattle.text.specs.declared.spelling.Spelling.TheVariants.{Plain, Named}
use Rattle.text.proofs.Offered.{refused_request_is_2, same_true, same_refl}
use Rattle.trace.specs.Run.{header, Ran, Taken, Checker, take_read, run_lines, run_trace, lent}
use Rattle.trace.proofs.Laws.Spellings.{header_misread}

-- ---- lines that are allowed

-- a line reads as a request
abbrev pub is_request : Result Request → Bool
is_request (value q) = true
is_request (refused r) = false

abbrev pub all_requests : Limits → Spelling → List (List ℕ) → Bool
all_requests limits k = all (λ (l : List ℕ). is_request (read_request limits k l))

-- the requests that lines read as
abbrev pub cons_request : Result Request → List Request → List Request
cons_request (value q) qs = q ∷ qs
cons_request (refused r) qs = qs

unfoldable pub requests : Limits → Spelling → List (List ℕ) → List Request
requests limits k [] = []
requests limits k (l ∷ ls) = cons_request (read_request limits k l) (requests limits k ls)

pub requests_append : (limits : Limits) (k : Spelling) (ls ms : List (List ℕ)) → requests limits k (ls ++ ms) ≡ requests limits k ls ++ requests limits k ms
unfolding requests
requests_append limits k [] ms = refl
requests_append limits k (l ∷ ls) ms = go (read_request limits k l) (requests_append limits k ls ms)
  where
    go : (r : Result Request) → requests limits k (ls ++ ms) ≡ requests limits k ls ++ requests limits k ms → cons_request r (requests limits k (ls ++ ms)) ≡ cons_request r (requests limits k ls) ++ requests limits k ms
    go (value q) ih = ap (λ (qs : List Request). q ∷ qs) ih
    go (refused r) ih = ih

module _ (sheet : Sheet) (limits : Limits) where
  abbrev pub AllAllowed : State → List Request → Type 0
  AllAllowed h qs = all is_allowed (answers (after sheet) answer h qs) ≡ true

  -- all lines read, and every request is allowed
  abbrev pub Allowed : Spelling → State → List (List ℕ) → Type 0
  Allowed k h ls = (all_requests limits k ls ≡ true) × AllAllowed h (requests limits k ls)

  -- what a run does behind a line that was taken
  abbrev behind : Spelling → ℕ → List (List ℕ) → Taken State → Ran State
  behind k before ls t = cond (eqb t.refusal 0) (run_lines (lent sheet limits) k (before + 1) t.state ls) (record { refusal = t.refusal; number = before + 1; state = t.state })

  -- so it is of lines whose run is allowed
  lines_allowed : (k : Spelling) (before : ℕ) (h : State) (ls : List (List ℕ)) → (run_lines (lent sheet limits) k before h ls).refusal ≡ 0 → Allowed k h ls
  unfolding run_lines requests
  lines_allowed k before h [] z = (refl, refl)
  lines_allowed k before h (l ∷ ls) z = go (read_request limits k l) refl (λ h. lines_allowed k (before + 1) h ls) z
    where
      go : (r : Result Request) → read_request limits k l ≡ r → ((h : State) → (run_lines (lent sheet limits) k (before + 1) h ls).refusal ≡ 0 → Allowed k h ls) → (behind k before ls (take_read (lent sheet limits) h r)).refusal ≡ 0
          → (is_request r && all_requests limits k ls ≡ true) × AllAllowed h (cons_request r (requests limits k ls))
      go (value q) is ih z = on (test (eqb (answer h q).refusal 0)) z
        where
          on : (eqb (answer h q).refusal 0 ≡ true) ⊎ (eqb (answer h q).refusal 0 ≡ false) → (behind k before ls (take_read (lent sheet limits) h (value q))).refusal ≡ 0 → (all_requests limits k ls ≡ true) × AllAllowed h (q ∷ requests limits k ls)
          on (inl e) z = let r = ih (after sheet h q) (rw e at z) in (r.0, rw e r.1)
          on (inr e) z = clash (eq-eqb (answer h q).refusal 0 (rw e at z)) e
      go (refused x) is ih z = absurd (let no : ◌≡◌ {A = ℕ} 2 0 = rw (refused_request_is_2 limits k l x is) at z in omega arith)

  -- and such lines are allowed, and do what their requests do
  pub allowed_lines : (k : Spelling) (before : ℕ) (h : State) (ls : List (List ℕ)) → Allowed k h ls
      → run_lines (lent sheet limits) k before h ls ≡ record { refusal = 0; number = before + length ls; state = final (after sheet) h (requests limits k ls) }
  unfolding run_lines requests
  allowed_lines k before h [] a = λ i. record { refusal = 0; number = sym (add-zero before) i; state = h }
  allowed_lines k before h (l ∷ ls) a = go (read_request limits k l) (λ h. allowed_lines k (before + 1) h ls) a
    where
      go : (r : Result Request) → ((h : State) → Allowed k h ls → run_lines (lent sheet limits) k (before + 1) h ls ≡ record { refusal = 0; number = before + 1 + length ls; state = final (after sheet) h (requests limits k ls) })
          → (is_request r && all_requests limits k ls ≡ true) × AllAllowed h (cons_request r (requests limits k ls))
          → behind k before ls (take_read (lent sheet limits) h r) ≡ record { refusal = 0; number = before + suc (length ls); state = final (after sheet) h (cons_request r (requests limits k ls)) }
      go (value q) ih a =
          let p = and_both (is_allowed (answer h q)) (all is_allowed (answers (after sheet) answer (after sheet h q) (requests limits k ls))) a.1 in
          rw p.0 (ih (after sheet h q) (a.0, p.1) ∙ (λ i. record { refusal = 0; number = more i; state = final (after sheet) (after sheet h q) (requests limits k ls) }))
        where
          more : before + 1 + length ls ≡ before + suc (length ls)
          more = omega arith
      go (refused x) ih a = clash a.0 refl

-- ---- the two spellings

-- what stands before the lines that are requests
pub data Front : Spelling → List (List ℕ) → Type 0 where
  none : Front Plain []
  first : Front Named (header ∷ [])

-- lines that all read are a trace behind it
pub front_run : {k : Spelling} {p : List (List ℕ)} → Front k p → (limits : Limits) {S : Type 0} (c : Checker S) (h : S) (ls : List (List ℕ)) → all_requests limits k ls ≡ true → run_trace c h (p ++ ls) ≡ run_lines c k (length p) h ls
unfolding run_trace
front_run none limits c h [] a = refl
front_run none limits c h (l ∷ ls) a = go (test (same l header))
  where
    go : (same l header ≡ true) ⊎ (same l header ≡ false) → cond (same l header) (run_lines c Named 1 h ls) (run_lines c Plain 0 h (l ∷ ls)) ≡ run_lines c Plain 0 h (l ∷ ls)
    go (inl e) =
        let p = and_both (is_request (read_request limits Plain l)) (all_requests limits Plain ls) a in
        clash p.0 (ap (λ (m : List ℕ). is_request (read_request limits Plain m)) (same_true l header e) ∙ ap is_request (header_misread limits Plain))
    go (inr e) = rw e
front_run first limits c h ls a = rw (same_refl header)

-- a trace that is allowed
pub record TraceOf (sheet : Sheet) (limits : Limits) (h : State) (ls : List (List ℕ)) : Type 0 where
  pub spelling : Spelling
  pub before : List (List ℕ)
  pub lines : List (List ℕ)
  pub front : Front spelling before
  pub is : ls ≡ before ++ lines
  pub allowed : Allowed sheet limits spelling h lines

pub trace_of : (sheet : Sheet) (limits : Limits) (h : State) (ls : List (List ℕ)) → (run_trace (lent sheet limits) h ls).refusal ≡ 0 → TraceOf sheet limits h ls
unfolding run_trace
trace_of sheet limits h [] z = record { spelling = Plain; before = []; lines = []; front = none; is = refl; allowed = lines_allowed sheet limits Plain 0 h [] z }
trace_of sheet limits h (l ∷ ls) z = go (test (same l header)) z
  where
    go : (same l header ≡ true) ⊎ (same l header ≡ false) → (cond (same l header) (run_lines (lent sheet limits) Named 1 h ls) (run_lines (lent sheet limits) Plain 0 h (l ∷ ls))).refusal ≡ 0 → TraceOf sheet limits h (l ∷ ls)
    go (inl e) z = record { spelling = Named; before = header ∷ []; lines = ls; front = first; is = ap (λ (m : List ℕ). m ∷ ls) (same_true l header e); allowed = lines_allowed sheet limits Named 1 h ls (rw e at z) }
    go (inr e) z = record { spelling = Plain; before = []; lines = l ∷ ls; front = none; is = refl; allowed = lines_allowed sheet limits Plain 0 h (l ∷ ls) (rw e at z) }
