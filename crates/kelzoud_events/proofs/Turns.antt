-- Requests in turn: one more, and all of them on what is refused as it is lent.
-- Assumes nothing.
use mathlib.Core.Path.{◌≡◌, refl, sym, ap, ap₂, ◌∙◌}
use mathlib.Core.Bool.{true, or-true}
use mathlib.Core.List.{List, [], ◌∷◌, ◌++◌, map, map-append}
use Prim.Native.Nat.{ℕ, zero, suc, ◌+◌, ◌≤◌, ◌<◌}
use native.Mathlib.Numerals.{add-one}
use native.Mathlib.Omega.{arith}
use lib.ListN.{length, get_or, set, drop, replicate, length-map, get_or-map}
use lib.Seq.{take-suc, drop-cons, set_at, append_snoc, length-take-le}
use Rattle.model.specs.declared.Asked.{Asked}
use Rattle.model.specs.declared.Asked.TheVariants as ask
use Rattle.model.specs.declared.Work.TheVariants as work
use Rattle.model.specs.Requests.{Limits, Request, caller_of, request_of}
use Rattle.model.specs.Lists.{final, answers}
use Rattle.model.specs.Refusals.{unfit, refusals, judge}
use Rattle.model.specs.declared.Sheet.{Sheet}
use Rattle.model.specs.Step.{State, view, after, answer}
use Rattle.model.proofs.Offered.{final_append, answers_append}
use Rattle.table.specs.Words.{rows_in}
use Rattle.table.specs.States.{states_in}
use Rattle.table.specs.Lent.{tally_in, lent}
use Rattle.kelzoud_events.specs.Interface.{answer_words, asked_in, names_in, request_in}
use Rattle.kelzoud_events.specs.Batch.{requests_in, after_first, answers_first, Ran}

-- refusal 1
abbrev pub one : List ℕ
one = 1 ∷ 0 ∷ []

-- one entry more, behind those that are there
put : (A out out₁ : List (List ℕ)) (i : ℕ) (v : List ℕ) → length A ≡ i → i < length out → out₁ ≡ A ++ drop i out → set out₁ i v ≡ (A ++ (v ∷ [])) ++ drop (i + 1) out
put A out out₁ i v n l q =
    ap (λ (x : List (List ℕ)). set x i v) (q ∙ ap (λ (x : List (List ℕ)). A ++ x) (drop-cons out i [] l)) ∙ set_at A (get_or out i []) (drop (suc i) out) v i n
    ∙ sym (append_snoc A v (drop (suc i) out)) ∙ ap (λ (x : ℕ). (A ++ (v ∷ [])) ++ drop x out) (sym (add-one i))

length_answers : (sheet : Sheet) (h : State) (qs : List Request) → length (answers (after sheet) answer h qs) ≡ length qs
length_answers sheet h [] = refl
length_answers sheet h (q ∷ qs) = ap suc (length_answers sheet (after sheet h q) qs)

module _ (limits : Limits) (names : List ℕ) where
  requests_long : (ws : List (List ℕ)) (m : ℕ) → m ≤ length ws → length (requests_in limits ws names m) ≡ m
  requests_long ws m l = length-take-le m (map (λ w. request_in limits w names) ws) (omega (arith, length-map ws (λ w. request_in limits w names)))

  answers_long : (sheet : Sheet) (h : State) (ws : List (List ℕ)) (m : ℕ) → m ≤ length ws → length (map answer_words (answers (after sheet) answer h (requests_in limits ws names m))) ≡ m
  answers_long sheet h ws m l = length-map (answers (after sheet) answer h (requests_in limits ws names m)) answer_words ∙ length_answers sheet h (requests_in limits ws names m) ∙ requests_long ws m l

  -- one request more
  requests_more : (ws : List (List ℕ)) (i : ℕ) (q : Request) → i < length ws → q ≡ request_in limits (get_or ws i []) names → requests_in limits ws names (i + 1) ≡ requests_in limits ws names i ++ (q ∷ [])
  requests_more ws i q l e =
      ap (requests_in limits ws names) (add-one i) ∙ take-suc (map (λ w. request_in limits w names) ws) i (request_in limits [] names) (omega (arith, length-map ws (λ w. request_in limits w names)))
      ∙ ap (λ (x : Request). requests_in limits ws names i ++ (x ∷ [])) (get_or-map (λ w. request_in limits w names) ws i [] ∙ sym e)

  pub ran_none : (sheet : Sheet) (h : State) (ws out : List (List ℕ)) → Ran sheet limits h ws names 0 out h out
  ran_none sheet h ws out = record { state = refl; said = refl }

  pub ran_more : (sheet : Sheet) (h : State) (ws : List (List ℕ)) (i : ℕ) (out : List (List ℕ)) (h₁ : State) (out₁ : List (List ℕ)) (q : Request) (h₂ : State) (v : List ℕ) → Ran sheet limits h ws names i out h₁ out₁ → i < length ws → i < length out
      → q ≡ request_in limits (get_or ws i []) names → h₂ ≡ after sheet h₁ q → v ≡ answer_words (answer h₁ q) → Ran sheet limits h ws names (i + 1) out h₂ (set out₁ i v)
  ran_more sheet h ws i out h₁ out₁ q h₂ v r l m e a b = record {
    state = a ∙ ap (λ (x : State). after sheet x q) r.state ∙ sym (ap (final (after sheet) h) more ∙ final_append (after sheet) h (requests_in limits ws names i) (q ∷ []));
    said = put A out out₁ i v (answers_long sheet h ws i (omega arith)) m r.said ∙ ap (λ (x : List (List ℕ)). x ++ drop (i + 1) out) (sym answered);
  }
    where
      A : List (List ℕ)
      A = map answer_words (answers (after sheet) answer h (requests_in limits ws names i))

      more : requests_in limits ws names (i + 1) ≡ requests_in limits ws names i ++ (q ∷ [])
      more = requests_more ws i q l e

      answered : map answer_words (answers (after sheet) answer h (requests_in limits ws names (i + 1))) ≡ A ++ (v ∷ [])
      answered =
          ap (λ (x : List Request). map answer_words (answers (after sheet) answer h x)) more ∙ ap (map answer_words) (answers_append (after sheet) answer h (requests_in limits ws names i) (q ∷ []))
          ∙ map-append answer_words (answers (after sheet) answer h (requests_in limits ws names i)) (answer (after_first sheet limits h ws names i) q ∷ [])
          ∙ ap (λ (x : List ℕ). A ++ (x ∷ [])) (ap (λ (x : State). answer_words (answer x q)) (sym r.state) ∙ sym b)

-- on what is not fit as it is lent
module _ (sheet : Sheet) (limits : Limits) (h : State) (d : unfit limits (view h) ≡ true) where
  unchanged : (q : Request) → (caller_of q).limits ≡ limits → (after sheet h q ≡ h) × (answer_words (answer h q) ≡ one)
  unfolding judge refusals after answer
  unchanged q l = (rw (l, d, or-true), rw (l, d, or-true))

  -- the limits of each are those that are lent
  lent_with : (a : Asked) (ns : List ℕ) → (caller_of (request_of limits a ns)).limits ≡ limits
  lent_with (ask.Work (work.Single actor e)) ns = refl
  lent_with (ask.Work (work.Group actor)) ns = refl
  lent_with (ask.Mark actor k) ns = refl
  lent_with (ask.Back actor k) ns = refl

  all_unchanged : (ws : List (List ℕ)) (names : List ℕ) (m : ℕ) → (final (after sheet) h (requests_in limits ws names m) ≡ h) × (map answer_words (answers (after sheet) answer h (requests_in limits ws names m)) ≡ replicate (length (requests_in limits ws names m)) one)
  all_unchanged ws names zero = (refl, refl)
  all_unchanged [] names (suc m) = (refl, refl)
  all_unchanged (w ∷ ws) names (suc m) =
      let q : Request = request_in limits w names in let u = unchanged q (lent_with (asked_in w) (names_in w names)) in let ih = all_unchanged ws names m in let qs = requests_in limits ws names m in
      (ap (λ (x : State). final (after sheet) x qs) u.0 ∙ ih.0, ap₂ (λ (x : List ℕ) (l : List (List ℕ)). x ∷ l) u.1 (ap (λ (x : State). map answer_words (answers (after sheet) answer x qs)) u.0 ∙ ih.1))

  pub ran_refused : (ws : List (List ℕ)) (names : List ℕ) (m : ℕ) (out out₁ : List (List ℕ)) → m ≤ length ws → out₁ ≡ replicate m one ++ drop m out → Ran sheet limits h ws names m out h out₁
  ran_refused ws names m out out₁ l q = record {
    state = sym (all_unchanged ws names m).0;
    said = q ∙ ap (λ (x : List (List ℕ)). x ++ drop m out) (sym ((all_unchanged ws names m).1 ∙ ap (λ (x : ℕ). replicate x one) (requests_long limits names ws m l)));
  }

-- what a batch leaves, part by part
abbrev pub Left : Sheet → Limits → State → List (List ℕ) → List ℕ → ℕ → List (List ℕ) → List (List ℕ) → List ℕ → List (List ℕ) → List ℕ → List ℕ → List (List ℕ) → Type 0
Left sheet limits h events names m out ws' bs' stored' copies' w' out' =
    (rows_in ws' ≡ (after_first sheet limits h events names m).memory.table) × (bs' ≡ (after_first sheet limits h events names m).memory.bits) × (states_in stored' copies' ≡ (after_first sheet limits h events names m).slots) × (tally_in w' ≡ (after_first sheet limits h events names m).tally) × (out' ≡ answers_first sheet limits h events names m out)

pub left : (sheet : Sheet) (limits : Limits) (h : State) (events : List (List ℕ)) (names : List ℕ) (m : ℕ) (out ws' : List (List ℕ)) (bs' : List ℕ) (stored' : List (List ℕ)) (copies' w' : List ℕ) (out' : List (List ℕ)) → Ran sheet limits h events names m out (lent ws' bs' stored' copies' w') out'
    → Left sheet limits h events names m out ws' bs' stored' copies' w' out'
left sheet limits h events names m out ws' bs' stored' copies' w' out' r = (ap (λ (x : State). x.memory.table) r.state, ap (λ (x : State). x.memory.bits) r.state, ap (λ (x : State). x.slots) r.state, ap (λ (x : State). x.tally) r.state, r.said)
