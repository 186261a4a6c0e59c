-- Records to rows and back: what `load` and `store` have done after i turns, that one more turn does one record more, and what is left of
-- the records by way of rows.
-- Assumes nothing.
use Rattle.std.specs.Prelude.{Err}
use mathlib.Core.Path.{◌≡◌, refl, sym, ap, subst, ◌∙◌}
use mathlib.Core.Logic.{◌⊎◌, inl, inr}
use mathlib.Core.Bool.{true, false, or-true}
use mathlib.Core.List.{List, [], ◌∷◌, ◌++◌, map, append-nil}
use Prim.Native.Nat.{ℕ, zero, suc, ◌≤◌, ◌<◌}
use native.Mathlib.Omega.{arith}
use lib.Dec.{leb}
use lib.ListN.{length, get_or, set, take, drop, length-append, length-drop, length-map}
use lib.Seq.{length-take-le, take-suc, drop-cons, take_at, take-length, set_at, append_snoc, drop-length}
use borrow.Author.Tests.{leb-true, leb-false, le-leb, lt-leb}
use Rattle.model.specs.declared.Cap.{Cap}
use Rattle.model.specs.declared.Sheet.{Sheet}
use Rattle.model.specs.declared.Tally.{Tally}
use Rattle.model.specs.declared.Refusal.TheVariants.{Disordered}
use Rattle.model.specs.Table.{empty_row, in_order}
use Rattle.model.specs.Requests.{Request}
use Rattle.model.specs.Slots.{unstored}
use Rattle.model.specs.Step.{Verdict, State, after}
use Rattle.model.specs.Step
use Rattle.model.specs.Answers.{verdict_of}
use Rattle.model.specs.Refusals.{refusals, judge}
use Rattle.model.proofs.Offered.{test, disordered_keeps}
use Rattle.table.specs.Words.{cap_of, words_of, rows_in}
use Rattle.table.proofs.Offered.{cap_back, length_in_lem}
use Rattle.rules.specs.declared.Outcome.{Outcome}
use Rattle.rules.specs.Steps.{lends, Worked}
use Rattle.rules.specs.Records.{held, Requested}

map_append : {A B : Type 0} (f : A → B) (xs ys : List A) → map f (xs ++ ys) ≡ map f xs ++ map f ys
map_append f [] ys = refl
map_append {A} {B} f (x ∷ xs) ys = ap {B = List B} (λ l. f x ∷ l) (map_append f xs ys)

-- a row's words are the row
pub rows_words : (ys : List Cap) → rows_in (map words_of ys) ≡ ys
unfolding rows_in
rows_words [] = refl
rows_words (c ∷ ys) = ap {B = List Cap} (λ d. d ∷ rows_in (map words_of ys)) (cap_back c) ∙ ap {B = List Cap} (λ l. c ∷ l) (rows_words ys)

pub rows_take : (ws : List (List ℕ)) (n : ℕ) → rows_in (take n ws) ≡ take n (rows_in ws)
unfolding rows_in
rows_take ws zero = refl
rows_take [] (suc n) = refl
rows_take (w ∷ ws) (suc n) = ap {B = List Cap} (λ l. cap_of w ∷ l) (rows_take ws n)

-- ---- `load`

abbrev pub loaded : List Cap → List (List ℕ) → ℕ → List (List ℕ)
loaded ys ws i = map words_of (take i ys) ++ drop i ws

pub loaded_none : (ys : List Cap) (ws : List (List ℕ)) → loaded ys ws 0 ≡ ws
loaded_none ys ws = refl

length_front : (ys : List Cap) (i : ℕ) → i ≤ length ys → length (map words_of (take i ys)) ≡ i
length_front ys i l = length-map (take i ys) words_of ∙ length-take-le i ys l

pub loaded_suc : (ys : List Cap) (ws : List (List ℕ)) (i : ℕ) → i < length ys → i < length ws → set (loaded ys ws i) i (words_of (get_or ys i empty_row)) ≡ loaded ys ws (suc i)
loaded_suc ys ws i l h =
    ap (λ (r : List (List ℕ)). set (map words_of (take i ys) ++ r) i (words_of (get_or ys i empty_row))) (drop-cons ws i [] h)
    ∙ set_at (map words_of (take i ys)) (get_or ws i []) (drop (suc i) ws) (words_of (get_or ys i empty_row)) i (length_front ys i (omega arith))
    ∙ sym (append_snoc (map words_of (take i ys)) (words_of (get_or ys i empty_row)) (drop (suc i) ws))
    ∙ ap (λ (r : List (List ℕ)). r ++ drop (suc i) ws) (sym (map_append words_of (take i ys) (get_or ys i empty_row ∷ [])))
    ∙ ap (λ (r : List Cap). map words_of r ++ drop (suc i) ws) (sym (take-suc ys i empty_row l))

-- ---- `store`

abbrev pub stored : List Cap → List (List ℕ) → ℕ → List Cap
stored ys ws i = take i (rows_in ws) ++ drop i ys

pub stored_none : (ys : List Cap) (ws : List (List ℕ)) → stored ys ws 0 ≡ ys
stored_none ys ws = refl

pub length_stored : (ys : List Cap) (ws : List (List ℕ)) (i : ℕ) → i ≤ length ys → i ≤ length ws → length (stored ys ws i) ≡ length ys
length_stored ys ws i l h = omega (arith, length-append (take i (rows_in ws)) (drop i ys), length-take-le i (rows_in ws) (omega (arith, length_in_lem ws)), length-drop i ys)

pub stored_suc : (ys : List Cap) (ws : List (List ℕ)) (i : ℕ) → i < length ys → i < length ws → set (stored ys ws i) i (get_or (rows_in ws) i empty_row) ≡ stored ys ws (suc i)
stored_suc ys ws i l h =
    let in_rows : i < length (rows_in ws) = omega (arith, length_in_lem ws) in
    ap (λ (r : List Cap). set (take i (rows_in ws) ++ r) i (get_or (rows_in ws) i empty_row)) (drop-cons ys i empty_row l)
    ∙ set_at (take i (rows_in ws)) (get_or ys i empty_row) (drop (suc i) ys) (get_or (rows_in ws) i empty_row) i (length-take-le i (rows_in ws) (omega arith))
    ∙ sym (append_snoc (take i (rows_in ws)) (get_or (rows_in ws) i empty_row) (drop (suc i) ys))
    ∙ ap (λ (r : List Cap). r ++ drop (suc i) ys) (sym (take-suc (rows_in ws) i empty_row in_rows))

-- ---- a request on the first rows

pub held_few : (n : ℕ) → n ≤ 1024 → held n ≡ n
held_few n l = rw (le-leb n 1024 l) refl

pub held_many : (n : ℕ) → 1024 < n → held n ≡ 0
held_many n l = rw (lt-leb n 1024 l) refl

pub held_least : (n : ℕ) → (held n ≤ n) × (held n ≤ 1024)
held_least n = go (test (leb n 1024))
  where
    go : (leb n 1024 ≡ true) ⊎ (leb n 1024 ≡ false) → (held n ≤ n) × (held n ≤ 1024)
    go (inl y) = let l : n ≤ 1024 = leb-true n 1024 y in (omega (arith, held_few n l), omega (arith, held_few n l))
    go (inr f) = let l : 1024 < n = leb-false n 1024 f in (omega (arith, held_many n l), omega (arith, held_many n l))

pub requested_few : (sheet : Sheet) (ws zs : List (List ℕ)) (n : ℕ) (bs bs' : List ℕ) (t : Tally) (q : Request) (r : Outcome) → length ws ≡ 1024 → n ≤ 1024 → length zs ≡ n → Worked sheet (take n ws) bs t q zs bs' r
    → Requested sheet ws n bs t q (zs ++ drop n ws) bs' r
requested_few sheet ws zs n bs bs' t q r full l long s = record {
  long = omega (arith, length-append zs (drop n ws), length-drop n ws);
  few = λ _. subst (λ (z : List (List ℕ)). Worked sheet (take n ws) bs t q z bs' r) (sym (take_at zs (drop n ws) n long)) s;
  many = λ m. absurd (omega arith);
}

pub requested_many : (sheet : Sheet) (ws : List (List ℕ)) (n : ℕ) (bs : List ℕ) (t : Tally) (q : Request) → 1024 < n → Requested sheet ws n bs t q ws bs (record { tally = t; answer = Err Disordered })
requested_many sheet ws n bs t q l = record { long = refl; few = λ h. absurd (omega arith); many = λ _. (refl, refl, refl) }

-- a longer table is not in order, whatever its bits and with whatever limits: refusal 1, which changes nothing
too_long : (ys : List Cap) (bs : List ℕ) (t : Tally) (q : Request) → 1024 < length ys → Step.answer (lends ys bs unstored t) q ≡ record { refusal = 1; name = 0 }
unfolding judge refusals in_order Step.answer
too_long ys bs t q l = rw (lt-leb (length ys) 1024 l, or-true) refl

-- what is left of the records, by way of rows
module _ (sheet : Sheet) (ys : List Cap) (bs : List ℕ) (t : Tally) (q : Request) (w ws : List (List ℕ)) (bs' : List ℕ) (r : Outcome) (s : Requested sheet (loaded ys w (held (length ys))) (length ys) bs t q ws bs' r) where
  -- what is lent
  abbrev h : State
  h = lends ys bs unstored t

  abbrev Left : Type 0
  Left = (stored ys ws (held (length ys)) ≡ (after sheet h q).memory.table) × (bs' ≡ (after sheet h q).memory.bits) × (r.tally ≡ (after sheet h q).tally) × (verdict_of r.answer ≡ Step.answer h q)

  module _ (l : length ys ≤ 1024) where
    abbrev w₁ : List (List ℕ)
    w₁ = take (length ys) (loaded ys w (held (length ys)))

    all_held : held (length ys) ≡ length ys
    all_held = held_few (length ys) l

    all_loaded : rows_in w₁ ≡ ys
    all_loaded =
        ap (λ (k : ℕ). rows_in (take (length ys) (loaded ys w k))) all_held
        ∙ ap rows_in (take_at (map words_of (take (length ys) ys)) (drop (length ys) w) (length ys) (length_front ys (length ys) (omega arith)))
        ∙ rows_words (take (length ys) ys) ∙ take-length ys

    all_stored : stored ys ws (held (length ys)) ≡ rows_in (take (length ys) ws)
    all_stored =
        ap (stored ys ws) all_held ∙ ap (λ (z : List Cap). take (length ys) (rows_in ws) ++ z) (drop-length ys)
        ∙ append-nil (take (length ys) (rows_in ws)) ∙ sym (rows_take ws (length ys))

    left_few : Left
    left_few =
        let a : Worked sheet w₁ bs t q (take (length ys) ws) bs' r = s.few l in
        let e : lends (rows_in w₁) bs unstored t ≡ h = ap (λ (rows : List Cap). lends rows bs unstored t) all_loaded in
        (all_stored ∙ a.table ∙ ap (λ (x : State). (after sheet x q).memory.table) e, a.bits ∙ ap (λ (x : State). (after sheet x q).memory.bits) e, a.tally ∙ ap (λ (x : State). (after sheet x q).tally) e, a.answer ∙ ap (λ (x : State). Step.answer x q) e)

  left_many : 1024 < length ys → Left
  left_many l =
      let one : Step.answer h q ≡ record { refusal = 1; name = 0 } = too_long ys bs t q l in
      let same : h ≡ after sheet h q = sym (disordered_keeps sheet h q (ap (λ (v : Verdict). v.refusal) one)) in
      (ap (stored ys ws) (held_many (length ys) l) ∙ ap (λ (x : State). x.memory.table) same, (s.many l).0 ∙ ap (λ (x : State). x.memory.bits) same, (s.many l).1 ∙ ap (λ (x : State). x.tally) same, (s.many l).2 ∙ sym one)

  pub left : Left
  left = go (test (leb (length ys) 1024))
    where
      go : (leb (length ys) 1024 ≡ true) ⊎ (leb (length ys) 1024 ≡ false) → Left
      go (inl y) = left_few (leb-true (length ys) 1024 y)
      go (inr f) = left_many (leb-false (length ys) 1024 f)

-- the same, where m rows were taken apart, and as many put back
pub left_of : (sheet : Sheet) (ys ys' : List Cap) (bs bs' : List ℕ) (t : Tally) (q : Request) (w ws zs : List (List ℕ)) (r : Outcome) (m : ℕ) → m ≡ held (length ys) → zs ≡ loaded ys w m → Requested sheet zs (length ys) bs t q ws bs' r → ys' ≡ stored ys ws m
    → (ys' ≡ (after sheet (lends ys bs unstored t) q).memory.table) × (bs' ≡ (after sheet (lends ys bs unstored t) q).memory.bits) × (r.tally ≡ (after sheet (lends ys bs unstored t) q).tally) × (verdict_of r.answer ≡ Step.answer (lends ys bs unstored t) q)
left_of sheet ys ys' bs bs' t q w ws zs r m few apart asked back =
    let held_asked : Requested sheet (loaded ys w (held (length ys))) (length ys) bs t q ws bs' r = subst (λ (k : ℕ). Requested sheet (loaded ys w k) (length ys) bs t q ws bs' r) few (subst (λ (z : List (List ℕ)). Requested sheet z (length ys) bs t q ws bs' r) apart asked) in
    let l = left sheet ys bs t q w ws bs' r held_asked in
    (back ∙ ap (stored ys ws) few ∙ l.0, l.1, l.2, l.3)
