-- Marks and backs: the memory after a state is stored, the table after one is brought back, and what each request is answered.
-- Assumes nothing.
use Rattle.std.specs.Prelude.{Err, Ok}
use mathlib.Core.Path.{◌≡◌, refl, sym, ap, ap₂, subst, ◌∙◌}
use mathlib.Core.Logic.{◌⊎◌, inl, inr}
use mathlib.Core.Bool.{Bool, true, false, not, cond, ◌||◌, or-true}
use mathlib.Core.List.{List, [], ◌∷◌, ◌++◌, map, append-nil}
use Prim.Native.Nat.{ℕ, zero, suc, ◌+◌, ◌-◌, ◌*◌, ◌≤◌, ◌<◌}
use native.Mathlib.Nat.{zero-add, add-zero, not-suc-le-zero, le_of_suc-le-suc}
use native.Mathlib.Numerals.{add-one}
use native.Mathlib.Omega.{arith}
use lib.Dec.{eqb, ltb}
use lib.ListN.{length, get_or, set, take, drop, length-set, length-drop, get_or-append, get_or-eq_default, drop_of_length-le}
use lib.Seq.{paste, length-paste, length_paste_head, length-take-le, get_or-take, get_or-drop, get_or-append-add, get_or-set_same, get_or-set_other, ext_get_or}
use borrow.Author.Tests.{eqb-true, eqb-false, ltb-true, ltb-false, lt-ltb, le-ltb, not-false}
use Rattle.model.specs.declared.Cap.{Cap}
use Rattle.model.specs.declared.Tally.{Tally}
use Rattle.model.specs.declared.Refusal.{Refusal}
use Rattle.model.specs.declared.Refusal.TheVariants.{Disordered, Misspelt}
use Rattle.model.specs.Given.{count_from}
use Rattle.model.specs.Slots.{Memory, Slot, Nothing, Stored, is_nothing, slot_map, stored_or}
use Rattle.model.specs.Table.{empty_row, live_rows, lent_table, is_domain}
use Rattle.model.specs.Requests.{Limits, Caller, Mark, Back, caller}
use Rattle.model.specs.Limits.{sum, exceeds, refused_sheet}
use Rattle.model.specs.Refusals.{View, view_of, table_in, disordered, unfit, unfit_table, unfit_slot, not_a_domain, not_a_slot, refusals, judge}
use Rattle.model.specs.Counts.{count_refused}
use Rattle.model.specs.Answers.{number, verdict_of}
use Rattle.table.specs.Words.{cap_of, rows_in}
use Rattle.table.specs.Rows.{before, Orderly}
use Rattle.table.specs.Known.{Sized, Fit}
use Rattle.table.specs.Limits.{limits_in, LimitsFor}
use Rattle.table.specs.States.{head_of, head_words, kept_rows, table_by, table_at, state_at, is_memory, states_in, Kept}
use Rattle.model.proofs.Offered.{test, or_neither}
use Rattle.table.proofs.Offered.{length_in_lem, in_at, before_same, before_lent, orderly_zeros, states_eight, rows_size, bytes_size, is_memory_lem}
use Rattle.rules.specs.declared.Outcome.{Outcome}
use Rattle.rules.specs.Engine.{Clears}
use Rattle.rules.specs.Steps.{lends}
use Rattle.rules.specs.States.{Stores, Brings, Marks, Backs}
use Rattle.rules.proofs.Laws.Steps.{all_fit, stepped_number}

-- ---- a copy, place by place

module _ {A : Type 0} (d : List A) (at : ℕ) (s : List A) (n : ℕ) (z : A) (l : at + n ≤ length d) (m : n ≤ length s) where
  front : length (take at d) ≡ at
  front = length-take-le at d (omega arith)

  both : length (take at d ++ take n s) ≡ at + n
  both = length_paste_head d at s n (omega arith) m

  pub paste_low : (i : ℕ) → i < at → get_or (paste d at s n) i z ≡ get_or d i z
  paste_low i b =
      get_or-append (take at d ++ take n s) (drop (at + n) d) z i (omega (arith, both))
      ∙ get_or-append (take at d) (take n s) z i (omega (arith, front))
      ∙ get_or-take at d i z b

  pub paste_in : (i : ℕ) → i < n → get_or (paste d at s n) (at + i) z ≡ get_or s i z
  paste_in i b =
      get_or-append (take at d ++ take n s) (drop (at + n) d) z (at + i) (omega (arith, both))
      ∙ ap (λ (j : ℕ). get_or (take at d ++ take n s) (j + i) z) (sym front)
      ∙ get_or-append-add (take at d) (take n s) i z
      ∙ get_or-take n s i z b

  pub paste_high : (i : ℕ) → at + n ≤ i → get_or (paste d at s n) i z ≡ get_or d i z
  paste_high i b =
      let e : length (take at d ++ take n s) + (i - (at + n)) ≡ i = omega (arith, both) in
      let f : at + n + (i - (at + n)) ≡ i = omega arith in
      ap (λ (j : ℕ). get_or (paste d at s n) j z) (sym e)
      ∙ get_or-append-add (take at d ++ take n s) (drop (at + n) d) (i - (at + n)) z
      ∙ get_or-drop (at + n) d (i - (at + n)) z
      ∙ ap (λ (j : ℕ). get_or d j z) f

-- parts of two lists that agree there
part_same : {A : Type 0} (d e : List A) (z : A) (a n : ℕ) → length d ≡ length e → a + n ≤ length d → ((i : ℕ) → i < n → get_or d (a + i) z ≡ get_or e (a + i) z) → take n (drop a d) ≡ take n (drop a e)
part_same d e z a n l b h =
    let x : length (take n (drop a d)) ≡ n = length-take-le n (drop a d) (omega (arith, length-drop a d)) in
    let y : length (take n (drop a e)) ≡ n = length-take-le n (drop a e) (omega (arith, length-drop a e)) in
    ext_get_or z (take n (drop a d)) (take n (drop a e)) (x ∙ sym y) (λ i c.
    let m : i < n = omega (arith, x) in
    get_or-take n (drop a d) i z m ∙ get_or-drop a d i z ∙ h i m ∙ sym (get_or-take n (drop a e) i z m ∙ get_or-drop a e i z))

-- ---- the slots of a memory

get_d_each : {A : Type 0} (f : ℕ → A) (x n i : ℕ) (z : A) → i < n → get_or (map f (count_from x n)) i z ≡ f (x + i)
unfolding count_from
get_d_each f x zero i z l = absurd (not-suc-le-zero l)
get_d_each f x (suc n) zero z l = ap f (sym (add-zero x))
get_d_each f x (suc n) (suc i) z l = let e : suc x + i ≡ x + suc i = omega arith in get_d_each f (suc x) n i z (le_of_suc-le-suc l) ∙ ap f e

module _ (stored : List (List ℕ)) (copies : List ℕ) (m : is_memory stored copies ≡ true) where
  pub slot_at : (k : ℕ) → k ≤ 7 → get_or (states_in stored copies) k Nothing ≡ state_at stored copies k
  unfolding states_in
  slot_at k l = rw m (get_d_each (state_at stored copies) 0 8 k Nothing (omega arith) ∙ ap (state_at stored copies) (zero-add k))

  pub slot_out : (k : ℕ) → 7 < k → get_or (states_in stored copies) k Nothing ≡ Nothing
  slot_out k l = get_or-eq_default (states_in stored copies) Nothing (omega (arith, states_eight stored copies m))

-- ---- a state is stored

module _ (ws : List (List ℕ)) (bs : List ℕ) (stored : List (List ℕ)) (copies : List ℕ) (k live issued : ℕ) (o : Orderly (rows_in ws) (length ws) live issued) (b : Sized bs) (m : is_memory stored copies ≡ true) (l : k ≤ 7) where
  abbrev headed : List (List ℕ)
  headed = set stored (1025 * k) (head_words live (length ws - live))

  abbrev rows : List (List ℕ)
  rows = paste headed (1025 * k + 1) ws live

  abbrev bytes : List ℕ
  bytes = paste copies (8192 * k) bs 8192

  long : length headed ≡ 8200
  long = length-set stored (1025 * k) (head_words live (length ws - live)) ∙ rows_size stored copies m

  pub rows_room : 1025 * k + 1 + live ≤ length headed
  rows_room = omega (arith, long, o.few, o.front.fits)

  pub bytes_room : 8192 * k + 8192 ≤ length copies
  bytes_room = omega (arith, bytes_size stored copies m)

  full : 8192 ≤ length bs
  full = omega (arith, b)

  rows_long : length rows ≡ 8200
  rows_long = length-paste headed (1025 * k + 1) ws live rows_room o.front.fits ∙ long

  bytes_long : length bytes ≡ 65536
  bytes_long = length-paste copies (8192 * k) bs 8192 bytes_room full ∙ bytes_size stored copies m

  -- the rows and the bytes of other slots
  below : (j : ℕ) → j < 1025 * k → get_or rows j [] ≡ get_or stored j []
  below j c = paste_low headed (1025 * k + 1) ws live [] rows_room o.front.fits j (omega arith) ∙ get_or-set_other stored (1025 * k) j (head_words live (length ws - live)) [] (λ (e : j ≡ 1025 * k). omega arith)

  above : (j : ℕ) → 1025 * k + 1025 ≤ j → get_or rows j [] ≡ get_or stored j []
  above j c = paste_high headed (1025 * k + 1) ws live [] rows_room o.front.fits j (omega (arith, o.few, o.front.fits)) ∙ get_or-set_other stored (1025 * k) j (head_words live (length ws - live)) [] (λ (e : j ≡ 1025 * k). omega arith)

  else_row : (j i : ℕ) → i < 1025 → (j ≡ k → ⊥) → get_or rows (1025 * j + i) [] ≡ get_or stored (1025 * j + i) []
  else_row j i c n = go (test (ltb j k))
    where
      go : (ltb j k ≡ true) ⊎ (ltb j k ≡ false) → get_or rows (1025 * j + i) [] ≡ get_or stored (1025 * j + i) []
      go (inl t) = let u : j < k = ltb-true j k t in below (1025 * j + i) (omega arith)
      go (inr f) = let u : k ≤ j = ltb-false j k f in let w : k < j = apart u n in above (1025 * j + i) (omega arith)
        where
          apart : k ≤ j → (j ≡ k → ⊥) → k < j
          apart u n = case (test (ltb k j))
            where
              case : (ltb k j ≡ true) ⊎ (ltb k j ≡ false) → k < j
              case (inl t) = ltb-true k j t
              case (inr f) = let v : j ≤ k = ltb-false k j f in absurd (n (omega arith))

  else_byte : (j i : ℕ) → i < 8192 → (j ≡ k → ⊥) → get_or bytes (8192 * j + i) 0 ≡ get_or copies (8192 * j + i) 0
  else_byte j i c n = go (test (ltb j k)) (test (ltb k j))
    where
      go : (ltb j k ≡ true) ⊎ (ltb j k ≡ false) → (ltb k j ≡ true) ⊎ (ltb k j ≡ false) → get_or bytes (8192 * j + i) 0 ≡ get_or copies (8192 * j + i) 0
      go (inl t) x = let u : j < k = ltb-true j k t in paste_low copies (8192 * k) bs 8192 0 bytes_room full (8192 * j + i) (omega arith)
      go (inr f) (inl t) = let u : k < j = ltb-true k j t in paste_high copies (8192 * k) bs 8192 0 bytes_room full (8192 * j + i) (omega arith)
      go (inr f) (inr g) = let u : k ≤ j = ltb-false j k f in let v : j ≤ k = ltb-false k j g in absurd (n (omega arith))

  else_state : (j : ℕ) → j ≤ 7 → (j ≡ k → ⊥) → state_at rows bytes j ≡ state_at stored copies j
  unfolding state_at table_at
  else_state j c n =
      let e : 1025 * j + 0 ≡ 1025 * j = add-zero (1025 * j) in
      let h : head_of rows j ≡ head_of stored j = ap (λ (x : ℕ). get_or rows x []) (sym e) ∙ else_row j 0 (omega arith) n ∙ ap (λ (x : ℕ). get_or stored x []) e in
      let r : take 1024 (drop (1025 * j + 1) rows) ≡ take 1024 (drop (1025 * j + 1) stored) = part_same rows stored [] (1025 * j + 1) 1024 (rows_long ∙ sym (rows_size stored copies m)) (omega (arith, rows_long)) (λ i d.
      let f : 1025 * j + 1 + i ≡ 1025 * j + (1 + i) = omega arith in ap (λ (x : ℕ). get_or rows x []) f ∙ else_row j (1 + i) (omega arith) n ∙ ap (λ (x : ℕ). get_or stored x []) (sym f)) in
      let y : take 8192 (drop (8192 * j) bytes) ≡ take 8192 (drop (8192 * j) copies) = part_same bytes copies 0 (8192 * j) 8192 (bytes_long ∙ sym (bytes_size stored copies m)) (omega (arith, bytes_long)) (λ i d. else_byte j i d n) in
      ap₂ (λ (s : Slot (List Cap)) (c : List ℕ). slot_map (λ t. record { table = t; bits = c }) s) (ap₂ (λ (w : List ℕ) (x : List (List ℕ)). table_by (get_or w 0 0) (get_or w 1 0) (rows_in x)) h r) y

  here_table : table_at rows k ≡ Stored (rows_in ws)
  unfolding table_at table_by
  here_table =
      let h : head_of rows k ≡ head_words live (length ws - live) = paste_low headed (1025 * k + 1) ws live [] rows_room o.front.fits (1025 * k) (omega arith) ∙ get_or-set_same stored (1025 * k) (head_words live (length ws - live)) [] (omega (arith, rows_size stored copies m)) in
      let n : live + (length ws - live) ≡ length ws = omega (arith, o.front.fits) in
      let s : before (kept_rows rows k) live ≡ before (rows_in ws) live = before_same (kept_rows rows k) (rows_in ws) live (λ j c.
      in_at (take 1024 (drop (1025 * k + 1) rows)) j
      ∙ ap cap_of (get_or-take 1024 (drop (1025 * k + 1) rows) j [] (omega (arith, o.few, o.front.fits)) ∙ get_or-drop (1025 * k + 1) rows j [] ∙ paste_in headed (1025 * k + 1) ws live [] rows_room o.front.fits j c)
      ∙ sym (in_at ws j)) in
      let w : lent_table (length ws) (before (rows_in ws) live) ≡ rows_in ws = sym (before_lent (rows_in ws) (length ws) live o.front.fits (length_in_lem ws) (orderly_zeros (rows_in ws) (length ws) live issued o)) in
      ap (λ (x : List ℕ). table_by (get_or x 0 0) (get_or x 1 0) (kept_rows rows k)) h
      ∙ ap (λ (x : ℕ). table_by x (length ws - live) (kept_rows rows k)) (add-one live)
      ∙ ap Stored (ap₂ lent_table n s ∙ w)

  here_state : state_at rows bytes k ≡ Stored (record { table = rows_in ws; bits = bs })
  unfolding state_at
  here_state =
      let x : length (take 8192 (drop (8192 * k) bytes)) ≡ 8192 = length-take-le 8192 (drop (8192 * k) bytes) (omega (arith, bytes_long, length-drop (8192 * k) bytes)) in
      let y : take 8192 (drop (8192 * k) bytes) ≡ bs = ext_get_or 0 (take 8192 (drop (8192 * k) bytes)) bs (x ∙ sym b) (λ i c.
      let d : i < 8192 = omega (arith, x) in
      get_or-take 8192 (drop (8192 * k) bytes) i 0 d ∙ get_or-drop (8192 * k) bytes i 0 ∙ paste_in copies (8192 * k) bs 8192 0 bytes_room full i d) in
      ap₂ (λ (s : Slot (List Cap)) (c : List ℕ). slot_map (λ t. record { table = t; bits = c }) s) here_table y

  pub stores : Stores ws bs stored copies k rows bytes
  stores = record { put = all_states; memory = memory_after_lem }
    where
      memory_after_lem : is_memory rows bytes ≡ true
      memory_after_lem = is_memory_lem rows bytes rows_long bytes_long

      all_states : states_in rows bytes ≡ set (states_in stored copies) k (Stored (record { table = rows_in ws; bits = bs }))
      all_states =
          ext_get_or Nothing (states_in rows bytes) (set (states_in stored copies) k (Stored (record { table = rows_in ws; bits = bs })))
          (states_eight rows bytes memory_after_lem ∙ sym (length-set (states_in stored copies) k (Stored (record { table = rows_in ws; bits = bs })) ∙ states_eight stored copies m))
          (λ j c. let d : j ≤ 7 = omega (arith, states_eight rows bytes memory_after_lem) in slot_at rows bytes memory_after_lem j d ∙ go j d (test (eqb j k)))
        where
          go : (j : ℕ) → j ≤ 7 → (eqb j k ≡ true) ⊎ (eqb j k ≡ false) → state_at rows bytes j ≡ get_or (set (states_in stored copies) k (Stored (record { table = rows_in ws; bits = bs }))) j Nothing
          go j d (inl t) = let e : j ≡ k = eqb-true j k t in rw e (here_state ∙ sym (get_or-set_same (states_in stored copies) k (Stored (record { table = rows_in ws; bits = bs })) Nothing (omega (arith, states_eight stored copies m))))
          go j d (inr f) = else_state j d (eqb-false j k f) ∙ sym (get_or-set_other (states_in stored copies) k j (Stored (record { table = rows_in ws; bits = bs })) Nothing (eqb-false j k f) ∙ slot_at stored copies m j d)

-- ---- and brought back

module _ (ws stored : List (List ℕ)) (copies : List ℕ) (k live old to issued : ℕ) (w : old ≤ to) (o : Orderly (rows_in ws) (length ws) old issued) (m : is_memory stored copies ≡ true) (l : k ≤ 7) (f : live ≤ length ws) (few : live ≤ 1024)
    (ws₁ ws₂ : List (List ℕ)) (e : ws₁ ≡ paste ws 0 (drop (1025 * k + 1) stored) live) (c : Clears (rows_in ws₁) (rows_in ws₂) live to) (same : length ws₂ ≡ length ws) where
  enough : live ≤ length (drop (1025 * k + 1) stored)
  enough = omega (arith, length-drop (1025 * k + 1) stored, rows_size stored copies m)

  room : 0 + live ≤ length ws
  room = omega arith

  zeros : (j : ℕ) → live ≤ j → j < length ws → get_or (rows_in ws₂) j empty_row ≡ empty_row
  zeros j a d = go (test (ltb j to))
    where
      go : (ltb j to ≡ true) ⊎ (ltb j to ≡ false) → get_or (rows_in ws₂) j empty_row ≡ empty_row
      go (inl t) = c.zeros j a (ltb-true j to t)
      go (inr g) =
          let u : to ≤ j = ltb-false j to g in
          c.rest j u ∙ in_at ws₁ j ∙ ap (λ (w : List (List ℕ)). cap_of (get_or w j [])) e ∙ ap cap_of (paste_high ws 0 (drop (1025 * k + 1) stored) live [] room enough j (omega arith)) ∙ sym (in_at ws j)
          ∙ orderly_zeros (rows_in ws) (length ws) old issued o j (omega arith) d

  low : (j : ℕ) → j < live → get_or (rows_in ws₂) j empty_row ≡ get_or (kept_rows stored k) j empty_row
  low j a =
      c.low j a ∙ in_at ws₁ j ∙ ap (λ (w : List (List ℕ)). cap_of (get_or w j [])) e
      ∙ ap cap_of (ap (λ (i : ℕ). get_or (paste ws 0 (drop (1025 * k + 1) stored) live) i []) (sym (zero-add j)) ∙ paste_in ws 0 (drop (1025 * k + 1) stored) live [] room enough j a)
      ∙ sym (in_at (take 1024 (drop (1025 * k + 1) stored)) j ∙ ap cap_of (get_or-take 1024 (drop (1025 * k + 1) stored) j [] (omega arith)))

  pub brought : rows_in ws₂ ≡ lent_table (length ws) (before (kept_rows stored k) live)
  brought = before_lent (rows_in ws₂) (length ws) live f (length_in_lem ws₂ ∙ same) zeros ∙ ap (lent_table (length ws)) (before_same (rows_in ws₂) (kept_rows stored k) live low)

pub bits_brought : (bs copies : List ℕ) (k : ℕ) → Sized bs → paste bs 0 (drop (8192 * k) copies) 8192 ≡ take 8192 (drop (8192 * k) copies)
bits_brought bs copies k b =
    let d : drop (0 + 8192) bs ≡ [] = drop_of_length-le bs {i = 0 + 8192} (omega (arith, b)) in
    ap (λ (r : List ℕ). take 0 bs ++ take 8192 (drop (8192 * k) copies) ++ r) d ∙ append-nil (take 0 bs ++ take 8192 (drop (8192 * k) copies))

-- ---- answers

module _ (v : View) (by : Caller) (k : ℕ) where
  pub mark_number : unfit by.limits v ≡ false → judge v (Mark by k) ≡ cond (not_a_slot by.actor k) 2 0
  unfolding judge refusals
  mark_number f = rw f

  pub back_number : unfit by.limits v ≡ false → unfit_slot by.limits (length v.table) v.issued (v.slot k) ≡ false → judge v (Back by k) ≡ cond (not_a_slot by.actor k) 2 (cond (is_nothing (v.slot k)) 19 0)
  unfolding judge refusals
  back_number f u = rw (u, f)

  pub back_unfit : unfit_slot by.limits (length v.table) v.issued (v.slot k) ≡ true → judge v (Back by k) ≡ 1
  unfolding judge refusals
  back_unfit u = rw u

-- a slot below 8 is one for every domain
pub slot_low : (actor k : ℕ) → k ≤ 7 → not_a_slot actor k ≡ not_a_domain actor
slot_low actor k g = rw (le-ltb 7 k g) (or_false (not_a_domain actor))
  where
    or_false : (x : Bool) → x || false ≡ x
    or_false true = refl
    or_false false = refl

pub slot_few : (actor k : ℕ) → not_a_slot actor k ≡ false → k ≤ 7
slot_few actor k n = ltb-false 7 k (or_neither (not_a_domain actor) (ltb 7 k) n).1

-- what judging sees in a slot
module _ (stored : List (List ℕ)) (copies : List ℕ) (m : is_memory stored copies ≡ true) (k : ℕ) where
  pub seen_slot : k ≤ 7 → table_in (get_or (states_in stored copies) k Nothing) ≡ table_at stored k
  unfolding state_at
  seen_slot l = ap table_in (slot_at stored copies m k l) ∙ go (table_at stored k)
    where
      go : (s : Slot (List Cap)) → table_in (slot_map (λ t. record { table = t; bits = take 8192 (drop (8192 * k) copies) }) s) ≡ s
      go Nothing = refl
      go (Stored t) = refl

  pub seen_out : 7 < k → table_in (get_or (states_in stored copies) k Nothing) ≡ Nothing
  seen_out l = ap table_in (slot_out stored copies m k l)

-- ---- a mark

module _ (ws : List (List ℕ)) (bs : List ℕ) (stored : List (List ℕ)) (copies : List ℕ) (t : Tally) (actor k live : ℕ) (o : Orderly (rows_in ws) (length ws) live t.issued) (b : Sized bs) (m : is_memory stored copies ≡ true) where
  fit : (limits : Limits) → refused_sheet (rows_in ws) limits ≡ false → unfit limits (view_of (rows_in ws) bs (states_in stored copies) t.issued) ≡ false
  fit limits l = all_fit ws bs (states_in stored copies) t limits live o b (states_eight stored copies m) l

  pub marks_refused : not_a_slot actor k ≡ true → (r : Outcome) → r.tally ≡ count_refused t → r.answer ≡ Err Misspelt → Marks ws bs stored copies t actor k stored copies r
  marks_refused n r y a sheet limits l =
      stepped_number sheet ws bs (states_in stored copies) t (Mark (caller actor limits) k) 2 (mark_number (view_of (rows_in ws) bs (states_in stored copies) t.issued) (caller actor limits) k (fit limits l) ∙ rw n)
      ws bs (states_in stored copies) r (ap (lends (rows_in ws) bs (states_in stored copies)) y) (ap verdict_of a)

  pub marks_allowed : not_a_slot actor k ≡ false → (stored' : List (List ℕ)) (copies' : List ℕ) → Stores ws bs stored copies k stored' copies' → (r : Outcome) → r.tally ≡ t → r.answer ≡ Ok (record { 0 = 0 })
      → Marks ws bs stored copies t actor k stored' copies' r
  marks_allowed n stored' copies' s r y a sheet limits l =
      stepped_number sheet ws bs (states_in stored copies) t (Mark (caller actor limits) k) 0 (mark_number (view_of (rows_in ws) bs (states_in stored copies) t.issued) (caller actor limits) k (fit limits l) ∙ rw n)
      ws bs (states_in stored' copies') r (ap₂ (λ (x : Tally) (z : List (Slot Memory)). lends (rows_in ws) bs z x) y s.put) (ap verdict_of a)

-- ---- a back

no_name : (b : Bool) → ◌≡◌ {A = ℕ} (cond b 0 0) 0
no_name true = refl
no_name false = refl

module _ (limits : Limits) (ws : List (List ℕ)) (bs : List ℕ) (stored : List (List ℕ)) (copies : List ℕ) (t : Tally) (actor k live : ℕ) (o : Orderly (rows_in ws) (length ws) live t.issued) (b : Sized bs) (m : is_memory stored copies ≡ true) (l : refused_sheet (rows_in ws) limits ≡ false) where
  abbrev seen : View
  seen = view_of (rows_in ws) bs (states_in stored copies) t.issued

  abbrev by : Caller
  by = caller actor limits

  all : unfit limits seen ≡ false
  all = all_fit ws bs (states_in stored copies) t limits live o b (states_eight stored copies m) l

  -- where it is refused, by 2 or 19, nothing but the refused events' count changes
  refused_by : (j : ℕ) (x : Refusal) → number x ≡ suc (suc j) → judge seen (Back by k) ≡ number x → (r : Outcome) → r.tally ≡ count_refused t → r.answer ≡ Err x → Backs limits ws bs stored copies t actor k ws bs r
  refused_by j x n e r y a sheet =
      stepped_number sheet ws bs (states_in stored copies) t (Back by k) (suc (suc j)) (e ∙ n) ws bs (states_in stored copies) r (ap (lends (rows_in ws) bs (states_in stored copies)) y) (ap verdict_of a ∙ ap₂ (λ (i m : ℕ). record { refusal = i; name = m }) n (sym (no_name (eqb (suc (suc j)) 0))))

  pub backs_out : 7 < k → (r : Outcome) → r.tally ≡ count_refused t → r.answer ≡ Err Misspelt → Backs limits ws bs stored copies t actor k ws bs r
  unfolding unfit_slot
  backs_out g r y a =
      let s : table_in (get_or (states_in stored copies) k Nothing) ≡ Nothing = seen_out stored copies m k g in
      refused_by 0 Misspelt refl (back_number seen by k all (ap (unfit_slot limits (length (rows_in ws)) t.issued) s) ∙ rw (lt-ltb 7 k g, or-true)) r y a

  module _ (g : k ≤ 7) where
    same : seen.slot k ≡ table_at stored k
    same = seen_slot stored copies m k g

    size : length (rows_in ws) ≡ length ws
    size = length_in_lem ws

    abbrev judged : Bool
    judged = unfit_slot limits (length ws) t.issued (table_at stored k)

    told : unfit_slot limits (length (rows_in ws)) t.issued (seen.slot k) ≡ judged
    told = ap₂ (λ (n : ℕ) (s : Slot (List Cap)). unfit_slot limits n t.issued s) size same

    pub backs_unfit : judged ≡ true → (r : Outcome) → r.tally ≡ t → r.answer ≡ Err Disordered → Backs limits ws bs stored copies t actor k ws bs r
    backs_unfit u r y a sheet =
        stepped_number sheet ws bs (states_in stored copies) t (Back by k) 1 (back_unfit seen by k (told ∙ u)) ws bs (states_in stored copies) r (ap (lends (rows_in ws) bs (states_in stored copies)) y) (ap verdict_of a)

    pub backs_empty : table_at stored k ≡ Nothing → (x : Refusal) → number x ≡ cond (not_a_domain actor) 2 19 → (r : Outcome) → r.tally ≡ count_refused t → r.answer ≡ Err x → Backs limits ws bs stored copies t actor k ws bs r
    unfolding unfit_slot
    backs_empty z x n r y a =
        let u : judged ≡ false = rw z refl in
        let e : judge seen (Back by k) ≡ cond (not_a_domain actor) 2 19 = back_number seen by k all (told ∙ u) ∙ rw (slot_low actor k g, same, z) refl in
        go (test (not_a_domain actor)) e
      where
        go : (not_a_domain actor ≡ true) ⊎ (not_a_domain actor ≡ false) → judge seen (Back by k) ≡ cond (not_a_domain actor) 2 19 → Backs limits ws bs stored copies t actor k ws bs r
        go (inl d) e = refused_by 0 x (n ∙ rw d) (e ∙ sym n) r y a
        go (inr d) e = refused_by 17 x (n ∙ rw d) (e ∙ sym n) r y a

    pub backs_stranger : judged ≡ false → is_domain actor ≡ false → (r : Outcome) → r.tally ≡ count_refused t → r.answer ≡ Err Misspelt → Backs limits ws bs stored copies t actor k ws bs r
    backs_stranger u d r y a = refused_by 0 Misspelt refl (back_number seen by k all (told ∙ u) ∙ rw (slot_low actor k g, d)) r y a

    module _ (n : ℕ) (places : List ℕ) (kept : Kept stored k (length ws) n t.issued places) (u : judged ≡ false) (ws' : List (List ℕ)) (bs' : List ℕ) (brings : Brings ws stored copies k n ws' bs') where
      state : get_or (states_in stored copies) k Nothing ≡ Stored (record { table = rows_in ws'; bits = bs' })
      unfolding state_at
      state = slot_at stored copies m k g ∙ ap (slot_map (λ t. record { table = t; bits = take 8192 (drop (8192 * k) copies) })) kept.same ∙ ap₂ (λ (x : List Cap) (y : List ℕ). Stored (record { table = x; bits = y })) (sym brings.table) (sym brings.bits)

      pub backs_allowed : is_domain actor ≡ true → (r : Outcome) → r.tally ≡ t → r.answer ≡ Ok (record { 0 = 0 }) → Backs limits ws bs stored copies t actor k ws' bs' r
      backs_allowed d r y a sheet =
          let s : seen.slot k ≡ Stored (rows_in ws') = ap table_in state in
          stepped_number sheet ws bs (states_in stored copies) t (Back by k) 0 (back_number seen by k all (told ∙ u) ∙ rw (slot_low actor k g, d, s) refl) ws' bs' (states_in stored copies) r
          (ap₂ (λ (x : Tally) (z : Memory). record { memory = z; tally = x; slots = states_in stored copies }) y (sym (ap (stored_or (record { table = rows_in ws; bits = bs })) state))) (ap verdict_of a)

      -- and what is brought back is fit
      pub fit_back : (lent : List ℕ) → limits ≡ limits_in lent → length ws' ≡ length ws → length bs' ≡ length bs → Fit ws' bs' n t.issued lent places
      unfolding unfit_slot
      fit_back lent e long bytes = record {
        known = record {
          orderly = subst (λ (x : ℕ). Orderly (rows_in ws') x n t.issued) (sym long) (rw brings.table kept.orderly);
          placed = rw brings.table kept.placed;
        };
        sized = bytes ∙ b;
        allowed =
            let f : unfit_slot limits (length ws) t.issued (Stored (lent_table (length ws) (before (kept_rows stored k) n))) ≡ false = rw kept.same at u in
            rw (← e, brings.table) (or_neither (disordered (lent_table (length ws) (before (kept_rows stored k) n)) t.issued) (refused_sheet (lent_table (length ws) (before (kept_rows stored k) n)) limits) (or_neither (not (eqb (length (lent_table (length ws) (before (kept_rows stored k) n))) (length ws))) (unfit_table limits (lent_table (length ws) (before (kept_rows stored k) n)) t.issued) f).1).1;
      }

-- limits that are not refused may be lent with as many rows
pub limits_for : (ws : List (List ℕ)) (limits : List ℕ) → refused_sheet (rows_in ws) (limits_in limits) ≡ false → LimitsFor (length ws) limits
unfolding refused_sheet
limits_for ws [] l = record { sheet = λ n. absurd (n refl); fits = omega arith }
limits_for ws (x ∷ xs) l =
    let p = or_neither (not (eqb (length (x ∷ xs)) 64)) (ltb (length (rows_in ws)) (sum (x ∷ xs)) || exceeds 0 (live_rows (rows_in ws)) (x ∷ xs)) l in
    let q = or_neither (ltb (length (rows_in ws)) (sum (x ∷ xs))) (exceeds 0 (live_rows (rows_in ws)) (x ∷ xs)) p.1 in
    record { sheet = λ n. eqb-true (length (x ∷ xs)) 64 (not-false (eqb (length (x ∷ xs)) 64) p.0); fits = omega (arith, length_in_lem ws, ltb-false (length (rows_in ws)) (sum (x ∷ xs)) q.0) }

-- what is fit, by other names for the same numbers
pub same_fit : (ws : List (List ℕ)) (bs : List ℕ) (k live issued i : ℕ) (limits places : List ℕ) → Fit ws bs k issued limits places → live ≡ k → i ≡ issued → Fit ws bs live i limits places
same_fit ws bs k live issued i limits places f l e = rw (l, e) f
