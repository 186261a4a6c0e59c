-- An allowed request meets none of its refusals, and the rows that it leaves fit the table.
-- Assumes nothing.
use Rattle.std.specs.Prelude.{Option}
use mathlib.Core.Path.{◌≡◌, refl, sym, ap, ◌∙◌}
use mathlib.Core.Logic.{◌⊎◌, inl, inr}
use mathlib.Core.Bool.{Bool, true, false, not, ◌&&◌, ◌||◌}
use mathlib.Core.List.{List, [], ◌∷◌}
use Prim.Native.Nat.{ℕ, ◌≤◌, ◌<◌}
use native.Mathlib.Omega.{arith}
use lib.Dec.{eqb, leb, ltb}
use lib.ListN.{length, get_or, length-map, length-reverse, length-set}
use lib.Seq.{get_or-set_other}
use borrow.Author.Tests.{eqb-true, eqb-false, eq-eqb, ltb-true, not-true, not-false}
use Rattle.model.specs.declared.Cap.{Cap}
use Rattle.model.specs.declared.Name.{Name}
use Rattle.model.specs.declared.Span.{Span}
use Rattle.model.specs.declared.Access.{Access}
use Rattle.model.specs.declared.Terms.{Terms}
use Rattle.model.specs.declared.Tally.{Tally}
use Rattle.model.specs.declared.Event.TheVariants.{Create, Borrow, Read, Write, Drop}
use Rattle.model.specs.Requests.{Limits, Caller, Request, Single, Group, Mark, Back, caller_of, turns_state, marks, rises_above, rises_strictly, is_group}
use Rattle.model.specs.Slots.{Memory, Slot, Nothing, Stored}
use Rattle.model.specs.declared.Sheet.{Sheet}
use Rattle.model.specs.Lists.{any, all, first}
use Rattle.model.specs.Table.{named, live_rows, is_right, is_kind, is_mark, is_domain, in_order}
use Rattle.model.specs.Bits.{has_bit, bit_at}
use Rattle.model.specs.Limits.{refused_sheet}
use Rattle.model.specs.Refusals.{View, view_of, not_a_domain, not_a_holder, unfit_table, unfit_stored, unfit, standings, checks, refusals, judge}
use Rattle.model.specs.Effects.{revoke, after_access, issued_after}
use Rattle.model.specs.Counts.{count_allowed}
use Rattle.model.specs.Step.{State, worked, memory_after, slots_after}
use Rattle.model.proofs.Lists.{All, All_map, test, clash, and_both, or_neither, listed, first_none, first_zero, length_filter}

pub numbered : (v : View) (q : Request) → all (λ c. ltb 0 c.0) (refusals v q) ≡ true
unfolding refusals standings
numbered v (Single by (Create w s r)) = refl
numbered v (Single by (Borrow w u s r)) = refl
numbered v (Single by (Read u s)) = refl
numbered v (Single by (Write u s)) = refl
numbered v (Single by (Drop u)) = refl
numbered v (Group by names) = each (live_rows v.table) names
  where
    each : (rows : List Cap) (names : List ℕ) → all (λ c. ltb 0 c.0) (standings rows v.issued by.actor names) ≡ true
    each rows [] = refl
    each rows (u ∷ names) = each rows names
numbered v (Mark by k) = refl
numbered v (Back by k) = refl

-- the condition listed under a number does not hold
pub allowed : (v : View) (q : Request) → judge v q ≡ 0 → (k : ℕ) → listed k (refusals v q) ≡ false
unfolding judge
allowed v q h = first_none (refusals v q) (numbered v q) h

-- where nothing that is lent is unfit, no refusal is 1
above_names : (rows : List Cap) (issued actor : ℕ) (names : List ℕ) → all (λ c. ltb 1 c.0) (standings rows issued actor names) ≡ true
unfolding standings
above_names rows issued actor [] = refl
above_names rows issued actor (u ∷ names) = above_names rows issued actor names

above_one : (rows : List Cap) (issued : ℕ) (is_written : ℕ → Bool) (slot : ℕ → Slot (List Cap)) (size : ℕ) (q : Request) → all (λ c. ltb 1 c.0) (checks rows issued is_written slot size q) ≡ true
above_one rows issued is_written slot size (Single by (Create w s r)) = refl
above_one rows issued is_written slot size (Single by (Borrow w u s r)) = refl
above_one rows issued is_written slot size (Single by (Read u s)) = refl
above_one rows issued is_written slot size (Single by (Write u s)) = refl
above_one rows issued is_written slot size (Single by (Drop u)) = refl
above_one rows issued is_written slot size (Group by names) = above_names rows issued by.actor names
above_one rows issued is_written slot size (Mark by k) = refl
above_one rows issued is_written slot size (Back by k) = refl

first_above : (cs : List (ℕ × Bool)) → all (λ c. ltb 1 c.0) cs ≡ true → first cs ≡ 1 → ⊥
first_above [] h e = omega arith
first_above (c ∷ cs) h e = let p = and_both (ltb 1 c.0) (all (λ c. ltb 1 c.0) cs) h in go (test c.1) (ltb-true 1 c.0 p.0) (first_above cs p.1)
  where
    go : (c.1 ≡ true) ⊎ (c.1 ≡ false) → 1 < c.0 → (first cs ≡ 1 → ⊥) → ⊥
    go (inl t) l ih = let q : c.0 ≡ 1 = rw t at e in omega arith
    go (inr f) l ih = ih (rw f at e)

pub fit_not_1 : (v : View) (q : Request) → unfit_stored v q ≡ false → unfit (caller_of q).limits v ≡ false → judge v q ≡ 1 → ⊥
unfolding judge refusals
fit_not_1 v q stored o e =
    first_above (checks (live_rows v.table) v.issued v.is_written v.slot (length v.table) q) (above_one (live_rows v.table) v.issued v.is_written v.slot (length v.table) q) (rw (stored, o) at e)

-- what is lent is fit where the table is in order, the sheet of limits is taken, and the bytes and the slots are as many as are taken
module _ (limits : Limits) (v : View) where
  abbrev sizes : Bool
  sizes = not (eqb v.bytes 8192) || not (eqb v.slot_count 8)

  pub fit_table : unfit limits v ≡ false → unfit_table limits v.table v.issued ≡ false
  fit_table f = (or_neither (unfit_table limits v.table v.issued) sizes f).0

  fit_sizes : unfit limits v ≡ false → (not (eqb v.bytes 8192) ≡ false) × (not (eqb v.slot_count 8) ≡ false)
  fit_sizes f = or_neither (not (eqb v.bytes 8192)) (not (eqb v.slot_count 8)) (or_neither (unfit_table limits v.table v.issued) sizes f).1

  pub fit_order : unfit limits v ≡ false → in_order v.table v.issued ≡ true
  fit_order f = not-false (in_order v.table v.issued) (or_neither (not (in_order v.table v.issued)) (refused_sheet v.table limits) (fit_table f)).0

  pub fit_sheet : unfit limits v ≡ false → refused_sheet v.table limits ≡ false
  fit_sheet f = (or_neither (not (in_order v.table v.issued)) (refused_sheet v.table limits) (fit_table f)).1

  pub fit_size : unfit limits v ≡ false → v.bytes ≡ 8192
  fit_size f = eqb-true v.bytes 8192 (not-false (eqb v.bytes 8192) (fit_sizes f).0)

  pub fit_slots : unfit limits v ≡ false → v.slot_count ≡ 8
  fit_slots f = eqb-true v.slot_count 8 (not-false (eqb v.slot_count 8) (fit_sizes f).1)

  pub fit_all : in_order v.table v.issued ≡ true → refused_sheet v.table limits ≡ false → v.bytes ≡ 8192 → v.slot_count ≡ 8 → unfit limits v ≡ false
  fit_all o l s n = rw (o, l, s, n)

-- as it is where a request is allowed
module _ (v : View) (q : Request) (h : judge v q ≡ 0) where
  parts : (unfit_stored v q ≡ false) × (unfit (caller_of q).limits v ≡ false)
  unfolding refusals
  parts = or_neither (unfit_stored v q) (unfit (caller_of q).limits v) (allowed v q h 1)

  pub stored_fit : unfit_stored v q ≡ false
  stored_fit = parts.0

  pub is_fit : unfit (caller_of q).limits v ≡ false
  is_fit = parts.1

  pub in_order_lem : in_order v.table v.issued ≡ true
  in_order_lem = fit_order (caller_of q).limits v is_fit

  pub sheet_allowed : refused_sheet v.table (caller_of q).limits ≡ false
  sheet_allowed = fit_sheet (caller_of q).limits v is_fit

  pub sized : v.bytes ≡ 8192
  sized = fit_size (caller_of q).limits v is_fit

  pub eight_slots : v.slot_count ≡ 8
  eight_slots = fit_slots (caller_of q).limits v is_fit

-- ---- what turns no state

-- it has nothing stored to be judged, asks no slot, works on the memory, and leaves the slots
pub no_slot : (v : View) (q : Request) → turns_state q ≡ false → unfit_stored v q ≡ false
no_slot v (Single by e) t = refl
no_slot v (Group by names) t = refl
no_slot v (Mark by k) t = refl
no_slot v (Back by k) t = clash refl t

pub checks_slots : (rows : List Cap) (issued : ℕ) (is_written : ℕ → Bool) (slot slot' : ℕ → Slot (List Cap)) (size : ℕ) (q : Request) → turns_state q ≡ false
    → checks rows issued is_written slot size q ≡ checks rows issued is_written slot' size q
checks_slots rows issued is_written slot slot' size (Single by (Create w s r)) t = refl
checks_slots rows issued is_written slot slot' size (Single by (Borrow w u s r)) t = refl
checks_slots rows issued is_written slot slot' size (Single by (Read u s)) t = refl
checks_slots rows issued is_written slot slot' size (Single by (Write u s)) t = refl
checks_slots rows issued is_written slot slot' size (Single by (Drop u)) t = refl
checks_slots rows issued is_written slot slot' size (Group by names) t = refl
checks_slots rows issued is_written slot slot' size (Mark by k) t = clash refl t
checks_slots rows issued is_written slot slot' size (Back by k) t = clash refl t

-- so it is judged alike with any slots, if they are as many
pub judge_slots : (table : List Cap) (bits : List ℕ) (slots slots' : List (Slot Memory)) (i : ℕ) (q : Request) → turns_state q ≡ false → length slots ≡ length slots' → judge (view_of table bits slots i) q ≡ judge (view_of table bits slots' i) q
unfolding judge refusals
judge_slots table bits slots slots' i q t e =
    rw (no_slot (view_of table bits slots i) q t, no_slot (view_of table bits slots' i) q t, e)
    (ap (λ cs. first ((1, unfit (caller_of q).limits (view_of table bits slots' i)) ∷ cs)) (checks_slots (live_rows table) i (bit_at bits) (view_of table bits slots i).slot (view_of table bits slots' i).slot (length table) q t))

pub works_memory : (sheet : Sheet) (h : State) (q : Request) → turns_state q ≡ false → memory_after sheet h q ≡ worked sheet h.tally.issued h.memory q
works_memory sheet h (Single by e) t = refl
works_memory sheet h (Group by names) t = refl
works_memory sheet h (Mark by k) t = clash refl t
works_memory sheet h (Back by k) t = clash refl t

pub stores_nothing : {A : Type 0} (present : A) (slots : List (Slot A)) (q : Request) → turns_state q ≡ false → slots_after present slots q ≡ slots
stores_nothing present slots (Single by e) t = refl
stores_nothing present slots (Group by names) t = refl
stores_nothing present slots (Mark by k) t = clash refl t
stores_nothing present slots (Back by k) t = clash refl t

-- ---- what is stored

-- what makes no mark in a slot leaves it, and nothing makes slots more or fewer
pub slot_kept : {A : Type 0} (present : A) (slots : List (Slot A)) (k : ℕ) (q : Request) → marks k q ≡ false → get_or (slots_after present slots q) k Nothing ≡ get_or slots k Nothing
slot_kept present slots k (Single by e) f = refl
slot_kept present slots k (Group by names) f = refl
slot_kept present slots k (Mark by j) f = get_or-set_other slots j k (Stored present) Nothing (eqb-false k j f)
slot_kept present slots k (Back by j) f = refl

pub slots_size : {A : Type 0} (present : A) (slots : List (Slot A)) (q : Request) → length (slots_after present slots q) ≡ length slots
slots_size present slots (Single by e) = refl
slots_size present slots (Group by names) = refl
slots_size present slots (Mark by k) = length-set slots k (Stored present)
slots_size present slots (Back by k) = refl

-- the issued number goes up with the names
pub counted_issued : (q : Request) (t : Tally) → (count_allowed q t).issued ≡ issued_after t.issued q
counted_issued (Single by (Create w s r)) t = refl
counted_issued (Single by (Borrow w u s r)) t = refl
counted_issued (Single by (Read u s)) t = refl
counted_issued (Single by (Write u s)) t = refl
counted_issued (Single by (Drop u)) t = refl
counted_issued (Group by names) t = refl
counted_issued (Mark by k) t = refl
counted_issued (Back by k) t = refl

-- what 2 says of what a create or borrow gives
pub record Given (by : Caller) (r : Terms) : Type 0 where
  pub right : is_right r.right ≡ true
  pub domain : is_domain by.actor ≡ true
  pub holder : has_bit r.holders by.actor ≡ true

module _ (v : View) (by : Caller) (w : Option Name) (s : Span) (r : Terms) where
  abbrev masked : Bool
  masked = not (is_domain by.actor) || not (has_bit r.holders by.actor)

  mask_given : is_right r.right ≡ true → masked ≡ false → Given by r
  mask_given right m =
      let p = or_neither (not (is_domain by.actor)) (not (has_bit r.holders by.actor)) m in
      record { right = right; domain = not-false (is_domain by.actor) p.0; holder = not-false (has_bit r.holders by.actor) p.1 }

  pub root_given : judge v (Single by (Create w s r)) ≡ 0 → Given by r × (is_mark r.fresh ≡ true)
  unfolding refusals
  root_given h =
      let p = or_neither (not (is_right r.right)) (not (eqb r.kind 0) || (not (is_mark r.fresh) || masked)) (allowed v (Single by (Create w s r)) h 2) in
      let q = or_neither (not (is_mark r.fresh)) masked (or_neither (not (eqb r.kind 0)) (not (is_mark r.fresh) || masked) p.1).1 in
      (mask_given (not-false (is_right r.right) p.0) q.1, not-false (is_mark r.fresh) q.0)

  pub child_given : (u : Name) → judge v (Single by (Borrow w u s r)) ≡ 0 → Given by r × (is_kind r.kind ≡ true)
  unfolding refusals
  child_given u h =
      let p = or_neither (not (is_right r.right)) (not (is_kind r.kind) || (not (eqb r.fresh 0) || masked)) (allowed v (Single by (Borrow w u s r)) h 2) in
      let q = or_neither (not (is_kind r.kind)) (not (eqb r.fresh 0) || masked) p.1 in
      (mask_given (not-false (is_right r.right) p.0) (or_neither (not (eqb r.fresh 0)) masked q.1).1, not-false (is_kind r.kind) q.0)

-- ---- the names of a drop

-- the name is issued, and its capability lives
abbrev pub Stands : List Cap → ℕ → ℕ → Type 0
Stands rows issued u = (eqb u 0 || ltb issued u ≡ false) × (any (named u) rows ≡ true)

abbrev pub Rising : List ℕ → Type 0
Rising [] = Unit {0}
Rising (x ∷ names) = All (λ u. x < u) names × Rising names

rising : (names : List ℕ) → rises_strictly names ≡ true → Rising names
unfolding rises_strictly rises_above
rising [] h = tt
rising (x ∷ names) h = above x names h
  where
    above : (x : ℕ) (names : List ℕ) → rises_above x names ≡ true → Rising (x ∷ names)
    above x [] h = (tt, tt)
    above x (y ∷ names) h =
        let p = and_both (ltb x y) (rises_above y names) h in
        let l = ltb-true x y p.0 in
        let r = above y names p.1 in
        ((l, All_map _ _ (λ u k. omega arith) names r.0), r)

pub drop_stands : (v : View) (by : Caller) (u : Name) → judge v (Single by (Drop u)) ≡ 0 → Stands (live_rows v.table) v.issued u.0
unfolding refusals
drop_stands v by u h = (allowed v (Single by (Drop u)) h 4, not-false (any (named u.0) (live_rows v.table)) (allowed v (Single by (Drop u)) h 5))

-- the actor holds what it names
abbrev pub Held : List Cap → Caller → ℕ → Type 0
Held rows by u = not_a_holder rows 0 by.actor (record { 0 = u }) ≡ false

module _ (v : View) (by : Caller) (names : List ℕ) (h : judge v (Group by names) ≡ 0) where
  pub group_rises : Rising names
  unfolding refusals is_group
  group_rises =
      rising names (and_both (leb 1 (length names) && leb (length names) 64) (rises_strictly names) (not-false (is_group names) (allowed v (Group by names) h 13))).1

  pub group_held : All (λ u. Stands (live_rows v.table) v.issued u × Held (live_rows v.table) by u) names
  unfolding judge refusals standings
  group_held =
      let p = sym (first_zero (refusals v (Group by names)) (numbered v (Group by names))) ∙ eq-eqb (judge v (Group by names)) 0 h in
      let later : Bool = all (λ c. not c.1) (standings (live_rows v.table) v.issued by.actor names) in
      let q = and_both (not (unfit by.limits v)) (not (not (is_group names)) && (not (not_a_domain by.actor) && later)) p in
      let r = and_both (not (not (is_group names))) (not (not_a_domain by.actor) && later) q.1 in
      each names (and_both (not (not_a_domain by.actor)) later r.1).1
    where
      each : (names : List ℕ) → all (λ c. not c.1) (standings (live_rows v.table) v.issued by.actor names) ≡ true → All (λ u. Stands (live_rows v.table) v.issued u × Held (live_rows v.table) by u) names
      each [] h = tt
      each (u ∷ names) h =
          let later : Bool = all (λ c. not c.1) (standings (live_rows v.table) v.issued by.actor names) in
          let unheld : Bool = not_a_holder (live_rows v.table) 0 by.actor (record { 0 = u }) in
          let p = and_both (not (eqb u 0 || ltb v.issued u)) (not (not (any (named u) (live_rows v.table))) && (not unheld && later)) h in
          let q = and_both (not (not (any (named u) (live_rows v.table)))) (not unheld && later) p.1 in
          let r = and_both (not unheld) later q.1 in
          (((not-true (eqb u 0 || ltb v.issued u) p.0, not-false (any (named u) (live_rows v.table)) (not-true (not (any (named u) (live_rows v.table))) q.0)), not-true unheld r.0), each names r.1)

  pub group_stands : All (Stands (live_rows v.table) v.issued) names
  group_stands = All_map _ _ (λ u p. p.0) names group_held

-- ---- room

pub length_live : (t : List Cap) → length (live_rows t) ≤ length t
unfolding live_rows
length_live t = rw length-reverse (length_filter (λ c. not (named 0 c)) t)

pub revoke_fits : (ends lowers : ℕ → Bool) (rows : List Cap) (n : ℕ) → length rows ≤ n → length (revoke ends lowers rows) ≤ n
unfolding revoke
revoke_fits ends lowers rows n h = rw length-map (omega (arith, length_filter (λ c. not (ends c.name.0)) rows))

-- an access leaves no more rows than there were
pub access_fits : (sheet : Sheet) (a : Access) (u : ℕ) (s : Span) (rows : List Cap) → length (after_access sheet a u s rows) ≤ length rows
unfolding after_access
access_fits sheet a u s rows = revoke_fits _ _ rows (length rows) (omega arith)
