-- Document 01, "Eleven ways to be turned down", of a request, and cards 1, 5, 6 and 9 to 11: the conditions 1 to 10, 12, 13 and 16 to 19, and which
-- of them each request meets.
-- Assumes nothing. (2 is here in its half about events; its other half, and 11, are of the text.)
use Rattle.std.specs.Prelude.{ℕ, suc, Bool, false, not, cond, ◌&&◌, ◌||◌, List, [], ◌∷◌, ◌++◌, leb, ltb, eqb, length, get_or, None, Option, Some}
use Rattle.model.specs.declared.Name.{Name}
use Rattle.model.specs.declared.Span.{Span}
use Rattle.model.specs.declared.Cap.{Cap}
use Rattle.model.specs.declared.Terms.{Terms}
use Rattle.model.specs.declared.Event.TheVariants.{Create, Borrow, Read, Write, Drop}
use Rattle.model.specs.Lists.{any, first}
use Rattle.model.specs.Values.{end, legal, inside}
use Rattle.model.specs.Requests.{Limits, Caller, Request, Single, Group, Mark, Back, caller_of, is_group}
use Rattle.model.specs.Slots.{Memory, Slot, Nothing, Stored, is_nothing, slot_map}
use Rattle.model.specs.Table.{span, derivation, named, live_rows, lookup, is_right, is_kind, is_mark, is_marked, is_domain, holds, in_order}
use Rattle.model.specs.Limits.{refused_sheet, no_row, limit_reached}
use Rattle.model.specs.Bits.{has_bit, bit_at, span_written}

-- 1. table not in order
abbrev pub disordered : List Cap → ℕ → Bool
disordered table issued = not (in_order table issued)

-- 2. event whose right is neither 1 nor 2
abbrev pub not_a_right : ℕ → Bool
not_a_right r = not (is_right r)

-- Card 6: "Any other kind number is .. 2 in an event"
abbrev pub not_a_kind : ℕ → Bool
not_a_kind k = not (is_kind k)

-- Card 9: "a row whose mark is not 0 or 1 (2 in an event)"
abbrev pub not_a_mark : ℕ → Bool
not_a_mark m = not (is_mark m)

-- Card 10: "A domain above 63 .. is 2 in an event"
abbrev pub not_a_domain : ℕ → Bool
not_a_domain actor = not (is_domain actor)

-- "or a mask without its maker"
abbrev pub unfit_mask : ℕ → Terms → Bool
unfit_mask actor r = not_a_domain actor || not (has_bit r.holders actor)

-- 2 of what a create gives: "Creates make references"
abbrev pub unfit_root : ℕ → Terms → Bool
unfit_root actor r = not_a_right r.right || (not (eqb r.kind 0) || (not_a_mark r.fresh || unfit_mask actor r))

-- 2 of what a borrow gives: it has its parent's mark, and gives none
abbrev pub unfit_child : ℕ → Terms → Bool
unfit_child actor r = not_a_right r.right || (not_a_kind r.kind || (not (eqb r.fresh 0) || unfit_mask actor r))

-- 3. span not legal
abbrev pub illegal_span : Span → Bool
illegal_span s = not (legal s)

-- Card 9: "A `fresh` create ending above 65,536 is refusal 3"
abbrev pub misplaced : Terms → Span → Bool
misplaced r s = illegal_span s || (eqb r.fresh 1 && ltb 65536 (end s))

-- Card 11: "K above 7 is 2"
abbrev pub not_a_slot : ℕ → ℕ → Bool
not_a_slot actor k = not_a_domain actor || ltb 7 k

-- 12. "the written name is not the issued number plus one"
abbrev pub misnamed : ℕ → Option Name → Bool
misnamed issued None = false
misnamed issued (Some x) = not (eqb x.0 (suc issued))

-- 13. "a call whose lent list of names is empty, longer than 64 or not strictly rising"
abbrev pub misgrouped : List ℕ → Bool
misgrouped names = not (is_group names)

-- The others are judged on the live rows.
module _ (rows : List Cap) (issued : ℕ) where
  -- 4. name 0 or above the issued number
  abbrev pub unissued : Name → Bool
  unissued u = eqb u.0 0 || ltb issued u.0

  -- 5. name issued, capability ended
  abbrev pub ended : Name → Bool
  ended u = not (any (named u.0) rows)

  -- 17, "after 5". "the domain is no holder"
  abbrev pub not_a_holder : ℕ → Name → Bool
  not_a_holder actor u = not (holds (derivation (lookup u.0 rows)) actor)

  -- 6. span not inside the capability's
  abbrev pub outside_span : Name → Span → Bool
  outside_span u s = not (inside s (span (lookup u.0 rows)))

  -- 7. write through `ro`, or borrow of `rw` from `ro`: a right above the capability's
  abbrev pub read_only : Name → ℕ → Bool
  read_only u r = ltb (lookup u.0 rows).right r

  -- 16, "after 7". "a read through a marked capability with some address not yet written"
  unfoldable pub not_written : (ℕ → Bool) → Name → Span → Bool
  not_written is_written u s = is_marked (derivation (lookup u.0 rows)) && not (span_written is_written s)

  -- 8. borrow from depth 64
  abbrev pub too_deep : Name → Bool
  too_deep u = leb 64 (lookup u.0 rows).depth

  -- 9. create or borrow with 1,000,000 issued
  abbrev pub names_spent : Bool
  names_spent = leb 1000000 issued

  -- Checks in order of precedence, each with its number: the standing of a name with the domain that acts; its use on a span; its use
  -- with a right, `ro` for a borrow of `ro` and `rw` for a write; room for a new name, where 12 is "between 9 and 10".
  abbrev pub standing : ℕ → Name → List (ℕ × Bool)
  standing actor u = (4, unissued u) ∷ (5, ended u) ∷ (17, not_a_holder actor u) ∷ []

  -- of each name dropped together, "in the order written"
  unfoldable pub standings : ℕ → List ℕ → List (ℕ × Bool)
  standings actor [] = []
  standings actor (u ∷ names) = standing actor (record { 0 = u }) ++ standings actor names

  abbrev pub within : ℕ → Name → Span → List (ℕ × Bool)
  within actor u s = (3, illegal_span s) ∷ standing actor u ++ ((6, outside_span u s) ∷ [])

  abbrev pub usable : ℕ → Name → Span → ℕ → List (ℕ × Bool)
  usable actor u s r = within actor u s ++ ((7, read_only u r) ∷ [])

  abbrev pub room : Caller → ℕ → Option Name → List (ℕ × Bool)
  room by size w = (9, names_spent) ∷ (12, misnamed issued w) ∷ (10, no_row by.limits rows size) ∷ (18, limit_reached by.limits rows by.actor) ∷ []

  -- those that each request meets after 1; of a group, "the first name refused gives the number". 19, "after 2": "a back finds nothing stored"
  abbrev pub checks : (ℕ → Bool) → (ℕ → Slot (List Cap)) → ℕ → Request → List (ℕ × Bool)
  checks is_written slot size (Single by (Create w s r)) = (2, unfit_root by.actor r) ∷ (3, misplaced r s) ∷ room by size w
  checks is_written slot size (Single by (Borrow w u s r)) = (2, unfit_child by.actor r) ∷ usable by.actor u s r.right ++ ((8, too_deep u) ∷ room by size w)
  checks is_written slot size (Single by (Read u s)) = (2, not_a_domain by.actor) ∷ within by.actor u s ++ ((16, not_written is_written u s) ∷ [])
  checks is_written slot size (Single by (Write u s)) = (2, not_a_domain by.actor) ∷ usable by.actor u s 2
  checks is_written slot size (Single by (Drop u)) = (2, not_a_domain by.actor) ∷ standing by.actor u
  checks is_written slot size (Group by names) = (13, misgrouped names) ∷ (2, not_a_domain by.actor) ∷ standings by.actor names
  checks is_written slot size (Mark by k) = (2, not_a_slot by.actor k) ∷ []
  checks is_written slot size (Back by k) = (2, not_a_slot by.actor k) ∷ (19, is_nothing (slot k)) ∷ []

-- The numbers of refusals in order of precedence; card 5: 13 is "after 1"; card 7: 14 and 15, of sheets alone, "in that
-- order after 2"; card 9: 16 is "after 7"; card 10: 17 "after 5", and 18 "in the place of 10"; card 11: 19 "after 2".
abbrev pub precedence : List ℕ
precedence = 1 ∷ 13 ∷ 2 ∷ 14 ∷ 15 ∷ 19 ∷ 3 ∷ 4 ∷ 5 ∷ 17 ∷ 6 ∷ 7 ∷ 16 ∷ 8 ∷ 9 ∷ 12 ∷ 10 ∷ 18 ∷ 11 ∷ []

-- the place of a number among others, from 1, or behind them
abbrev pub place_in : List ℕ → ℕ → ℕ
place_in [] k = 1
place_in (j ∷ js) k = cond (eqb k j) 1 (suc (place_in js k))

abbrev pub place : ℕ → ℕ
place = place_in precedence

-- What judging looks at: the table, the issued number, which addresses are written, how many bytes are lent to say so, the table stored in each
-- slot, and how many slots there are. What is lent has a view, and the history its own.
pub record View : Type 0 where
  pub table : List Cap
  pub issued : ℕ
  pub is_written : ℕ → Bool
  pub bytes : ℕ
  pub slot : ℕ → Slot (List Cap)
  pub slot_count : ℕ

-- 1 of a table, and of the sheet of limits that is lent with it
abbrev pub unfit_table : Limits → List Cap → ℕ → Bool
unfit_table limits table issued = disordered table issued || refused_sheet table limits

-- 1 of all that is lent. Card 9: "The caller lends 8,192 bytes (any other length is 1)"; card 11: "memory the caller lends for eight states of
-- 1,024 rows (any other size is 1"
abbrev pub unfit : Limits → View → Bool
unfit limits v = unfit_table limits v.table v.issued || (not (eqb v.bytes 8192) || not (eqb v.slot_count 8))

-- Card 11: "A stored table that is out of order, over a lent limit, or has another number of rows, is 1 on going back to it"
unfoldable pub unfit_slot : Limits → ℕ → ℕ → Slot (List Cap) → Bool
unfit_slot limits size issued Nothing = false
unfit_slot limits size issued (Stored table) = not (eqb (length table) size) || unfit_table limits table issued

abbrev pub unfit_stored : View → Request → Bool
unfit_stored v (Single by e) = false
unfit_stored v (Group by names) = false
unfit_stored v (Mark by k) = false
unfit_stored v (Back by k) = unfit_slot by.limits (length v.table) v.issued (v.slot k)

-- the stored table
abbrev pub table_in : Slot Memory → Slot (List Cap)
table_in = slot_map (λ m. m.table)

-- what is lent: a table, written bits, slots, and so many names issued
abbrev pub view_of : List Cap → List ℕ → List (Slot Memory) → ℕ → View
view_of table bits slots issued =
    record { table = table; issued = issued; is_written = bit_at bits; bytes = length bits; slot = λ k. table_in (get_or slots k Nothing); slot_count = length slots }

unfoldable pub refusals : View → Request → List (ℕ × Bool)
refusals v q = (1, unfit_stored v q || unfit (caller_of q).limits v) ∷ checks (live_rows v.table) v.issued v.is_written v.slot (length v.table) q

-- "The lowest number that applies is the one given", where the cards give their numbers places of their own: the first of the list
-- that holds, or 0 where the request is allowed. The places rise in each list, but for the names of a group (proofs/Precedence).
unfoldable pub judge : View → Request → ℕ
judge v q = first (refusals v q)
