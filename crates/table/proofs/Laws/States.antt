-- What is stored: a table of which the live rows are kept, and the memory that it lies in.
-- Assumes nothing.
use Rattle.std.specs.Prelude.{None, Option, Some}
use mathlib.Core.Path.{◌≡◌, refl, sym, ap, ap₂, subst, ◌∙◌}
use mathlib.Core.Logic.{◌⊎◌, inl, inr}
use mathlib.Core.Bool.{Bool, true, false, not, cond, ◌&&◌, ◌||◌, or-true}
use mathlib.Core.List.{List, [], ◌∷◌, ◌++◌, map, reverse, reverse-reverse}
use Prim.Native.Nat.{ℕ, zero, suc, ◌+◌, ◌-◌, ◌*◌, ◌≤◌, ◌<◌}
use native.Mathlib.Nat.{add-sub_cancel_left}
use native.Mathlib.Numerals.{add-one}
use native.Mathlib.Omega.{arith}
use lib.Dec.{eqb, ltb}
use lib.ListN.{length, get_or, set, take, drop, replicate, length-append, length-drop, length-replicate, get_or-replicate, get_or-append}
use lib.Seq.{take-take, length-take-le, get_or-take, get_or-append-add, get_or-set_same, get_or-set_other}
use borrow.Author.Tests.{eqb-true, eqb-false, eq-eqb, ne_eqb, le-leb, ltb-true, ltb-false}
use Rattle.model.specs.declared.Cap.{Cap}
use Rattle.model.specs.Lists.{cons_if, filter, all}
use Rattle.model.specs.Given.{count_from}
use Rattle.model.specs.Slots.{Memory, Slot, Nothing, Stored, unstored}
use Rattle.model.specs.Table.{empty_row, named, live_rows, lent_table, is_empty_row, live_rows_first, in_order}
use Rattle.model.specs.Requests.{Limits}
use Rattle.model.specs.Limits.{exceeds, refused_sheet}
use Rattle.model.specs.Refusals.{view_of, unfit, unfit_slot}
use Rattle.model.proofs.Offered.{test, and_both, all_append, length_lent}
use Rattle.table.specs.Words.{cap_of, rows_in}
use Rattle.table.specs.Rows.{before, Places, Orderly}
use Rattle.table.specs.Limits.{limits_in, LimitsFor}
use Rattle.table.specs.Known.{Known, Finds, FindsAll}
use Rattle.table.specs.States.{head_of, kept_rows, table_by, table_at, state_at, is_memory, states_in, emptied, Kept}
use Rattle.table.proofs.Laws.Words.{length_in_lem}
use Rattle.table.proofs.Laws.Prefix.{before_same, length_before, extend}
use Rattle.table.proofs.Laws.Ordered.{before_reverse, before_lent}
use Rattle.table.proofs.Laws.Places.{places_same}
use Rattle.table.proofs.Laws.Judge.{orderly_zeros}
use Rattle.table.proofs.Laws.Limits.{exceeded_refused}

-- ---- empty rows behind others

all_empty : (e : ℕ) → all is_empty_row (replicate e empty_row) ≡ true
unfolding is_empty_row
all_empty zero = refl
all_empty (suc e) = all_empty e

first_behind : (X : List Cap) (e : ℕ) → live_rows_first (X ++ replicate e empty_row) ≡ live_rows_first X
unfolding live_rows_first
first_behind [] zero = refl
first_behind [] (suc e) = all_empty (suc e)
first_behind (c ∷ X) e = ap₂ (cond (named 0 c)) (all_append is_empty_row (c ∷ X) (replicate e empty_row) ∙ rw (all_empty e) (and_true (all is_empty_row (c ∷ X)))) (first_behind X e)
  where
    and_true : (b : Bool) → b && true ≡ b
    and_true true = refl
    and_true false = refl

filter_behind : (X : List Cap) (e : ℕ) → filter (λ c. not (named 0 c)) (X ++ replicate e empty_row) ≡ filter (λ c. not (named 0 c)) X
filter_behind [] zero = refl
filter_behind [] (suc e) = filter_behind [] e
filter_behind (c ∷ X) e = ap (cons_if (not (named 0 c)) c) (filter_behind X e)

live_behind : (X : List Cap) (e : ℕ) → live_rows (X ++ replicate e empty_row) ≡ live_rows X
unfolding live_rows
live_behind X e = ap reverse (filter_behind X e)

order_behind : (X : List Cap) (e issued : ℕ) → length X + e ≤ 1024 → in_order (X ++ replicate e empty_row) issued ≡ in_order X issued
unfolding in_order
order_behind X e issued l =
    let few : length (X ++ replicate e empty_row) ≡ length X + e = length-append X (replicate e empty_row) ∙ ap (λ (n : ℕ). length X + n) (length-replicate e empty_row) in
    rw (few, le-leb (length X + e) 1024 l, le-leb (length X) 1024 (omega arith), first_behind X e, live_behind X e)

-- ---- the rows that are kept

map_take : (n : ℕ) (ws : List (List ℕ)) → take n (rows_in ws) ≡ rows_in (take n ws)
unfolding rows_in
map_take zero ws = refl
map_take (suc n) [] = refl
map_take (suc n) (w ∷ ws) = ap {B = List Cap} (λ l. cap_of w ∷ l) (map_take n ws)

-- those behind a head
module _ (stored : List (List ℕ)) (k : ℕ) where
  pub kept_slice : (kept : ℕ) → kept ≤ 1024 → take kept (kept_rows stored k) ≡ rows_in (take kept (drop (1025 * k + 1) stored))
  kept_slice kept l = map_take kept (take 1024 (drop (1025 * k + 1) stored)) ∙ ap rows_in (take-take kept 1024 (drop (1025 * k + 1) stored) l)

  pub length_kept : length stored ≡ 8200 → k ≤ 7 → length (kept_rows stored k) ≡ 1024
  length_kept e l = length_in_lem (take 1024 (drop (1025 * k + 1) stored)) ∙ length-take-le 1024 (drop (1025 * k + 1) stored) (omega (arith, length-drop (1025 * k + 1) stored))

  -- by what the head says
  pub at_head : (more empty : ℕ) → more ≡ get_or (head_of stored k) 0 0 → empty ≡ get_or (head_of stored k) 1 0 → table_at stored k ≡ table_by more empty (kept_rows stored k)
  unfolding table_at
  at_head more empty m e = sym (ap₂ (λ (x y : ℕ). table_by x y (kept_rows stored k)) m e)

  -- as many rows from a place on as one that is behind the head
  pub slice_kept : (at kept : ℕ) → at ≡ 1025 * k → take (at + 1 + kept - (at + 1)) (drop (at + 1) stored) ≡ take kept (drop (1025 * k + 1) stored)
  slice_kept at kept e = ap₂ (λ (m n : ℕ). take m (drop n stored)) (add-sub_cancel_left (at + 1) kept) (ap (λ (n : ℕ). n + 1) e)

-- a table of which the first rows are these
lent_kept : (S : List Cap) (kept empty : ℕ) → kept ≤ length S → lent_table (kept + empty) (before S kept) ≡ take kept S ++ replicate empty empty_row
unfolding lent_table
lent_kept S kept empty l =
    let r : reverse (before S kept) ≡ take kept S = ap reverse (sym (before_reverse S kept l)) ∙ reverse-reverse (take kept S) in
    let m : kept + empty - length (before S kept) ≡ empty = ap (λ (n : ℕ). kept + empty - n) (length_before S kept) ∙ add-sub_cancel_left kept empty in
    rw (r, m)

-- ---- on going back

module _ (limits : List ℕ) (size issued : ℕ) where
  -- a table of another number of rows
  pub unfit_size : (more empty : ℕ) (S : List Cap) → (more ≡ 0 → ⊥) → eqb (more + empty) (size + 1) ≡ false → unfit_slot (limits_in limits) size issued (table_by more empty S) ≡ true
  unfolding unfit_slot table_by
  unfit_size zero empty S n e = absurd (n refl)
  unfit_size (suc kept) empty S n e =
      let l : length (lent_table (kept + empty) (before S kept)) ≡ kept + empty = length_lent (kept + empty) (before S kept) (omega (arith, length_before S kept)) in
      rw (l, ne_eqb (kept + empty) size (λ (z : kept + empty ≡ size). eqb-false (suc kept + empty) (size + 1) e (omega arith)))

  refused_behind : (X : List Cap) (e : ℕ) → LimitsFor size limits → length X + e ≡ size → refused_sheet (X ++ replicate e empty_row) (limits_in limits) ≡ exceeds 0 (live_rows X) limits
  unfolding refused_sheet exceeds
  refused_behind X e f l = go limits f
    where
      few : length (X ++ replicate e empty_row) ≡ size
      few = length-append X (replicate e empty_row) ∙ ap (λ (n : ℕ). length X + n) (length-replicate e empty_row) ∙ l

      go : (limits : List ℕ) → LimitsFor size limits → refused_sheet (X ++ replicate e empty_row) (limits_in limits) ≡ exceeds 0 (live_rows X) limits
      go [] f = refl
      go (x ∷ xs) f =
          let some : length (x ∷ xs) ≡ 0 → ⊥ = λ (z : suc (length xs) ≡ 0). omega arith in
          exceeded_refused (X ++ replicate e empty_row) (x ∷ xs) some (f.sheet some) (omega (arith, few, f.fits)) ∙ ap (λ (r : List Cap). exceeds 0 r (x ∷ xs)) (live_behind X e)

  -- one of as many, by the rows that are kept
  pub unfit_kept : (S : List Cap) (kept empty : ℕ) → kept ≤ length S → LimitsFor size limits → kept + empty ≡ size → size ≤ 1024
      → unfit_slot (limits_in limits) size issued (table_by (kept + 1) empty S) ≡ (not (in_order (take kept S) issued) || exceeds 0 (live_rows (take kept S)) limits)
  unfolding unfit_slot table_by
  unfit_kept S kept empty l f e few =
      let t : lent_table (kept + empty) (before S kept) ≡ take kept S ++ replicate empty empty_row = lent_kept S kept empty l in
      let n : length (take kept S) ≡ kept = length-take-le kept S l in
      let long : length (take kept S ++ replicate empty empty_row) ≡ size = length-append (take kept S) (replicate empty empty_row) ∙ ap₂ ◌+◌ n (length-replicate empty empty_row) ∙ e in
      rw (add-one, t, long, eq-eqb size size refl, order_behind (take kept S) empty issued (omega arith), refused_behind (take kept S) empty f (omega arith))

-- the live ones among them
module _ (stored : List (List ℕ)) (k size live issued kept empty : ℕ) (places : List ℕ) (long : length stored ≡ 8200) (few : k ≤ 7) (e : kept + empty ≡ size) (m : size ≤ 1024)
    (is : table_at stored k ≡ table_by (kept + 1) empty (kept_rows stored k)) (known : Known (take kept (drop (1025 * k + 1) stored)) live issued places) where
  abbrev S : List Cap
  S = kept_rows stored k

  abbrev X : List Cap
  X = take kept S

  words : X ≡ rows_in (take kept (drop (1025 * k + 1) stored))
  words = kept_slice stored k kept (omega arith)

  fits : kept ≤ length S
  fits = omega (arith, length_kept stored k long few)

  count : length X ≡ kept
  count = length-take-le kept S fits

  o : Orderly X kept live issued
  o = subst (λ (n : ℕ). Orderly X n live issued) (sym (length_in_lem (take kept (drop (1025 * k + 1) stored))) ∙ ap length (sym words) ∙ count) (rw words known.orderly)

  p : Places X live places
  p = rw words known.placed

  abbrev T : List Cap
  T = X ++ replicate empty empty_row

  all_rows : length T ≡ size
  all_rows = length-append X (replicate empty empty_row) ∙ ap₂ ◌+◌ count (length-replicate empty empty_row) ∙ e

  low : (j : ℕ) → j < kept → get_or T j empty_row ≡ get_or X j empty_row
  low j l = get_or-append X (replicate empty empty_row) empty_row j (omega (arith, count))

  zeros : (j : ℕ) → live ≤ j → j < size → get_or T j empty_row ≡ empty_row
  zeros j l b = go (test (ltb j kept))
    where
      go : (ltb j kept ≡ true) ⊎ (ltb j kept ≡ false) → get_or T j empty_row ≡ empty_row
      go (inl t) = low j (ltb-true j kept t) ∙ orderly_zeros X kept live issued o j l (ltb-true j kept t)
      go (inr f) =
          let g : kept ≤ j = ltb-false j kept f in
          let i : length X + (j - kept) ≡ j = omega (arith, count) in
          ap (λ (n : ℕ). get_or T n empty_row) (sym i) ∙ get_or-append-add X (replicate empty empty_row) (j - kept) empty_row ∙ get_or-replicate empty (j - kept) empty_row empty_row (omega arith)

  same_rows : lent_table size (before S live) ≡ T
  same_rows =
      let b : before T live ≡ before S live = before_same T S live (λ j l. low j (omega (arith, o.front.fits)) ∙ get_or-take kept S j empty_row (omega (arith, o.front.fits))) in
      ap (lent_table size) (sym b) ∙ sym (before_lent T size live (omega (arith, o.front.fits)) all_rows zeros)

  there : Orderly T size live issued
  there = record {
    few = m;
    all = all_rows;
    front = record {
      fits = omega (arith, o.front.fits);
      filled = λ i l. subst (λ (c : Cap). 0 < c.name.0) (sym (low i (omega (arith, o.front.fits)))) (o.front.filled i l);
      stop = λ l. ap (λ (c : Cap). c.name.0) (zeros live (omega arith) l);
    };
    ordered = order_behind X empty issued (omega (arith, count)) ∙ o.ordered;
  }

  placed_there : Places T live places
  placed_there = places_same X T live places (λ j l. (ap (λ (c : Cap). c.name.0) (low j (omega (arith, o.front.fits))), ap (λ (c : Cap). c.parent.0) (low j (omega (arith, o.front.fits))))) p

  pub kept_fit : Kept stored k size live issued places
  unfolding table_by
  kept_fit = record {
    same = is ∙ rw (add-one, e) (ap Stored (ap (λ (n : ℕ). lent_table n (before S kept)) (sym e) ∙ lent_kept S kept empty fits ∙ sym same_rows));
    orderly = rw same_rows there;
    placed = rw same_rows placed_there;
  }

-- ---- the whole memory

module _ (stored : List (List ℕ)) (copies : List ℕ) (m : is_memory stored copies ≡ true) where
  sizes : (eqb (length stored) 8200 ≡ true) × (eqb (length copies) 65536 ≡ true)
  unfolding is_memory
  sizes = and_both (eqb (length stored) 8200) (eqb (length copies) 65536) m

  pub rows_size : length stored ≡ 8200
  rows_size = eqb-true (length stored) 8200 sizes.0

  pub bytes_size : length copies ≡ 65536
  bytes_size = eqb-true (length copies) 65536 sizes.1

pub is_memory_lem : (stored : List (List ℕ)) (copies : List ℕ) → length stored ≡ 8200 → length copies ≡ 65536 → is_memory stored copies ≡ true
unfolding is_memory
is_memory_lem stored copies r b = rw (r, b)

pub states_eight : (stored : List (List ℕ)) (copies : List ℕ) → is_memory stored copies ≡ true → length (states_in stored copies) ≡ 8
unfolding states_in count_from
states_eight stored copies m = rw m

-- without memory for eight states nothing is fit
pub states_unfit : (limits : Limits) (ws : List (List ℕ)) (bits : List ℕ) (stored : List (List ℕ)) (copies : List ℕ) (issued : ℕ) → is_memory stored copies ≡ false → unfit limits (view_of (rows_in ws) bits (states_in stored copies) issued) ≡ true
unfolding states_in
states_unfit limits ws bits stored copies issued m = rw (m, or-true, or-true)

-- and with it what is stored decides nothing of that
pub states_fit : (limits : Limits) (table : List Cap) (bits : List ℕ) (slots : List (Slot Memory)) (issued : ℕ) → length slots ≡ 8 → unfit limits (view_of table bits unstored issued) ≡ unfit limits (view_of table bits slots issued)
states_fit limits table bits slots issued e = rw e

pub found_all : (ws : List (List ℕ)) (bits : List ℕ) (stored : List (List ℕ)) (copies : List ℕ) (issued : ℕ) (limits places : List ℕ) (r : Option ℕ) → is_memory stored copies ≡ true → Finds ws bits issued limits places r → FindsAll ws bits stored copies issued limits places r
found_all ws bits stored copies issued limits places (Some live) m f = record { fit = f; memory = m }
found_all ws bits stored copies issued limits places None m f = sym (states_fit (limits_in limits) (rows_in ws) bits (states_in stored copies) issued (states_eight stored copies m)) ∙ f

-- ---- slots that are emptied

each_none : (f g : ℕ → Slot Memory) (x n : ℕ) → ((j : ℕ) → j < x + n → f j ≡ Nothing) → map f (count_from x n) ≡ emptied (map g (count_from x n))
unfolding count_from
each_none f g x zero h = refl
each_none f g x (suc n) h = ap₂ {C = List (Slot Memory)} (λ s l. s ∷ l) (h x (omega arith)) (each_none f g (suc x) n (λ j l. h j (omega arith)))

module _ (stored stored' : List (List ℕ)) (copies : List ℕ) where
  pub forgotten : is_memory stored copies ≡ true → length stored' ≡ length stored → ((j : ℕ) → j < 8 → get_or stored' (1025 * j) [] ≡ replicate 11 0) → states_in stored' copies ≡ emptied (states_in stored copies)
  unfolding states_in state_at table_at table_by
  forgotten m e h =
      let m' : is_memory stored' copies ≡ true = is_memory_lem stored' copies (e ∙ rows_size stored copies m) (bytes_size stored copies m) in
      rw (m, m') (each_none (state_at stored' copies) (state_at stored copies) 0 8 (λ j l. rw (h j (omega arith)) refl))

  pub none_forgotten : is_memory stored copies ≡ false → states_in stored copies ≡ emptied (states_in stored copies)
  unfolding states_in
  none_forgotten m = rw m

-- one head more
pub nothing_more : (stored : List (List ℕ)) (slot : ℕ) → 1025 * slot < length stored → ((j : ℕ) → j < slot → get_or stored (1025 * j) [] ≡ replicate 11 0) → (j : ℕ) → j < slot + 1 → get_or (set stored (1025 * slot) (replicate 11 0)) (1025 * j) [] ≡ replicate 11 0
nothing_more stored slot b h =
    extend (λ j. get_or (set stored (1025 * slot) (replicate 11 0)) (1025 * j) [] ≡ replicate 11 0) slot
    (λ j l. get_or-set_other stored (1025 * slot) (1025 * j) (replicate 11 0) [] (λ (e : 1025 * j ≡ 1025 * slot). omega arith) ∙ h j l)
    (get_or-set_same stored (1025 * slot) (replicate 11 0) [] b)
