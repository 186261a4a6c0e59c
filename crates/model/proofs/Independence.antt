-- Card 10, with the written bits of card 9 and the states of card 11: what a domain gets of a sequence is what it gets alone, by induction over the
-- one sequence; so it gets the same of two.
-- Assumes nothing.
use mathlib.Core.Path.{◌≡◌, refl, sym, ap, ap₂, ◌∙◌, subst}
use mathlib.Core.Logic.{◌⊎◌, inl, inr}
use mathlib.Core.Bool.{Bool, true, false, not, cond, ◌&&◌, ◌||◌, or-true, and-false}
use mathlib.Core.List.{List, [], ◌∷◌, map}
use Prim.Native.Nat.{ℕ, zero, suc, ◌<◌, ◌≤◌}
use native.Mathlib.Nat.{sub-zero}
use native.Mathlib.Omega.{arith}
use lib.Dec.{eqb, leb}
use lib.ListN.{length, get_or, length-replicate}
use borrow.Author.Tests.{eqb-true, eq-eqb, ne_eqb, leb-true, leb-false, le-ltb, lt-ltb, not-false}
use Rattle.model.specs.declared.Cap.{Cap}
use Rattle.model.specs.declared.Tally.{Tally}
use Rattle.model.specs.declared.Sheet.{Sheet}
use Rattle.model.specs.declared.Event.TheVariants.{Create, Borrow, Read, Write, Drop}
use Rattle.model.specs.Lists.{cons_if, any, first, answers, final}
use Rattle.model.specs.Values.{inside}
use Rattle.model.specs.Requests.{Limited, Request, Single, Group, Mark, Back, caller_of, turns_state}
use Rattle.model.specs.Slots.{Memory, Slot, Nothing, Stored, is_nothing}
use Rattle.model.specs.Table.{empty_row, span, named, live_rows, lent_table, lookup, live_rows_first, rows_in_order, in_order}
use Rattle.model.specs.Limits.{sum, exceeds, refused_sheet}
use Rattle.model.specs.Refusals.{disordered, table_in, unfit_table, unfit_slot, unfit_stored, checks, refusals, judge}
use Rattle.model.specs.Bits.{bit_at}
use Rattle.model.specs.Effects.{rows_after, new_name, issued_after}
use Rattle.model.specs.Step.{Verdict, verdict, is_allowed, State, view, worked, initial, outcome, answer, after}
use Rattle.model.specs.Independence.{ordinal, recounted, recounted_verdict, recounted_row, is_own, given_after, Point, begin, rows_of, next, asked, answered, uses_its_own, spares, supposed, undisturbed, Throughout, point_after, Alone, Independent}
use Rattle.model.proofs.Lists.{All, All_map, test, clash, and_both, first_none}
use Rattle.model.proofs.Slots.{SlotBoth, SlotsBoth, both_first, both_set, both_at, both_stored, both_map}
use Rattle.model.proofs.Lent.{no_rows}
use Rattle.model.proofs.Judged.{counted_issued, works_memory, stores_nothing, slots_size}
use Rattle.model.proofs.Order.{rows_in_order_falling, rows_in_order_wider}
use Rattle.model.proofs.Bits.{length_after}
use Rattle.model.proofs.Recounted.{Strictly, ordinal_none, ordinal_newest}
use Rattle.model.proofs.Limited.{Fits, Within, owned, live, size, fit, kept_by}
use Rattle.model.proofs.Apart.{Apart, SameWritten, in_use, uses, uses_its_own_lem, given_next, given_named, counted, not_none, apart_wider, apart_older, view_older, same_checks, spared_rows, apart_spared, own_rows, apart_own_act, written_spared, written_own}
use Rattle.model.proofs.Apart

-- ---- a memory, and the one that the domain would have alone

record Alike (limits : List ℕ) (n d : ℕ) (given : List ℕ) (i : ℕ) (m m₀ : Memory) : Type 0 where
  rows : List Cap
  same_table : m.table ≡ lent_table n rows
  kept : Within limits i rows
  apart : Apart d given i rows
  own_table : m₀.table ≡ lent_table n (Apart.view d given rows)
  own_kept : Within limits (length given) (Apart.view d given rows)
  sized : length m.bits ≡ 8192
  own_sized : length m₀.bits ≡ 8192
  written : SameWritten d rows (bit_at m.bits) (bit_at m₀.bits)

kept_later : (limits : List ℕ) (i : ℕ) (rows : List Cap) → Within limits i rows → suc i ≤ 1000000 → Within limits (suc i) rows
kept_later limits i rows k l =
    record { are_named = k.are_named; rise = rows_in_order_wider (suc i) (suc (suc i)) rows (omega arith) k.rise; names_left = l; unexceeded = k.unexceeded }

-- as names are given, to another or to the domain, what was alike stays alike
module _ (limits : List ℕ) (n d : ℕ) (given : List ℕ) (i : ℕ) (m m₀ : Memory) (a : Alike limits n d given i m m₀) (l : suc i ≤ 1000000) where
  later_other : Alike limits n d given (suc i) m m₀
  later_other =
      record {
        rows = a.rows;
        same_table = a.same_table;
        kept = kept_later limits i a.rows a.kept l;
        apart = apart_wider d given i a.rows a.apart;
        own_table = a.own_table;
        own_kept = a.own_kept;
        sized = a.sized;
        own_sized = a.own_sized;
        written = a.written;
      }

  later_own : Alike limits n d (suc i ∷ given) (suc i) m m₀
  later_own =
      let f = rows_in_order_falling (suc i) a.rows a.kept.are_named a.kept.rise in
      let same_view = view_older d given i a.rows f in
      record {
        rows = a.rows;
        same_table = a.same_table;
        kept = kept_later limits i a.rows a.kept l;
        apart = apart_older d given i a.rows a.apart f;
        own_table = rw same_view a.own_table;
        own_kept = rw same_view (kept_later limits (length given) (Apart.view d given a.rows) a.own_kept (omega (arith, a.apart.few)));
        sized = a.sized;
        own_sized = a.own_sized;
        written = a.written;
      }

-- ---- slots

-- after an allowed request of another, and of the domain
slots_other : (limits : List ℕ) (n d : ℕ) (given : List ℕ) (i : ℕ) (q : Request) → issued_after i q ≤ 1000000 → (ss ts : List (Slot Memory)) → SlotsBoth (Alike limits n d given i) ss ts → SlotsBoth (Alike limits n d given (issued_after i q)) ss ts
slots_other limits n d given i (Single by (Create w s r)) l ss ts = both_map (Alike limits n d given i) (Alike limits n d given (suc i)) (λ m m₀ a. later_other limits n d given i m m₀ a l) ss ts
slots_other limits n d given i (Single by (Borrow w u s r)) l ss ts = both_map (Alike limits n d given i) (Alike limits n d given (suc i)) (λ m m₀ a. later_other limits n d given i m m₀ a l) ss ts
slots_other limits n d given i (Single by (Read u s)) l ss ts = λ a. a
slots_other limits n d given i (Single by (Write u s)) l ss ts = λ a. a
slots_other limits n d given i (Single by (Drop u)) l ss ts = λ a. a
slots_other limits n d given i (Group by names) l ss ts = λ a. a
slots_other limits n d given i (Mark by k) l ss ts = λ a. a
slots_other limits n d given i (Back by k) l ss ts = λ a. a

slots_own : (limits : List ℕ) (n d : ℕ) (given : List ℕ) (i : ℕ) (q : Request) → issued_after i q ≤ 1000000 → (ss ts : List (Slot Memory)) → SlotsBoth (Alike limits n d given i) ss ts → SlotsBoth (Alike limits n d (given_next i q given) (issued_after i q)) ss ts
slots_own limits n d given i (Single by (Create w s r)) l ss ts = both_map (Alike limits n d given i) (Alike limits n d (suc i ∷ given) (suc i)) (λ m m₀ a. later_own limits n d given i m m₀ a l) ss ts
slots_own limits n d given i (Single by (Borrow w u s r)) l ss ts = both_map (Alike limits n d given i) (Alike limits n d (suc i ∷ given) (suc i)) (λ m m₀ a. later_own limits n d given i m m₀ a l) ss ts
slots_own limits n d given i (Single by (Read u s)) l ss ts = λ a. a
slots_own limits n d given i (Single by (Write u s)) l ss ts = λ a. a
slots_own limits n d given i (Single by (Drop u)) l ss ts = λ a. a
slots_own limits n d given i (Group by names) l ss ts = λ a. a
slots_own limits n d given i (Mark by k) l ss ts = λ a. a
slots_own limits n d given i (Back by k) l ss ts = λ a. a

recounted_state : (given : List ℕ) (q : Request) → turns_state (recounted given q) ≡ turns_state q
unfolding recounted
recounted_state given (Single by (Create w s r)) = refl
recounted_state given (Single by (Borrow w u s r)) = refl
recounted_state given (Single by (Read u s)) = refl
recounted_state given (Single by (Write u s)) = refl
recounted_state given (Single by (Drop u)) = refl
recounted_state given (Group by names) = refl
recounted_state given (Mark by k) = refl
recounted_state given (Back by k) = refl

-- another's request that spares the domain turns no state
spares_state : (d : ℕ) (rows : List Cap) (q : Request) → spares d rows q ≡ true → turns_state q ≡ false
unfolding spares
spares_state d rows (Single by e) h = refl
spares_state d rows (Group by names) h = refl
spares_state d rows (Mark by k) h = clash h refl
spares_state d rows (Back by k) h = clash h refl

strictly_next : (given : List ℕ) (i : ℕ) (q : Request) → All (λ x. (0 < x) × (x < suc i)) given → Strictly given → Strictly (given_next i q given)
strictly_next given i (Single by (Create w s r)) b f = (All_map _ _ (λ x l. l.1) given b, f)
strictly_next given i (Single by (Borrow w u s r)) b f = (All_map _ _ (λ x l. l.1) given b, f)
strictly_next given i (Single by (Read u s)) b f = f
strictly_next given i (Single by (Write u s)) b f = f
strictly_next given i (Single by (Drop u)) b f = f
strictly_next given i (Group by names) b f = f
strictly_next given i (Mark by k) b f = f
strictly_next given i (Back by k) b f = f

-- it is asked with the same sheet of limits
recounted_limits : (given : List ℕ) (q : Request) → (caller_of (recounted given q)).limits ≡ (caller_of q).limits
unfolding recounted
recounted_limits given (Single by (Create w s r)) = refl
recounted_limits given (Single by (Borrow w u s r)) = refl
recounted_limits given (Single by (Read u s)) = refl
recounted_limits given (Single by (Write u s)) = refl
recounted_limits given (Single by (Drop u)) = refl
recounted_limits given (Group by names) = refl
recounted_limits given (Mark by k) = refl
recounted_limits given (Back by k) = refl

-- ---- what an allowed request does to a memory

module _ (sheet : Sheet) (limits : List ℕ) (n : ℕ) (f : Fits limits n) (d : ℕ) (given : List ℕ) (i : ℕ) (m m₀ : Memory) (a : Alike limits n d given i m m₀) where
  here_live : live_rows m.table ≡ a.rows
  here_live = ap live_rows a.same_table ∙ live limits n f i a.rows a.kept

  here_size : length m.table ≡ n
  here_size = ap length a.same_table ∙ size limits n f i a.rows a.kept

  own_live : live_rows m₀.table ≡ Apart.view d given a.rows
  own_live = ap live_rows a.own_table ∙ live limits n f (length given) (Apart.view d given a.rows) a.own_kept

  own_size : length m₀.table ≡ n
  own_size = ap length a.own_table ∙ size limits n f (length given) (Apart.view d given a.rows) a.own_kept

  here_fit : unfit_table (Limited limits) m.table i ≡ false
  here_fit = ap (λ t. unfit_table (Limited limits) t i) a.same_table ∙ fit limits n f i a.rows a.kept

  own_fit : unfit_table (Limited limits) m₀.table (length given) ≡ false
  own_fit = ap (λ t. unfit_table (Limited limits) t (length given)) a.own_table ∙ fit limits n f (length given) (Apart.view d given a.rows) a.own_kept

  -- a request of another
  other_request : (q : Request) (slot : ℕ → Slot (List Cap)) → (caller_of q).limits ≡ Limited limits → is_own d q ≡ false → spares d a.rows q ≡ true → first (checks a.rows i (bit_at m.bits) slot n q) ≡ 0
      → Alike limits n d given (issued_after i q) (worked sheet i m q) m₀
  other_request q slot l o h z =
      let same_view : Apart.view d given (rows_after sheet i a.rows q) ≡ Apart.view d given a.rows = ap (map (recounted_row given)) (spared_rows sheet limits d given i a.rows a.apart a.kept q o h) in
      record {
        rows = rows_after sheet i a.rows q;
        same_table = ap₂ (λ k r. lent_table k (rows_after sheet i r q)) here_size here_live;
        kept = kept_by limits n f i a.rows a.kept (bit_at m.bits) slot sheet q (spares_state d a.rows q h) l z;
        apart = apart_spared sheet limits d given i a.rows a.apart a.kept q o;
        own_table = rw same_view a.own_table;
        own_kept = rw same_view a.own_kept;
        sized = length_after m.bits q ∙ a.sized;
        own_sized = a.own_sized;
        written = written_spared d a.rows m.bits m₀.bits a.sized a.own_sized a.written sheet i q o h;
      }

  -- a request of its own
  in_use_lem : (q : Request) (slot : ℕ → Slot (List Cap)) → first (checks a.rows i (bit_at m.bits) slot n q) ≡ 0 → in_use a.rows q
  in_use_lem (Single by (Create w s r)) slot z = tt
  in_use_lem (Single by (Borrow w u s r)) slot z =
      let p = first_none (checks a.rows i (bit_at m.bits) slot n (Single by (Borrow w u s r))) refl z in
      (not-false (any (named u.0) a.rows) (p 5), not-false (inside s (span (lookup u.0 a.rows))) (p 6))
  in_use_lem (Single by (Read u s)) slot z = tt
  in_use_lem (Single by (Write u s)) slot z = tt
  in_use_lem (Single by (Drop u)) slot z = tt
  in_use_lem (Group by names) slot z = tt
  in_use_lem (Mark by k) slot z = tt
  in_use_lem (Back by k) slot z = tt

  own_request : (q : Request) (slot slot₀ : ℕ → Slot (List Cap)) → turns_state q ≡ false → (caller_of q).limits ≡ Limited limits → is_own d q ≡ true → uses given q ≡ true → first (checks a.rows i (bit_at m.bits) slot n q) ≡ 0
      → first (checks (Apart.view d given a.rows) (length given) (bit_at m₀.bits) slot₀ n (recounted given q)) ≡ 0
      → Alike limits n d (given_next i q given) (issued_after i q) (worked sheet i m q) (worked sheet (length given) m₀ (recounted given q))
  own_request q slot slot₀ t l o h z z₀ =
      let left = own_rows sheet limits d given i a.rows a.apart a.kept a.own_kept q o h in
      record {
        rows = rows_after sheet i a.rows q;
        same_table = ap₂ (λ k r. lent_table k (rows_after sheet i r q)) here_size here_live;
        kept = kept_by limits n f i a.rows a.kept (bit_at m.bits) slot sheet q t l z;
        apart = apart_own_act sheet limits d given i a.rows a.apart a.kept a.own_kept q o h;
        own_table = rw left (ap₂ (λ k r. lent_table k (rows_after sheet (length given) r (recounted given q))) own_size own_live);
        own_kept = rw (left, ← (counted i given q)) (kept_by limits n f (length given) (Apart.view d given a.rows) a.own_kept (bit_at m₀.bits) slot₀ sheet (recounted given q) (recounted_state given q ∙ t) (recounted_limits given q ∙ l) z₀);
        sized = length_after m.bits q ∙ a.sized;
        own_sized = length_after m₀.bits (recounted given q) ∙ a.own_sized;
        written = written_own d a.rows m.bits m₀.bits a.sized a.own_sized a.written sheet i given a.apart.makers q h (in_use_lem q slot z);
      }

-- a request on what is not refused is judged by its checks
judged_by : (h : State) (q : Request) (i : ℕ) (limits : List ℕ) (rows : List Cap) (n : ℕ) → (caller_of q).limits ≡ Limited limits → h.tally.issued ≡ i → unfit_table (Limited limits) h.memory.table i ≡ false → length h.memory.bits ≡ 8192 → length h.slots ≡ 8 → unfit_stored (view h) q ≡ false
    → live_rows h.memory.table ≡ rows → length h.memory.table ≡ n → judge (view h) q ≡ first (checks rows i (bit_at h.memory.bits) (view h).slot n q)
unfolding judge refusals
judged_by h q i limits rows n l e f z g x r k =
    rw (x, l, ap (unfit_table (Limited limits) h.memory.table) e ∙ f, z, g)
    (ap₂ (λ r k. first (checks r h.tally.issued (bit_at h.memory.bits) (view h).slot k q)) r k ∙ ap (λ (j : ℕ). first (checks rows j (bit_at h.memory.bits) (view h).slot n q)) e)

-- ---- what is lent, and what would be lent to the domain alone

record Seen (limits : List ℕ) (n d : ℕ) (p : Point) (h₀ : State) : Type 0 where
  memory : Alike limits n d p.given p.lent.tally.issued p.lent.memory h₀.memory
  slots : SlotsBoth (Alike limits n d p.given p.lent.tally.issued) p.lent.slots h₀.slots
  eight : length p.lent.slots ≡ 8
  own_eight : length h₀.slots ≡ 8
  own_issued : h₀.tally.issued ≡ length p.given
  strictly : Strictly p.given

-- a slot is alike, so going back to it is judged alike: it is never 1
slot_fit : (sheet : Sheet) (limits : List ℕ) (n : ℕ) (f : Fits limits n) (d : ℕ) (given : List ℕ) (i : ℕ) (s t : Slot Memory) → SlotBoth (Alike limits n d given i) s t
    → (unfit_slot (Limited limits) n i (table_in s) ≡ false) × (unfit_slot (Limited limits) n (length given) (table_in t) ≡ false) × (is_nothing (table_in s) ≡ is_nothing (table_in t))
unfolding unfit_slot
slot_fit sheet limits n f d given i Nothing Nothing a = (refl, refl, refl)
slot_fit sheet limits n f d given i Nothing (Stored m₀) a = absurd a
slot_fit sheet limits n f d given i (Stored m) Nothing a = absurd a
slot_fit sheet limits n f d given i (Stored m) (Stored m₀) a = (
  rw (eq-eqb (length m.table) n (here_size sheet limits n f d given i m m₀ a)) (here_fit sheet limits n f d given i m m₀ a),
  rw (eq-eqb (length m₀.table) n (own_size sheet limits n f d given i m m₀ a)) (own_fit sheet limits n f d given i m m₀ a),
  refl,
)

module _ (sheet : Sheet) (limits : List ℕ) (n : ℕ) (f : Fits limits n) (d : ℕ) (p : Point) (h₀ : State) (s : Seen limits n d p h₀) where
  abbrev i : ℕ
  i = p.lent.tally.issued

  abbrev given : List ℕ
  given = p.given

  live_here : live_rows p.lent.memory.table ≡ s.memory.rows
  live_here = here_live sheet limits n f d given i p.lent.memory h₀.memory s.memory

  size_here : length p.lent.memory.table ≡ n
  size_here = here_size sheet limits n f d given i p.lent.memory h₀.memory s.memory

  live_alone : live_rows h₀.memory.table ≡ Apart.view d given s.memory.rows
  live_alone = own_live sheet limits n f d given i p.lent.memory h₀.memory s.memory

  size_alone : length h₀.memory.table ≡ n
  size_alone = own_size sheet limits n f d given i p.lent.memory h₀.memory s.memory

  seen_rows : rows_of d p ≡ live_rows h₀.memory.table
  unfolding rows_of
  seen_rows = ap (Apart.view d given) live_here ∙ sym live_alone

  -- ---- what is stored

  slot_fits : (k : ℕ) → (unfit_slot (Limited limits) n i (table_in (get_or p.lent.slots k Nothing)) ≡ false) × (unfit_slot (Limited limits) n (length given) (table_in (get_or h₀.slots k Nothing)) ≡ false)
      × (is_nothing (table_in (get_or p.lent.slots k Nothing)) ≡ is_nothing (table_in (get_or h₀.slots k Nothing)))
  slot_fits k = slot_fit sheet limits n f d given i (get_or p.lent.slots k Nothing) (get_or h₀.slots k Nothing) (both_at (Alike limits n d given i) p.lent.slots h₀.slots s.slots k)

  stored_here : (q : Request) → (caller_of q).limits ≡ Limited limits → unfit_stored (view p.lent) q ≡ false
  stored_here (Single by e) l = refl
  stored_here (Group by names) l = refl
  stored_here (Mark by k) l = refl
  stored_here (Back by k) l = ap₂ (λ x m. unfit_slot x m i (table_in (get_or p.lent.slots k Nothing))) l size_here ∙ (slot_fits k).0

  stored_alone : (q : Request) → (caller_of q).limits ≡ Limited limits → unfit_stored (view h₀) (recounted given q) ≡ false
  unfolding recounted
  stored_alone (Single by (Create w t r)) l = refl
  stored_alone (Single by (Borrow w u t r)) l = refl
  stored_alone (Single by (Read u t)) l = refl
  stored_alone (Single by (Write u t)) l = refl
  stored_alone (Single by (Drop u)) l = refl
  stored_alone (Group by names) l = refl
  stored_alone (Mark by k) l = refl
  stored_alone (Back by k) l =
      ap₂ (λ x m. unfit_slot x m h₀.tally.issued (table_in (get_or h₀.slots k Nothing))) l size_alone
      ∙ ap (λ (j : ℕ). unfit_slot (Limited limits) n j (table_in (get_or h₀.slots k Nothing))) s.own_issued ∙ (slot_fits k).1

  -- ---- a request of its own that is allowed

  abbrev passing : Request → ℕ
  passing q = first (checks s.memory.rows i (bit_at p.lent.memory.bits) (view p.lent).slot n q)

  abbrev passing_alone : Request → ℕ
  passing_alone q = first (checks (Apart.view d given s.memory.rows) (length given) (bit_at h₀.memory.bits) (view h₀).slot n (recounted given q))

  same_passing : (q : Request) → (caller_of q).limits ≡ Limited limits → is_own d q ≡ true → uses_its_own given i q ≡ true → passing q ≡ passing_alone q
  same_passing q l o h =
      same_checks n d given i s.memory.rows s.memory.apart (bit_at p.lent.memory.bits) (bit_at h₀.memory.bits) (view p.lent).slot (view h₀).slot s.memory.written (owned limits i s.memory.rows s.memory.kept) s.strictly (λ k. (slot_fits k).2) limits q l o h

  own_worked : (q : Request) → turns_state q ≡ false → (caller_of q).limits ≡ Limited limits → is_own d q ≡ true → uses_its_own given i q ≡ true → passing q ≡ 0
      → Seen limits n d (record { lent = outcome sheet 0 p.lent q; given = given_next i q given }) (outcome sheet 0 h₀ (recounted given q))
  own_worked q t l o h z =
      let k = kept_by limits n f i s.memory.rows s.memory.kept (bit_at p.lent.memory.bits) (view p.lent).slot sheet q t l z in
      let t₀ : turns_state (recounted given q) ≡ false = recounted_state given q ∙ t in
      record {
        memory =
            rw (works_memory sheet p.lent q t, works_memory sheet h₀ (recounted given q) t₀, counted_issued q p.lent.tally, s.own_issued)
            (own_request sheet limits n f d given i p.lent.memory h₀.memory s.memory q (view p.lent).slot (view h₀).slot t l o (uses_its_own_lem given i q h) z (sym (same_passing q l o h) ∙ z));
        slots =
            rw (stores_nothing p.lent.memory p.lent.slots q t, stores_nothing h₀.memory h₀.slots (recounted given q) t₀, counted_issued q p.lent.tally)
            (slots_own limits n d given i q k.names_left p.lent.slots h₀.slots s.slots);
        eight = slots_size p.lent.memory p.lent.slots q ∙ s.eight;
        own_eight = slots_size h₀.memory h₀.slots (recounted given q) ∙ s.own_eight;
        own_issued = counted_issued (recounted given q) h₀.tally ∙ ap (λ (j : ℕ). issued_after j (recounted given q)) s.own_issued ∙ counted i given q;
        strictly = strictly_next given i q s.memory.apart.below s.strictly;
      }

  own_allowed : (q : Request) → (caller_of q).limits ≡ Limited limits → is_own d q ≡ true → uses_its_own given i q ≡ true → passing q ≡ 0
      → Seen limits n d (record { lent = outcome sheet 0 p.lent q; given = given_next i q given }) (outcome sheet 0 h₀ (recounted given q))
  unfolding recounted
  own_allowed (Single by e) l o h z = own_worked (Single by e) refl l o h z
  own_allowed (Group by names) l o h z = own_worked (Group by names) refl l o h z
  own_allowed (Mark by k) l o h z =
      record {
        memory = s.memory;
        slots = both_set (Alike limits n d given i) p.lent.slots h₀.slots s.slots p.lent.memory h₀.memory s.memory k;
        eight = slots_size p.lent.memory p.lent.slots (Mark by k) ∙ s.eight;
        own_eight = slots_size h₀.memory h₀.slots (Mark by k) ∙ s.own_eight;
        own_issued = s.own_issued;
        strictly = s.strictly;
      }
  own_allowed (Back by k) l o h z =
      record {
        memory = both_stored (Alike limits n d given i) p.lent.memory h₀.memory s.memory (get_or p.lent.slots k Nothing) (get_or h₀.slots k Nothing) (both_at (Alike limits n d given i) p.lent.slots h₀.slots s.slots k);
        slots = s.slots;
        eight = s.eight;
        own_eight = s.own_eight;
        own_issued = s.own_issued;
        strictly = s.strictly;
      }

  module _ (q : Request) (l : (caller_of q).limits ≡ Limited limits) where
    number : ℕ
    number = passing q

    judged_here : judge (view p.lent) q ≡ number
    unfolding number
    judged_here = judged_by p.lent q i limits s.memory.rows n l refl (here_fit sheet limits n f d given i p.lent.memory h₀.memory s.memory) s.memory.sized s.eight (stored_here q l) live_here size_here

    -- ---- a request of another leaves what the domain sees

    other_outcome : is_own d q ≡ false → (number ≡ 0 → spares d s.memory.rows q ≡ true) → (j : ℕ) → number ≡ j → Seen limits n d (record { lent = outcome sheet j p.lent q; given = given }) h₀
    unfolding number
    other_outcome o h zero e =
        let t = spares_state d s.memory.rows q (h e) in
        let k = kept_by limits n f i s.memory.rows s.memory.kept (bit_at p.lent.memory.bits) (view p.lent).slot sheet q t l e in
        record {
          memory = rw (works_memory sheet p.lent q t, counted_issued q p.lent.tally) (other_request sheet limits n f d given i p.lent.memory h₀.memory s.memory q (view p.lent).slot l o (h e) e);
          slots = rw (stores_nothing p.lent.memory p.lent.slots q t, counted_issued q p.lent.tally) (slots_other limits n d given i q k.names_left p.lent.slots h₀.slots s.slots);
          eight = slots_size p.lent.memory p.lent.slots q ∙ s.eight;
          own_eight = s.own_eight;
          own_issued = s.own_issued;
          strictly = s.strictly;
        }
    other_outcome o h (suc zero) e = s
    other_outcome o h (suc (suc j)) e = record { memory = s.memory; slots = s.slots; eight = s.eight; own_eight = s.own_eight; own_issued = s.own_issued; strictly = s.strictly }

    other_next : is_own d q ≡ false → not (is_allowed (answer p.lent q)) || spares d s.memory.rows q ≡ true → Seen limits n d (next sheet d p q) h₀
    unfolding answer after
    other_next o h = rw (judged_here, o) (other_outcome o (λ e. rw (judged_here ∙ e) at h) number refl)

    -- ---- a request of its own is answered as alone

    abbrev q₀ : Request
    q₀ = recounted given q

    module _ (o : is_own d q ≡ true) (h : uses_its_own given i q ≡ true) where
      judged_alone : judge (view h₀) q₀ ≡ number
      unfolding number
      judged_alone =
          judged_by h₀ q₀ (length given) limits (Apart.view d given s.memory.rows) n (recounted_limits given q ∙ l) s.own_issued (own_fit sheet limits n f d given i p.lent.memory h₀.memory s.memory) s.memory.own_sized s.own_eight (stored_alone q l) live_alone size_alone
          ∙ sym (same_passing q l o h)

      abbrev newest : ℕ → ℕ
      newest j = cond (eqb j 0) (new_name i q) 0

      own_outcome : (j : ℕ) → number ≡ j → Seen limits n d (record { lent = outcome sheet j p.lent q; given = cons_if (not (eqb (newest j) 0)) (newest j) given }) (outcome sheet j h₀ q₀)
      unfolding number
      own_outcome zero e = rw (given_named i q given) (own_allowed q l o h e)
      own_outcome (suc zero) e = s
      own_outcome (suc (suc j)) e =
          rw (ne_eqb (suc (suc j)) 0 (λ (z : suc (suc j) ≡ 0). omega arith)) (record { memory = s.memory; slots = s.slots; eight = s.eight; own_eight = s.own_eight; own_issued = s.own_issued; strictly = s.strictly })

      none : ordinal given 0 ≡ 0
      none = ordinal_none given 0 (not_none d given i s.memory.rows s.memory.apart)

      -- the name in its answer, by its own count
      named_alone : (q : Request) → ordinal (given_next i q given) (new_name i q) ≡ new_name (length given) (recounted given q)
      unfolding recounted
      named_alone (Single by (Create w t r)) = ordinal_newest given (suc i)
      named_alone (Single by (Borrow w u t r)) = ordinal_newest given (suc i)
      named_alone (Single by (Read u t)) = none
      named_alone (Single by (Write u t)) = none
      named_alone (Single by (Drop u)) = none
      named_alone (Group by names) = none
      named_alone (Mark by k) = none
      named_alone (Back by k) = none

      name_alone : (j : ℕ) → ordinal (cons_if (not (eqb (newest j) 0)) (newest j) given) (newest j) ≡ cond (eqb j 0) (new_name (length given) q₀) 0
      name_alone zero = rw (given_named i q given) (named_alone q)
      name_alone (suc j) = rw (ne_eqb (suc j) 0 (λ (z : suc j ≡ 0). omega arith)) none

      own_answer : recounted_verdict (next sheet d p q).given (answer p.lent q) ≡ answer h₀ q₀
      unfolding answer
      own_answer =
          let e : cond (eqb number 0) (new_name (length given) q₀) 0 ≡ cond (eqb number 0) (new_name h₀.tally.issued q₀) 0 = ap (λ (j : ℕ). cond (eqb number 0) (new_name j q₀) 0) (sym s.own_issued) in
          rw (judged_here, judged_alone, o) (λ k. record { refusal = number; name = (name_alone number ∙ e) k })

      own_next : Seen limits n d (next sheet d p q) (after sheet h₀ q₀)
      unfolding answer after
      own_next = rw (judged_here, judged_alone, o) (own_outcome number refl)

-- ---- a sequence

taken : {A : Type 0} {b : Bool} {x : A} {xs : List A} → b ≡ true → cons_if b x xs ≡ x ∷ xs
taken {A} {b} {x} {xs} e = ap (λ (c : Bool). cons_if c x xs) e

passed : {A : Type 0} {b : Bool} (x : A) {xs : List A} → b ≡ false → cons_if b x xs ≡ xs
passed {A} {b} x {xs} e = ap (λ (c : Bool). cons_if c x xs) e

module _ (sheet : Sheet) (limits : List ℕ) (n : ℕ) (f : Fits limits n) (d : ℕ) where
  run : (qs : List Request) (p : Point) (h₀ : State) → Seen limits n d p h₀ → Throughout limits qs → undisturbed sheet d p qs ≡ true
      → (answered sheet d p qs ≡ answers (after sheet) answer h₀ (asked sheet d p qs)) × Seen limits n d (point_after sheet d p qs) (final (after sheet) h₀ (asked sheet d p qs))
  unfolding asked answered undisturbed supposed
  run [] p h₀ m l u = (refl, m)
  run (q ∷ qs) p h₀ m l u = go (test (is_own d q)) (run qs (next sheet d p q))
    where
      b : (supposed d p q ≡ true) × (undisturbed sheet d (next sheet d p q) qs ≡ true)
      b = and_both (supposed d p q) (undisturbed sheet d (next sheet d p q) qs) u

      go : (is_own d q ≡ true) ⊎ (is_own d q ≡ false)
          → ((h₀ : State) → Seen limits n d (next sheet d p q) h₀ → Throughout limits qs → undisturbed sheet d (next sheet d p q) qs ≡ true
          → (answered sheet d (next sheet d p q) qs ≡ answers (after sheet) answer h₀ (asked sheet d (next sheet d p q) qs))
          × Seen limits n d (point_after sheet d (next sheet d p q) qs) (final (after sheet) h₀ (asked sheet d (next sheet d p q) qs)))
          → (answered sheet d p (q ∷ qs) ≡ answers (after sheet) answer h₀ (asked sheet d p (q ∷ qs)))
          × Seen limits n d (point_after sheet d p (q ∷ qs)) (final (after sheet) h₀ (asked sheet d p (q ∷ qs)))
      go (inl o) ih =
          let h : uses_its_own p.given p.lent.tally.issued q ≡ true = rw o at b.0 in
          let r = ih (after sheet h₀ (recounted p.given q)) (own_next sheet limits n f d p h₀ m q l.0 o h) l.1 b.1 in
          let more : asked sheet d p (q ∷ qs) ≡ recounted p.given q ∷ asked sheet d (next sheet d p q) qs = taken o in (
            taken o ∙ ap₂ {C = List Verdict} (λ x xs. x ∷ xs) (own_answer sheet limits n f d p h₀ m q l.0 o h) r.0 ∙ ap (answers (after sheet) answer h₀) (sym more),
            subst (λ rs. Seen limits n d (point_after sheet d p (q ∷ qs)) (final (after sheet) h₀ rs)) (sym more) r.1,
          )
      go (inr o) ih =
          let h : not (is_allowed (answer p.lent q)) || spares d (live_rows p.lent.memory.table) q ≡ true = rw o at b.0 in
          let r = ih h₀ (other_next sheet limits n f d p h₀ m q l.0 o (rw (live_here sheet limits n f d p h₀ m) at h)) l.1 b.1 in
          let more : asked sheet d p (q ∷ qs) ≡ asked sheet d (next sheet d p q) qs = passed (recounted p.given q) o in (
            passed (recounted_verdict (next sheet d p q).given (answer p.lent q)) o ∙ r.0 ∙ ap (answers (after sheet) answer h₀) (sym more),
            subst (λ rs. Seen limits n d (point_after sheet d p (q ∷ qs)) (final (after sheet) h₀ rs)) (sym more) r.1,
          )

-- ---- the theorem

-- zero rows, no bit set, nothing stored, and no name given
seen_first : (limits : List ℕ) (n : ℕ) → Fits limits n → (d : ℕ) (t t₀ : Tally) → t.issued ≡ 0 → t₀.issued ≡ 0 → Seen limits n d (begin n t) (initial n t₀)
unfolding lent_table rows_in_order exceeds
seen_first limits n f d t t₀ z z₀ =
    record {
      memory =
          record {
            rows = [];
            same_table = rw (sub-zero n);
            kept = rw z first_kept;
            apart = record { below = tt; few = omega arith; makers = tt; parents = tt };
            own_table = rw (sub-zero n);
            own_kept = first_kept;
            sized = length-replicate {A = ℕ} 8192 0;
            own_sized = length-replicate {A = ℕ} 8192 0;
            written = tt;
          };
      slots = both_first (Alike limits n d [] t.issued) 8;
      eight = length-replicate {A = Slot Memory} 8 Nothing;
      own_eight = length-replicate {A = Slot Memory} 8 Nothing;
      own_issued = z₀;
      strictly = tt;
    }
  where
    empty : (d : ℕ) (limits : List ℕ) → exceeds d [] limits ≡ false
    empty d [] = refl
    empty d (l ∷ limits) = rw (le-ltb l 0 (omega arith)) (empty (suc d) limits)

    first_kept : Within limits 0 []
    first_kept = record { are_named = tt; rise = refl; names_left = omega arith; unexceeded = empty 0 limits }

-- a sheet that is refused for its length or its sum, or too many rows: every request is refused 1, and nothing changes
module _ (limits : List ℕ) (n : ℕ) where
  fits : Bool
  fits = leb n 1024 && (eqb (length limits) 64 && leb (sum limits) n)

  fitting : fits ≡ true → Fits limits n
  unfolding fits
  fitting h =
      let p = and_both (leb n 1024) (eqb (length limits) 64 && leb (sum limits) n) h in
      let r = and_both (eqb (length limits) 64) (leb (sum limits) n) p.1 in
      record { few = leb-true n 1024 p.0; sixty_four = eqb-true (length limits) 64 r.0; enough = leb-true (sum limits) n r.1 }

  module _ (u : fits ≡ false) (sheet : Sheet) (d : ℕ) where
    refused_lent : (table : List Cap) → length table ≡ n → (i : ℕ) → unfit_table (Limited limits) table i ≡ true
    unfolding fits refused_sheet in_order
    refused_lent table e i = go (test (leb n 1024)) (test (eqb (length limits) 64))
      where
        go : (leb n 1024 ≡ true) ⊎ (leb n 1024 ≡ false) → (eqb (length limits) 64 ≡ true) ⊎ (eqb (length limits) 64 ≡ false) → unfit_table (Limited limits) table i ≡ true
        go (inr l) _ = rw (e, l)
        go (inl l) (inr k) = rw k (or-true (disordered table i))
        go (inl l) (inl k) =
            let over : leb (sum limits) n ≡ false = rw (l, k) at u in
            rw (e, lt-ltb n (sum limits) (leb-false (sum limits) n over), k) (or-true (not (leb n 1024 && live_rows_first table && leb i 1000000 && rows_in_order (suc i) (live_rows table))))

    module _ (h : State) (e : length h.memory.table ≡ n) (q : Request) (l : (caller_of q).limits ≡ Limited limits) where
      refused : judge (view h) q ≡ 1
      unfolding judge refusals
      refused = rw (l, refused_lent h.memory.table e h.tally.issued, or-true (unfit_stored (view h) q))

      stays : after sheet h q ≡ h
      unfolding after
      stays = ap (λ (j : ℕ). outcome sheet j h q) refused

      answer_one : answer h q ≡ record { refusal = 1; name = 0 }
      unfolding answer
      answer_one = ap (λ (j : ℕ). verdict j (new_name h.tally.issued q)) refused

    point_stays : (p : Point) → length p.lent.memory.table ≡ n → (q : Request) → (caller_of q).limits ≡ Limited limits → next sheet d p q ≡ p
    point_stays p e q l =
        ap₂ {C = Point} (λ (h : State) (v : Verdict). record { lent = h; given = given_after d q v p.given }) (stays p.lent e q l) (answer_one p.lent e q l)
        ∙ ap (λ (c : Bool). record { lent = p.lent; given = cons_if c 0 p.given }) (and-false (is_own d q))

    one : Verdict
    one = record { refusal = 1; name = 0 }

    module _ (p : Point) (e : length p.lent.memory.table ≡ n) (g : p.given ≡ []) (q : Request) (l : (caller_of q).limits ≡ Limited limits) (qs : List Request) where
      answered_one : answered sheet d p (q ∷ qs) ≡ cons_if (is_own d q) one (answered sheet d p qs)
      unfolding answered ordinal one
      answered_one =
          ap₂ {C = List Verdict} (λ (r : Point) (v : Verdict). cons_if (is_own d q) (recounted_verdict r.given v) (answered sheet d r qs)) (point_stays p e q l) (answer_one p.lent e q l)
          ∙ ap (λ (l : List ℕ). cons_if (is_own d q) (recounted_verdict l one) (answered sheet d p qs)) g

      asked_one : asked sheet d p (q ∷ qs) ≡ cons_if (is_own d q) (recounted p.given q) (asked sheet d p qs)
      unfolding asked
      asked_one = ap {B = List Request} (λ (r : Point). cons_if (is_own d q) (recounted p.given q) (asked sheet d r qs)) (point_stays p e q l)

    stuck : (qs : List Request) → Throughout limits qs → (p : Point) (h₀ : State) → length p.lent.memory.table ≡ n → p.given ≡ [] → length h₀.memory.table ≡ n
        → (answered sheet d p qs ≡ answers (after sheet) answer h₀ (asked sheet d p qs)) × ((point_after sheet d p qs ≡ p) × (final (after sheet) h₀ (asked sheet d p qs) ≡ h₀))
    unfolding asked answered one
    stuck [] l p h₀ e g e₀ = (refl, (refl, refl))
    stuck (q ∷ qs) l p h₀ e g e₀ =
        let ih = stuck qs l.1 p h₀ e g e₀ in
        let r = go (is_own d q) ih.0 ih.1.1 in (
          answered_one p e g q l.0 qs ∙ r.0 ∙ ap (answers (after sheet) answer h₀) (sym (asked_one p e g q l.0 qs)),
          (ap (λ (s : Point). point_after sheet d s qs) (point_stays p e q l.0) ∙ ih.1.0, ap (final (after sheet) h₀) (asked_one p e g q l.0 qs) ∙ r.1),
        )
      where
        l₀ : (caller_of (recounted p.given q)).limits ≡ Limited limits
        l₀ = recounted_limits p.given q ∙ l.0

        go : (o : Bool) → answered sheet d p qs ≡ answers (after sheet) answer h₀ (asked sheet d p qs) → final (after sheet) h₀ (asked sheet d p qs) ≡ h₀
            → (cons_if o one (answered sheet d p qs) ≡ answers (after sheet) answer h₀ (cons_if o (recounted p.given q) (asked sheet d p qs))) × (final (after sheet) h₀ (cons_if o (recounted p.given q) (asked sheet d p qs)) ≡ h₀)
        go true a b = (
          ap₂ {C = List Verdict} (λ v vs. v ∷ vs) (sym (answer_one h₀ e₀ (recounted p.given q) l₀)) (a ∙ ap (λ (h : State). answers (after sheet) answer h (asked sheet d p qs)) (sym (stays h₀ e₀ (recounted p.given q) l₀))),
          ap (λ (h : State). final (after sheet) h (asked sheet d p qs)) (stays h₀ e₀ (recounted p.given q) l₀) ∙ b,
        )
        go false a b = (a, b)

-- A domain that uses only capabilities it made, and whose capabilities the others leave alone, gets what it would get alone.
pub alone : (sheet : Sheet) (limits : List ℕ) (d n : ℕ) (t t₀ : Tally) → t.issued ≡ 0 → t₀.issued ≡ 0 → (qs : List Request) → Throughout limits qs → undisturbed sheet d (begin n t) qs ≡ true → Alone sheet d n t t₀ qs
unfolding rows_of
alone sheet limits d n t t₀ z z₀ qs l u = go (test (fits limits n))
  where
    go : (fits limits n ≡ true) ⊎ (fits limits n ≡ false) → Alone sheet d n t t₀ qs
    go (inl y) =
        let f = fitting limits n y in
        let r = run sheet limits n f d qs (begin n t) (initial n t₀) (seen_first limits n f d t t₀ z z₀) l u in
        record { same_results = r.0; same_rows = seen_rows sheet limits n f d (point_after sheet d (begin n t) qs) (final (after sheet) (initial n t₀) (asked sheet d (begin n t) qs)) r.1 }
    go (inr y) =
        let r = stuck limits n y sheet d qs l (begin n t) (initial n t₀) (length-replicate n empty_row) refl (length-replicate n empty_row) in
        let none : rows_of d (begin n t) ≡ [] = ap (Apart.view d []) (no_rows n) in
        record { same_results = r.0; same_rows = ap (rows_of d) r.1.0 ∙ none ∙ sym (ap (λ (h : State). live_rows h.memory.table) r.1.1 ∙ no_rows n) }

-- So it gets the same in two sequences that differ only in others' events.
pub independent : (sheet : Sheet) (limits : List ℕ) (d n : ℕ) (t t' : Tally) → t.issued ≡ 0 → t'.issued ≡ 0 → (qs qs' : List Request) → Throughout limits qs → Throughout limits qs'
    → undisturbed sheet d (begin n t) qs ≡ true → undisturbed sheet d (begin n t') qs' ≡ true
    → asked sheet d (begin n t) qs ≡ asked sheet d (begin n t') qs' → Independent sheet d n t t' qs qs'
independent sheet limits d n t t' z z' qs qs' l l' u u' e =
    let a = alone sheet limits d n t t z z qs l u in
    let b = alone sheet limits d n t' t z' z qs' l' u' in
    record {
      same_results = a.same_results ∙ ap (answers (after sheet) answer (initial n t)) e ∙ sym b.same_results;
      same_rows = a.same_rows ∙ ap (λ rs. live_rows (final (after sheet) (initial n t) rs).memory.table) e ∙ sym b.same_rows;
    }
