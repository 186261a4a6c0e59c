-- Card 11, worded again: what a mark and a back do to what is lent, whatever that is; and when they are refused.
-- Assumes nothing.
use mathlib.Core.Path.{◌≡◌, refl, sym, ap, ◌∙◌}
use mathlib.Core.Bool.{Bool, true, false, not, cond, ◌&&◌, ◌||◌}
use mathlib.Core.List.{List, [], ◌∷◌}
use Prim.Native.Nat.{ℕ, zero, suc, ◌<◌, ◌≤◌}
use native.Mathlib.Omega.{arith}
use lib.Dec.{eqb, ltb}
use lib.ListN.{length, get_or}
use lib.Seq.{get_or-set_same}
use borrow.Author.Tests.{eqb-true, lt-ltb, le-ltb, ltb-true, ltb-false, not-true, not-false}
use Rattle.model.specs.declared.Cap.{Cap}
use Rattle.model.specs.declared.Sheet.{Sheet}
use Rattle.model.specs.Lists.{any, final}
use Rattle.model.specs.Requests.{Caller, Request, Mark, Back, marks}
use Rattle.model.specs.Slots.{Memory, Slot, Nothing, Stored, is_nothing, stored_or}
use Rattle.model.specs.Table.{named, live_rows, in_order}
use Rattle.model.specs.Limits.{refused_sheet}
use Rattle.model.specs.Refusals.{View, not_a_domain, table_in, unfit_slot, unfit_stored, unfit, refusals, judge}
use Rattle.model.specs.Step.{State, view, is_allowed, answer, outcome, after}
use Rattle.model.specs.Demand3.{marks_elsewhere}
use Rattle.model.specs.GoingBack.{Marked, WentBack, CameBack, before_back, after_back}
use Rattle.model.proofs.Lists.{clash, cond_same, unless, and_both, or_neither, final_append}
use Rattle.model.proofs.Judged.{allowed, in_order_lem, eight_slots, slot_kept}
use Rattle.model.proofs.Order.{ordered, found_below}
use Rattle.model.proofs.Frame.{answer_number, after_number}
use Rattle.model.proofs.Precedence.{given_first, given_holds_state}

-- ---- when they are refused

module _ (v : View) (by : Caller) (k : ℕ) where
  -- A mark is allowed of every domain, whatever it holds.
  pub mark_judged : unfit by.limits v ≡ false → by.actor < 64 → k ≤ 7 → judge v (Mark by k) ≡ 0
  unfolding judge refusals
  mark_judged f a l = rw (f, lt-ltb by.actor 64 a, le-ltb 7 k l)

  -- So is a back, where the stored table has as many rows as the present one, is in order with the names issued now, and keeps within the limits
  -- lent now; it is 1 where it is not so.
  pub back_judged : (table : List Cap) → v.slot k ≡ Stored table → unfit by.limits v ≡ false → by.actor < 64 → k ≤ 7
      → judge v (Back by k) ≡ cond (eqb (length table) (length v.table) && (in_order table v.issued && not (refused_sheet table by.limits))) 0 1
  unfolding judge refusals unfit_slot
  back_judged table e f a l = rw (e, f, lt-ltb by.actor 64 a, le-ltb 7 k l) (either (eqb (length table) (length v.table)) (in_order table v.issued) (refused_sheet table by.limits))
    where
      either : (x y z : Bool) → ◌≡◌ {A = ℕ} (cond ((not x || (not y || z)) || false) 1 0) (cond (x && (y && not z)) 0 1)
      either true true true = refl
      either true true false = refl
      either true false z = refl
      either false y z = refl

  -- 19 is given exactly where what is lent is fit, the domain and the slot are such, and nothing is stored there.
  pub nineteen_judged : unfit by.limits v ≡ false → by.actor < 64 → k ≤ 7 → v.slot k ≡ Nothing → judge v (Back by k) ≡ 19
  unfolding judge refusals unfit_slot
  nineteen_judged f a l e = rw (e, f, lt-ltb by.actor 64 a, le-ltb 7 k l)

  pub nineteen_given : judge v (Back by k) ≡ 19 → (unfit by.limits v ≡ false) × (by.actor < 64) × (k ≤ 7) × (v.slot k ≡ Nothing)
  unfolding refusals
  nineteen_given e =
      let lent = or_neither (unfit_stored v (Back by k)) (unfit by.limits v) (given_first v (Back by k) 1 (rw e (omega arith))) in
      let slot = or_neither (not_a_domain by.actor) (ltb 7 k) (given_first v (Back by k) 2 (rw e (omega arith))) in
      (lent.1, ltb-true by.actor 64 (not-false (ltb by.actor 64) slot.0), ltb-false 7 k slot.1, nothing (v.slot k) (given_holds_state v (Back by k) refl 18 e))
    where
      nothing : (s : Slot (List Cap)) → is_nothing s ≡ true → s ≡ Nothing
      nothing Nothing t = refl
      nothing (Stored table) t = clash t refl

-- ---- what they do

module _ (sheet : Sheet) (h : State) (by : Caller) (k : ℕ) where
  pub marked : (answer h (Mark by k)).refusal ≡ 0 → Marked sheet h by k
  unfolding answer refusals
  marked a =
      record {
        stored =
            ap (λ (s : State). get_or s.slots k Nothing) done
            ∙ get_or-set_same h.slots k (Stored h.memory) Nothing (omega (arith, eight_slots (view h) (Mark by k) z, ltb-false 7 k (or_neither (not_a_domain by.actor) (ltb 7 k) (allowed (view h) (Mark by k) z 2)).1));
        elsewhere = λ j e. ap (λ (s : State). get_or s.slots j Nothing) done ∙ slot_kept h.memory h.slots j (Mark by k) e;
        same_memory = ap (λ (s : State). s.memory) done;
        same_tally = ap (λ (s : State). s.tally) done;
        no_name = cond_same (eqb (judge (view h) (Mark by k)) 0) 0;
      }
    where
      z : judge (view h) (Mark by k) ≡ 0
      z = answer_number h (Mark by k) 0 a

      done : after sheet h (Mark by k) ≡ outcome sheet 0 h (Mark by k)
      done = after_number sheet h (Mark by k) 0 a

  pub went_back : (answer h (Back by k)).refusal ≡ 0 → WentBack sheet h by k
  unfolding answer refusals
  went_back a =
      record {
        brought = found (get_or h.slots k Nothing) (allowed (view h) (Back by k) (answer_number h (Back by k) 0 a) 19) ∙ ap {B = Slot Memory} (λ (s : State). Stored s.memory) (sym done);
        same_tally = ap (λ (s : State). s.tally) done;
        same_slots = ap (λ (s : State). s.slots) done;
        no_name = cond_same (eqb (judge (view h) (Back by k)) 0) 0;
      }
    where
      done : after sheet h (Back by k) ≡ outcome sheet 0 h (Back by k)
      done = after_number sheet h (Back by k) 0 a

      found : (s : Slot Memory) → is_nothing (table_in s) ≡ false → s ≡ Stored (stored_or h.memory s)
      found Nothing f = clash refl f
      found (Stored m) f = refl

-- ---- from a mark to a back

-- "only marks change it": a request that makes no mark there leaves what is stored in a slot, allowed or not
pub slot_stays : (sheet : Sheet) (h : State) (q : Request) (k : ℕ) → marks k q ≡ false → get_or (after sheet h q).slots k Nothing ≡ get_or h.slots k Nothing
unfolding after
slot_stays sheet h q k e = go (judge (view h) q)
  where
    go : (j : ℕ) → get_or (outcome sheet j h q).slots k Nothing ≡ get_or h.slots k Nothing
    go zero = slot_kept h.memory h.slots k q e
    go (suc zero) = refl
    go (suc (suc j)) = refl

slot_final : (sheet : Sheet) (k : ℕ) (qs : List Request) (h : State) → marks_elsewhere k qs ≡ true → get_or (final (after sheet) h qs).slots k Nothing ≡ get_or h.slots k Nothing
slot_final sheet k [] h e = refl
slot_final sheet k (q ∷ qs) h e =
    let p = and_both (not (marks k q)) (marks_elsewhere k qs) e in
    slot_final sheet k qs (after sheet h q) p.1 ∙ slot_stays sheet h q k (not-true (marks k q) p.0)

pub came_back : (sheet : Sheet) (h : State) (by by' : Caller) (k : ℕ) (fs : List Request) → marks_elsewhere k fs ≡ true
    → is_allowed (answer h (Mark by k)) ≡ true → is_allowed (answer (before_back sheet h by by' k fs) (Back by' k)) ≡ true → CameBack sheet h by by' k fs
came_back sheet h by by' k fs e a b =
    record {
      same_memory = same;
      same_tally = ap (λ (s : State). s.tally) last ∙ back.same_tally;
      ended_since = λ x l. ap (λ (m : Memory). any (named x) (live_rows m.table)) same ∙ unless (any (named x) (live_rows h.memory.table)) (λ t. too_late h.tally.issued x l (below x t));
    }
  where
    last : after_back sheet h by by' k fs ≡ after sheet (before_back sheet h by by' k fs) (Back by' k)
    last = final_append (after sheet) (after sheet h (Mark by k)) fs (Back by' k ∷ [])

    first : (answer h (Mark by k)).refusal ≡ 0
    first = eqb-true (answer h (Mark by k)).refusal 0 a

    back : WentBack sheet (before_back sheet h by by' k fs) by' k
    back = went_back sheet (before_back sheet h by by' k fs) by' k (eqb-true (answer (before_back sheet h by by' k fs) (Back by' k)).refusal 0 b)

    -- what the back finds is what the mark stored
    same : (after_back sheet h by by' k fs).memory ≡ h.memory
    same =
        ap (λ (s : State). s.memory) last
        ∙ ap (stored_or h.memory) (sym back.brought ∙ slot_final sheet k fs (after sheet h (Mark by k)) e ∙ (marked sheet h by k first).stored)

    below : (x : ℕ) → any (named x) (live_rows h.memory.table) ≡ true → x < suc h.tally.issued
    below x = found_below (suc h.tally.issued) (live_rows h.memory.table) x (ordered h.memory.table h.tally.issued (in_order_lem (view h) (Mark by k) (answer_number h (Mark by k) 0 first))).rise

    too_late : (i x : ℕ) → i < x → x < suc i → ⊥
    too_late i x l m = omega arith
