-- Card 10: live rows under one sheet of limits. They stay in order and within the limits, and are judged by their checks alone.
-- Assumes nothing.
use mathlib.Core.Path.{◌≡◌, ap₂, ◌∙◌}
use mathlib.Core.Bool.{Bool, true, false}
use mathlib.Core.List.{List}
use Prim.Native.Nat.{ℕ, suc, ◌+◌, ◌<◌, ◌≤◌}
use native.Mathlib.Omega.{arith}
use lib.ListN.{length}
use borrow.Author.Tests.{leb-true, le-leb, le-ltb, ltb-true}
use Rattle.model.specs.declared.Cap.{Cap}
use Rattle.model.specs.declared.Sheet.{Sheet}
use Rattle.model.specs.Lists.{first}
use Rattle.model.specs.Requests.{Limited, Request, caller_of, turns_state}
use Rattle.model.specs.Slots.{Slot}
use Rattle.model.specs.Table.{derivation, live_rows, lent_table, terms_in_order, rows_in_order, in_order}
use Rattle.model.specs.Limits.{sum, exceeds, refused_sheet}
use Rattle.model.specs.Refusals.{View, unfit_table, checks, refusals, judge}
use Rattle.model.specs.Effects.{rows_after, issued_after}
use Rattle.model.proofs.Lists.{All, All_map}
use Rattle.model.proofs.Lent.{Named, live_lent, length_lent}
use Rattle.model.proofs.Limits.{fewer_than_limits}
use Rattle.model.proofs.Judged.{in_order_lem, no_slot}
use Rattle.model.proofs.Order.{live_rows_first_lent, terms_given, fitting, Ordered, ordered, next_named, names_enough, next_rows_in_order, exceeds_next}

-- the sheet is not refused for its length or its sum
pub record Fits (limits : List ℕ) (n : ℕ) : Type 0 where
  pub few : n ≤ 1024
  pub sixty_four : length limits ≡ 64
  pub enough : sum limits ≤ n

pub record Within (limits : List ℕ) (issued : ℕ) (rows : List Cap) : Type 0 where
  pub are_named : Named rows
  pub rise : rows_in_order (suc issued) rows ≡ true
  pub names_left : issued ≤ 1000000
  pub unexceeded : exceeds 0 rows limits ≡ false

pub owned : (limits : List ℕ) (i : ℕ) (rows : List Cap) → Within limits i rows → All (λ c. terms_in_order (derivation c) ≡ true) rows
owned limits i rows k = terms_given (suc i) rows k.rise

module _ (limits : List ℕ) (n : ℕ) (f : Fits limits n) (i : ℕ) (rows : List Cap) (k : Within limits i rows) where
  few_rows : length rows ≤ n
  few_rows = omega (arith, f.enough, fewer_than_limits limits 0 rows (All_map _ _ domain rows (owned limits i rows k)) k.unexceeded)
    where
      domain : (c : Cap) → terms_in_order (derivation c) ≡ true → (0 ≤ c.maker) × (c.maker < 0 + length limits)
      domain c h = let l = ltb-true c.maker 64 (fitting (derivation c) h).has_domain in (omega arith, omega (arith, f.sixty_four))

  pub live : live_rows (lent_table n rows) ≡ rows
  live = live_lent n rows k.are_named

  pub size : length (lent_table n rows) ≡ n
  size = length_lent n rows few_rows

  pub fit : unfit_table (Limited limits) (lent_table n rows) i ≡ false
  unfolding refused_sheet in_order
  fit =
      rw (
        size,
        live,
        le-leb n 1024 f.few,
        live_rows_first_lent n rows k.are_named,
        le-leb i 1000000 k.names_left,
        k.rise,
        f.sixty_four,
        le-ltb n (sum limits) f.enough,
        k.unexceeded,
      )

  module _ (is_written : ℕ → Bool) (slot : ℕ → Slot (List Cap)) where
    -- what a request is judged on
    abbrev here : View
    here = record { table = lent_table n rows; issued = i; is_written = is_written; bytes = 8192; slot = slot; slot_count = 8 }

    judged : (q : Request) → turns_state q ≡ false → (caller_of q).limits ≡ Limited limits → judge here q ≡ first (checks rows i is_written slot n q)
    unfolding judge refusals
    judged q t l = rw (l, no_slot here q t, fit) (ap₂ (λ r m. first (checks r i is_written slot m q)) live size)

    module _ (sheet : Sheet) where
      module _ (q : Request) (z : judge here q ≡ 0) where
        in_place : Ordered (lent_table n rows) i
        in_place = ordered (lent_table n rows) i (in_order_lem here q z)

      pub kept_by : (q : Request) → turns_state q ≡ false → (caller_of q).limits ≡ Limited limits → first (checks rows i is_written slot n q) ≡ 0 → Within limits (issued_after i q) (rows_after sheet i rows q)
      kept_by q t l h =
          let z : judge here q ≡ 0 = judged q t l ∙ h in
          record {
            are_named = rw live at (next_named sheet here (in_place q z) q);
            rise = rw live at (next_rows_in_order sheet here (in_place q z) q z);
            names_left = leb-true (issued_after i q) 1000000 (names_enough sheet here (in_place q z) q z);
            unexceeded = rw live at (exceeds_next sheet here (in_place q z) limits q l z (rw live k.unexceeded));
          }
