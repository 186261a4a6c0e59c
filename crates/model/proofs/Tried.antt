-- Card 10, tried: what is said of the sequences of specs/Tried, computed.
-- Assumes nothing.
use mathlib.Core.Path.{◌≡◌, refl, sym, ap, ◌∙◌}
use mathlib.Core.Bool.{true, false}
use mathlib.Core.List.{List, [], ◌∷◌}
use Prim.Native.Nat.{ℕ}
use native.Mathlib.Omega.{arith}
use lib.ListN.{get_or}
use Rattle.model.specs.Derivation.{ancestry, on_ancestry}
use Rattle.model.specs.Strike.{origin, strike, reached, struck}
use Rattle.model.specs.Sheet6.{sheet6}
use Rattle.model.specs.Table.{terms_in_order, live_rows, lent_table, lookup, is_empty_row, live_rows_first, row_fits_parent, parent_in_order, row_in_order, rows_in_order, in_order}
use Rattle.model.specs.Limits.{exceeds, refused_sheet, no_row, limit_reached}
use Rattle.model.specs.Refusals.{not_written, unfit_slot, standings, refusals, judge}
use Rattle.model.specs.Bits.{has_bit, with_bit, bit_at, put_at, put_from, bits_after, all_written}
use Rattle.model.specs.Effects.{revoke, after_access, rows_without, rows_after}
use Rattle.model.specs.Requests.{rises_above, rises_strictly, is_group}
use Rattle.model.specs.Step.{Verdict, verdict, answer, after, state_after}
use Rattle.model.specs.Independence.{ordinal, recounted, uses_its_own, spares, supposed, begin, asked, answered, undisturbed, Throughout, Independent}
use Rattle.model.specs.TreesApart.{last_name, tree, roots_apart, live}
use Rattle.model.specs.Tried.{no_counts, limits, mixed, nearly_alone, answers_to3, crowded, uncrowded, crowded_answers, uncrowded_answers, names_and_rights, planted, written, created_over, sparing_sheet, overlapping, read_there}
use Rattle.model.proofs.Independence.{independent}

-- ---- independence

-- The two sequences meet what is supposed of them, and domain 3 asks for the same in both.
supposed_met : (undisturbed sheet6 3 (begin 8 no_counts) mixed ≡ true)
    × (undisturbed sheet6 3 (begin 8 no_counts) nearly_alone ≡ true)
    × (asked sheet6 3 (begin 8 no_counts) mixed ≡ asked sheet6 3 (begin 8 no_counts) nearly_alone)
    × (answered sheet6 3 (begin 8 no_counts) mixed ≡ answers_to3)
unfolding mixed nearly_alone asked answered recounted undisturbed supposed uses_its_own spares ordinal ancestry origin strike on_ancestry reached struck live_rows lent_table lookup is_empty_row live_rows_first row_fits_parent parent_in_order row_in_order rows_in_order in_order refusals judge revoke after_access rows_after answer after rises_above rises_strictly is_group standings rows_without terms_in_order not_written unfit_slot exceeds refused_sheet no_row limit_reached has_bit with_bit bit_at put_at put_from bits_after all_written
supposed_met = (refl, refl, refl, refl)

mixed_limits : Throughout limits mixed
unfolding mixed
mixed_limits = (refl, (refl, (refl, (refl, (refl, (refl, (refl, (refl, (refl, (refl, (refl, (refl, (refl, (refl, (refl, (refl, (refl, (refl, (refl, (refl, (refl, (refl, (refl, (refl, tt))))))))))))))))))))))))

alone_limits : Throughout limits nearly_alone
unfolding nearly_alone
alone_limits = (refl, (refl, (refl, (refl, (refl, (refl, (refl, (refl, (refl, (refl, (refl, (refl, (refl, (refl, (refl, (refl, (refl, tt)))))))))))))))))

pub tried : Independent sheet6 3 8 no_counts no_counts mixed nearly_alone
tried = independent sheet6 limits 3 8 no_counts no_counts refl refl mixed nearly_alone mixed_limits alone_limits supposed_met.0 supposed_met.1 supposed_met.2

-- So it is answered the same in both, and these are its answers: 16, 18 and 5 among them, and a mark and a back.
pub tried_answers : (answered sheet6 3 (begin 8 no_counts) mixed ≡ answers_to3) × (answered sheet6 3 (begin 8 no_counts) nearly_alone ≡ answers_to3)
tried_answers = (supposed_met.3, sym tried.same_results ∙ supposed_met.3)

-- ---- without limits

-- Two sequences of which all is true that independence supposes but that limits are lent, and domain 3 asks for the same in both.
pub crowded_differs : (undisturbed sheet6 3 (begin 2 no_counts) crowded ≡ true)
    × (undisturbed sheet6 3 (begin 2 no_counts) uncrowded ≡ true)
    × (asked sheet6 3 (begin 2 no_counts) crowded ≡ asked sheet6 3 (begin 2 no_counts) uncrowded)
    × (answered sheet6 3 (begin 2 no_counts) crowded ≡ crowded_answers)
    × (answered sheet6 3 (begin 2 no_counts) uncrowded ≡ uncrowded_answers)
unfolding crowded uncrowded asked answered recounted undisturbed supposed uses_its_own spares ordinal ancestry origin strike on_ancestry reached struck live_rows lent_table lookup is_empty_row live_rows_first row_fits_parent parent_in_order row_in_order rows_in_order in_order refusals judge revoke after_access rows_after answer after terms_in_order exceeds refused_sheet no_row limit_reached has_bit with_bit bit_at put_at put_from bits_after
crowded_differs = (refl, refl, refl, refl, refl)

-- Its answers differ.
pub limits_needed : answered sheet6 3 (begin 2 no_counts) crowded ≡ answered sheet6 3 (begin 2 no_counts) uncrowded → ⊥
limits_needed e =
    let same : crowded_answers ≡ uncrowded_answers = sym crowded_differs.3 ∙ e ∙ crowded_differs.4 in
    let second : ◌≡◌ {A = ℕ} 10 0 = ap (λ (answers : List Verdict). (get_or answers 1 (verdict 0 0)).refusal) same in
    omega arith

-- ---- trees

-- The trees before and after a write through 2, and after a create that touches 2: that of 1 stays as it is.
pub planted_trees :
    (roots_apart (live (state_after sheet6 8 no_counts planted)) ≡ true)
    × (names_and_rights (tree (live (state_after sheet6 8 no_counts planted)) 1) ≡ (1, 2) ∷ [])
    × (names_and_rights (tree (live (state_after sheet6 8 no_counts planted)) 2) ≡ (3, 2) ∷ (2, 2) ∷ [])
    × (names_and_rights (tree (live (after sheet6 (state_after sheet6 8 no_counts planted) written)) 1) ≡ (1, 2) ∷ [])
    × (names_and_rights (tree (live (after sheet6 (state_after sheet6 8 no_counts planted) written)) 2) ≡ (2, 2) ∷ [])
    × (names_and_rights (tree (live (after sheet6 (state_after sheet6 8 no_counts planted) created_over)) 1) ≡ (1, 2) ∷ [])
    × (names_and_rights (tree (live (after sheet6 (state_after sheet6 8 no_counts planted) created_over)) 2) ≡ [])
    × (names_and_rights (tree (live (after sheet6 (state_after sheet6 8 no_counts planted) created_over)) 4) ≡ (4, 2) ∷ [])
unfolding planted last_name roots_apart ancestry origin strike on_ancestry reached struck live_rows lent_table lookup is_empty_row live_rows_first row_fits_parent parent_in_order row_in_order rows_in_order in_order refusals judge revoke after_access rows_after after terms_in_order exceeds refused_sheet no_row limit_reached has_bit with_bit bit_at put_at put_from bits_after
planted_trees = (refl, refl, refl, refl, refl, refl, refl, refl)

-- By a sheet whose strangers' writes keep, two roots share addresses, and a read through 2 lowers 1.
pub roots_overlap :
    (roots_apart (live (state_after sparing_sheet 8 no_counts overlapping)) ≡ false)
    × (names_and_rights (tree (live (state_after sparing_sheet 8 no_counts overlapping)) 1) ≡ (1, 2) ∷ [])
    × (names_and_rights (tree (live (after sparing_sheet (state_after sparing_sheet 8 no_counts overlapping) read_there)) 1) ≡ (1, 1) ∷ [])
unfolding overlapping last_name roots_apart ancestry origin strike on_ancestry reached struck live_rows lent_table lookup is_empty_row live_rows_first row_fits_parent parent_in_order row_in_order rows_in_order in_order refusals judge revoke after_access rows_after after terms_in_order exceeds refused_sheet no_row limit_reached has_bit with_bit bit_at put_at put_from bits_after not_written all_written
roots_overlap = (refl, refl, refl)
