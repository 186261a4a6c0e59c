-- Card 5, "frames dropped together": how a group is judged, and that it leaves what single drops in falling order of name leave.
-- Assumes nothing.
use mathlib.Core.Path.{◌≡◌, refl, sym, ap, ◌∙◌}
use mathlib.Core.Logic.{◌⊎◌, inl, inr}
use mathlib.Core.Bool.{Bool, true, false, not, cond, ◌&&◌, ◌||◌, or-true, or-false}
use mathlib.Core.List.{List, [], ◌∷◌, ◌++◌, map, map-append, reverse, reverse-cons}
use Prim.Native.Nat.{ℕ, zero, suc, ◌<◌, ◌≤◌}
use native.Mathlib.Omega.{arith}
use lib.Dec.{eqb, ltb}
use lib.ListN.{length}
use borrow.Author.Tests.{eqb-true, eq-eqb, ne_eqb, not-true, not-false}
use Rattle.model.specs.declared.Cap.{Cap}
use Rattle.model.specs.declared.Event.TheVariants.{Drop}
use Rattle.model.specs.declared.Sheet.{Sheet}
use Rattle.model.specs.Lists.{filter, any, all, first, final, answers}
use Rattle.model.specs.Requests.{Caller, Request, Single, Group, rises_above, rises_strictly, is_group, single_drops}
use Rattle.model.specs.Derivation.{ancestry, in_subtree}
use Rattle.model.specs.Table.{is_domain, lookup, derivation, derivations, named, live_rows, lent_table, rows_in_order, in_order}
use Rattle.model.specs.Refusals.{not_a_domain, not_a_holder, unfit, View, standing, standings, refusals, judge}
use Rattle.model.specs.Effects.{revoke, in_subtrees, rows_without, rows_after}
use Rattle.model.specs.Bits.{bits_after}
use Rattle.model.specs.Limits.{refused_sheet}
use Rattle.model.proofs.Limits.{made_revoke, sheet_fewer}
use Rattle.model.specs.Step.{State, view, is_allowed, answer, outcome, after}
use Rattle.model.specs.History.{Note, History, Dropped, notes_of}
use Rattle.model.specs.History
use Rattle.model.proofs.Lists.{test, All, All_map, All_of, All_sub, and_both, or_neither, and_neither, any_false, any_kept, passes, filter_cong, filter_filter, filter_map, filter_all, length_filter, map_id, all_append, final_append, answers_append}
use Rattle.model.proofs.Ancestries.{Closed, ancestry_kept, ancestry_upto}
use Rattle.model.proofs.Lent.{Named, live_lent, length_lent}
use Rattle.model.proofs.Judged.{allowed, Stands, Rising, group_rises, group_held, length_live, in_order_lem, sized, Held, sheet_allowed, eight_slots}
use Rattle.model.proofs.Order.{lookup_left, group_step, rows_in_order_falling, live_named, ordered, order_final}
use Rattle.model.proofs.Rows.{lent_live}
use Rattle.model.proofs.Match.{Match, same_judge, run}

-- ---- the number given

-- 1 comes before all, and 13 next.
pub disordered_first : (v : View) (by : Caller) (names : List ℕ) → unfit by.limits v ≡ true → judge v (Group by names) ≡ 1
unfolding judge refusals
disordered_first v by names d = rw d

misgrouped_next : (v : View) (by : Caller) (names : List ℕ) → unfit by.limits v ≡ false → is_group names ≡ false → judge v (Group by names) ≡ 13
unfolding judge refusals
misgrouped_next v by names o g = rw (o, g)

-- Then "the first name refused gives the number", each judged on the same table.
caught : (unissued ended unheld : Bool) (rest k : ℕ) → cond unissued 4 (cond ended 5 (cond unheld 17 0)) ≡ suc k → cond unissued 4 (cond ended 5 (cond unheld 17 rest)) ≡ suc k
caught true e h rest k z = z
caught false true h rest k z = z
caught false false true rest k z = z
caught false false false rest k z = absurd (none z)
  where
    none : ◌≡◌ {A = ℕ} 0 (suc k) → ⊥
    none q = omega arith

passed : (unissued ended unheld : Bool) (rest : ℕ) → ◌≡◌ {A = ℕ} (cond unissued 4 (cond ended 5 (cond unheld 17 0))) 0 → cond unissued 4 (cond ended 5 (cond unheld 17 rest)) ≡ rest
passed true e h rest z = absurd (four z)
  where
    four : ◌≡◌ {A = ℕ} 4 0 → ⊥
    four q = omega arith
passed false true h rest z = absurd (five z)
  where
    five : ◌≡◌ {A = ℕ} 5 0 → ⊥
    five q = omega arith
passed false false true rest z = absurd (seventeen z)
  where
    seventeen : ◌≡◌ {A = ℕ} 17 0 → ⊥
    seventeen q = omega arith
passed false false false rest z = refl

module _ (rows : List Cap) (issued : ℕ) (actor : ℕ) where
  abbrev number : ℕ → ℕ
  number u = first (standing rows issued actor (record { 0 = u }))

  -- a name that is refused gives the number, whatever comes later
  pub name_refused : (u : ℕ) (later : List ℕ) (k : ℕ) → number u ≡ suc k → first (standings rows issued actor (u ∷ later)) ≡ suc k
  unfolding standings
  name_refused u later k z = caught (eqb u 0 || ltb issued u) (not (any (named u) rows)) (not_a_holder rows issued actor (record { 0 = u })) _ k z

  -- after a name that is not refused, the later ones give it
  pub name_passed : (u : ℕ) (later : List ℕ) → number u ≡ 0 → first (standings rows issued actor (u ∷ later)) ≡ first (standings rows issued actor later)
  unfolding standings
  name_passed u later z = passed (eqb u 0 || ltb issued u) (not (any (named u) rows)) (not_a_holder rows issued actor (record { 0 = u })) _ z

  in_turn_lem : (before : List ℕ) (x : ℕ) (later : List ℕ) (k : ℕ) → All (λ u. number u ≡ 0) before → number x ≡ suc k → first (standings rows issued actor (before ++ (x ∷ later))) ≡ suc k
  in_turn_lem [] x later k a z = name_refused x later k z
  in_turn_lem (u ∷ before) x later k a z = name_passed u (before ++ (x ∷ later)) a.0 ∙ in_turn_lem before x later k a.1 z

  all_passed : (names : List ℕ) → All (λ u. number u ≡ 0) names → first (standings rows issued actor names) ≡ 0
  unfolding standings
  all_passed [] a = refl
  all_passed (u ∷ names) a = name_passed u names a.0 ∙ all_passed names a.1

-- It is the number that a single drop of that name gets on the same table.
pub first_refused : (v : View) (by : Caller) (before : List ℕ) (x : ℕ) (later : List ℕ) (k : ℕ) → unfit by.limits v ≡ false → is_group (before ++ (x ∷ later)) ≡ true
    → All (λ u. judge v (Single by (Drop (record { 0 = u }))) ≡ 0) before → judge v (Single by (Drop (record { 0 = x }))) ≡ suc k → judge v (Group by (before ++ (x ∷ later))) ≡ suc k
unfolding judge refusals
first_refused v by before x later k o g a z = rw (o, g) (go (test (not_a_domain by.actor)))
  where
    go : (not_a_domain by.actor ≡ true) ⊎ (not_a_domain by.actor ≡ false) → cond (not_a_domain by.actor) 2 (first (standings (live_rows v.table) v.issued by.actor (before ++ (x ∷ later)))) ≡ suc k
    go (inl d) = rw d (rw (o, d) at z)
    go (inr d) = rw d (in_turn_lem (live_rows v.table) v.issued by.actor before x later k (All_map _ _ (λ u e. rw (o, d) at e) before a) (rw (o, d) at z))

-- Where none is refused, the group is allowed.
pub none_refused : (v : View) (by : Caller) (names : List ℕ) → unfit by.limits v ≡ false → is_domain by.actor ≡ true → is_group names ≡ true → All (λ u. judge v (Single by (Drop (record { 0 = u }))) ≡ 0) names
    → judge v (Group by names) ≡ 0
unfolding judge refusals
none_refused v by names o d g a = rw (o, d, g) (all_passed (live_rows v.table) v.issued by.actor names (All_map _ _ (λ u e. rw (o, d) at e) names a))

-- ---- rows in order without some names

-- the rows that are left stay as they are
pub without_left : (names : List ℕ) (rows : List Cap) → rows_without names rows ≡ filter (λ c. not (in_subtrees names (ancestry (derivations rows) c.name.0))) rows
unfolding rows_without revoke
without_left names rows = map_id _

-- what has no ancestry is in no subtree
pub group_none : (names : List ℕ) → in_subtrees names [] ≡ false
group_none names = any_false (λ u. in_subtree u []) names (All_of _ (λ u. refl) names)

module _ (bound : ℕ) (rows : List Cap) (n : Named rows) (h : rows_in_order bound rows ≡ true) where
  module _ (names : List ℕ) where
    abbrev kept : ℕ → Bool
    kept x = not (in_subtrees names (ancestry (derivations rows) x))

    abbrev left : List Cap
    left = filter (λ c. kept c.name.0) rows

    parents_kept : Closed kept (derivations rows)
    parents_kept = mapped rows (group_step bound rows n h names)
      where
        up : (c : Cap) → in_subtrees names (ancestry (derivations rows) c.name.0) ≡ any (λ u. eqb u c.name.0) names || in_subtrees names (ancestry (derivations rows) c.parent.0)
            → kept c.name.0 ≡ true → eqb c.parent.0 0 || kept c.parent.0 ≡ true
        up c e k =
            rw (or_neither (any (λ u. eqb u c.name.0) names) (in_subtrees names (ancestry (derivations rows) c.parent.0)) (sym e ∙ not-true (in_subtrees names (ancestry (derivations rows) c.name.0)) k)).1
            (or-true (eqb c.parent.0 0))

        mapped : (l : List Cap) → All (λ c. in_subtrees names (ancestry (derivations rows) c.name.0) ≡ any (λ u. eqb u c.name.0) names || in_subtrees names (ancestry (derivations rows) c.parent.0)) l
            → All (λ b. kept b.name ≡ true → eqb b.parent 0 || kept b.parent ≡ true) (derivations l)
        mapped [] a = tt
        mapped (c ∷ l) a = (up c a.0, mapped l a.1)

    ancestry_left : (x : ℕ) → kept x ≡ true → ancestry (derivations left) x ≡ ancestry (derivations rows) x
    ancestry_left x k =
        rw (← filter_map derivation (λ b. kept b.name) rows)
        (ancestry_kept kept bound (derivations rows) (rows_in_order_falling bound rows n h) parents_kept x (rw k (or-true (eqb x 0))))

    -- one more name dropped from what is left
    pub without_more : (x : ℕ) → rows_without (x ∷ []) (rows_without names rows) ≡ rows_without (x ∷ names) rows
    unfolding rows_without revoke
    without_more x =
        ap (rows_without (x ∷ [])) (without_left names rows)
        ∙ map_id _
        ∙ filter_cong (λ c. not (in_subtrees (x ∷ []) (ancestry (derivations left) c.name.0))) (λ c. not (in_subtree x (ancestry (derivations rows) c.name.0))) left
        (All_map _ _ (λ c k. ap not (or-false (in_subtree x (ancestry (derivations left) c.name.0)) ∙ ap (in_subtree x) (ancestry_left c.name.0 k))) left (passes (λ c. kept c.name.0) rows))
        ∙ filter_filter (λ c. kept c.name.0) (λ c. not (in_subtree x (ancestry (derivations rows) c.name.0))) rows
        ∙ filter_cong _ _ rows (All_of _ (λ c. sym (and_neither true (in_subtree x (ancestry (derivations rows) c.name.0)) (in_subtrees names (ancestry (derivations rows) c.name.0)))) rows)
        ∙ sym (map_id _)

    -- a name below those dropped is not ended by them
    smaller_kept : (x : ℕ) → All (λ u. x < u) names → kept x ≡ true
    smaller_kept x a = ap not (any_false (λ u. in_subtree u (ancestry (derivations rows) x)) names (All_map _ _ off names a))
      where
        off : (u : ℕ) → x < u → in_subtree u (ancestry (derivations rows) x) ≡ false
        off u l = any_false (λ d. eqb u d.name) (ancestry (derivations rows) x) (All_map _ _ (λ d k. ne_eqb u d.name (λ (e : u ≡ d.name). omega arith)) (ancestry (derivations rows) x) (ancestry_upto bound x (derivations rows) (rows_in_order_falling bound rows n h)))

    pub smaller_found : (x : ℕ) → All (λ u. x < u) names → lookup x (rows_without names rows) ≡ lookup x rows
    smaller_found x a = rw (without_left names rows) (lookup_left (λ x. in_subtrees names (ancestry (derivations rows) x)) x (not-true (in_subtrees names (ancestry (derivations rows) x)) (smaller_kept x a)) rows)

    pub smaller_stays : (x : ℕ) → All (λ u. x < u) names → any (named x) (rows_without names rows) ≡ any (named x) rows
    smaller_stays x a = rw (without_left names rows) (any_kept (λ c. c.name.0) kept x (smaller_kept x a) rows)

-- ---- single drops in falling order

pub single_drops_cons : (by : Caller) (x : ℕ) (names : List ℕ) → single_drops by (x ∷ names) ≡ single_drops by names ++ (Single by (Drop (record { 0 = x })) ∷ [])
single_drops_cons by x names = rw (reverse-cons x names) (map-append (λ u. Single by (Drop (record { 0 = u }))) (reverse names) (x ∷ []))

-- the rows that a group leaves fit where they stood
module _ (t : List Cap) (names : List ℕ) where
  without_named : Named (rows_without names (live_rows t))
  without_named = rw (without_left names (live_rows t)) (All_sub _ _ (live_rows t) (live_named t))

  without_fits : length (rows_without names (live_rows t)) ≤ length t
  without_fits = rw (without_left names (live_rows t)) (omega (arith, length_filter (λ c. not (in_subtrees names (ancestry (derivations (live_rows t)) c.name.0))) (live_rows t), length_live t))

module _ (sheet : Sheet) where
  -- what single drops in falling order leave, each of which is allowed in its turn
  pub record Singly (h : State) (by : Caller) (names : List ℕ) : Type 0 where
    pub each_allowed : all is_allowed (answers (after sheet) answer h (single_drops by names)) ≡ true
    pub table_left : (final (after sheet) h (single_drops by names)).memory.table ≡ lent_table (length h.memory.table) (rows_without names (live_rows h.memory.table))
    pub issued_left : (final (after sheet) h (single_drops by names)).tally.issued ≡ h.tally.issued
    pub bits_left : (final (after sheet) h (single_drops by names)).memory.bits ≡ h.memory.bits
    pub slots_left : (final (after sheet) h (single_drops by names)).slots ≡ h.slots

  module _ (h : State) (o : in_order h.memory.table h.tally.issued ≡ true) (b : length h.memory.bits ≡ 8192) (e8 : length h.slots ≡ 8) (by : Caller) (d : is_domain by.actor ≡ true) (r : refused_sheet h.memory.table by.limits ≡ false) where
    abbrev rows : List Cap
    rows = live_rows h.memory.table

    dropped_none : rows_without [] rows ≡ rows
    dropped_none = without_left [] rows ∙ filter_all _ rows (All_of _ (λ c. refl) rows)

    -- one more drop, of a smaller name
    module _ (x : ℕ) (names : List ℕ) (below : All (λ u. x < u) names) (stands : Stands rows h.tally.issued x) (held : Held rows by x) (s : Singly h by names) where
      abbrev then : State
      then = final (after sheet) h (single_drops by names)

      -- fewer rows are no more over a limit
      sheet_left : refused_sheet then.memory.table by.limits ≡ false
      unfolding rows_without
      sheet_left =
          ap (λ t. refused_sheet t by.limits) s.table_left
          ∙ sheet_fewer by.limits h.memory.table (lent_table (length h.memory.table) (rows_without names rows)) (length_lent (length h.memory.table) (rows_without names rows) (without_fits h.memory.table names))
          (λ e. rw (live_lent (length h.memory.table) (rows_without names rows) (without_named h.memory.table names)) (made_revoke e _ _ rows)) r

      drop_allowed : judge (view then) (Single by (Drop (record { 0 = x }))) ≡ 0
      unfolding judge refusals
      drop_allowed =
          rw (sheet_left, d, order_final sheet (single_drops by names) h o, s.bits_left, b, s.slots_left, e8, s.table_left, s.issued_left, live_lent (length h.memory.table) (rows_without names rows) (without_named h.memory.table names))
          (rw (
            stands.0,
            smaller_stays (suc h.tally.issued) rows (live_named h.memory.table) (ordered h.memory.table h.tally.issued o).rise names x below,
            stands.1,
            smaller_found (suc h.tally.issued) rows (live_named h.memory.table) (ordered h.memory.table h.tally.issued o).rise names x below,
            held,
          ))

      abbrev drop : List Request
      drop = Single by (Drop (record { 0 = x })) ∷ []

      answer_allowed : is_allowed (answer then (Single by (Drop (record { 0 = x })))) ≡ true
      unfolding answer
      answer_allowed = eq-eqb _ 0 drop_allowed

      left_then : (after sheet then (Single by (Drop (record { 0 = x })))).memory.table ≡ lent_table (length h.memory.table) (rows_without (x ∷ names) rows)
      unfolding after rows_after
      left_then =
          rw (
            drop_allowed,
            s.table_left,
            length_lent (length h.memory.table) (rows_without names rows) (without_fits h.memory.table names),
            live_lent (length h.memory.table) (rows_without names rows) (without_named h.memory.table names),
          )
          (ap (lent_table (length h.memory.table)) (without_more (suc h.tally.issued) rows (live_named h.memory.table) (ordered h.memory.table h.tally.issued o).rise names x))

      issued_then : (after sheet then (Single by (Drop (record { 0 = x })))).tally.issued ≡ h.tally.issued
      unfolding after
      issued_then = rw drop_allowed s.issued_left

      bits_then : (after sheet then (Single by (Drop (record { 0 = x })))).memory.bits ≡ h.memory.bits
      unfolding after bits_after
      bits_then = rw drop_allowed s.bits_left

      slots_then : (after sheet then (Single by (Drop (record { 0 = x })))).slots ≡ h.slots
      unfolding after
      slots_then = rw drop_allowed s.slots_left

      singly_more : Singly h by (x ∷ names)
      singly_more =
          record {
            each_allowed =
                rw (single_drops_cons by x names, answers_append (after sheet) answer h (single_drops by names) drop, all_append is_allowed (answers (after sheet) answer h (single_drops by names)) (answers (after sheet) answer then drop), s.each_allowed)
                (rw answer_allowed);
            table_left = rw (single_drops_cons by x names, final_append (after sheet) h (single_drops by names) drop) left_then;
            issued_left = rw (single_drops_cons by x names, final_append (after sheet) h (single_drops by names) drop) issued_then;
            bits_left = rw (single_drops_cons by x names, final_append (after sheet) h (single_drops by names) drop) bits_then;
            slots_left = rw (single_drops_cons by x names, final_append (after sheet) h (single_drops by names) drop) slots_then;
          }

    singly_rising : (names : List ℕ) → Rising names → All (λ u. Stands rows h.tally.issued u × Held rows by u) names → Singly h by names
    singly_rising [] i a =
        record {
          each_allowed = refl;
          table_left = sym (rw dropped_none (lent_live h.memory.table (ordered h.memory.table h.tally.issued o).rest_is_empty));
          issued_left = refl;
          bits_left = refl;
          slots_left = refl;
        }
    singly_rising (x ∷ names) i a = singly_more x names i.0 a.0.0 a.0.1 (singly_rising names i.1 a.1)

  -- Single drops in falling order of name, where the group is allowed: "Allowed, it leaves the table .. that single drops in falling order of
  -- name leave".
  module _ (h : State) (by : Caller) (names : List ℕ) (a : is_allowed (answer h (Group by names)) ≡ true) where
    group_judged : judge (view h) (Group by names) ≡ 0
    unfolding answer
    group_judged = eqb-true _ 0 a

    pub group_singly : Singly h by names
    unfolding refusals
    group_singly =
        singly_rising h (in_order_lem (view h) (Group by names) group_judged) (sized (view h) (Group by names) group_judged) (eight_slots (view h) (Group by names) group_judged) by (not-false (is_domain by.actor) (allowed (view h) (Group by names) group_judged 2)) (sheet_allowed (view h) (Group by names) group_judged) names
        (group_rises (view h) by names group_judged)
        (group_held (view h) by names group_judged)

    pub group_table : (after sheet h (Group by names)).memory.table ≡ (final (after sheet) h (single_drops by names)).memory.table
    unfolding after rows_after
    group_table = rw group_judged (sym group_singly.table_left)

  -- ---- the notes of single drops

  one_noted : (n : ℕ) (K : History) (by : Caller) (x : ℕ) → is_allowed (History.answer sheet n K (Single by (Drop (record { 0 = x })))) ≡ true
      → History.after sheet n K (Single by (Drop (record { 0 = x }))) ≡ record { notes = Dropped x ∷ K.notes; count = K.count; kept = K.kept }
  unfolding History.after History.answer notes_of
  one_noted n K by x a = rw (eqb-true (judge (History.view sheet n K.kept K.notes K.count) (Single by (Drop (record { 0 = x })))) 0 a)

  -- single drops that the history allows add their notes, the smallest name's last
  drops_noted : (n : ℕ) (H : History) (by : Caller) (names : List ℕ) → all is_allowed (answers (History.after sheet n) (History.answer sheet n) H (single_drops by names)) ≡ true
      → final (History.after sheet n) H (single_drops by names) ≡ record { notes = map Dropped names ++ H.notes; count = H.count; kept = H.kept }
  drops_noted n H by [] a = refl
  drops_noted n H by (x ∷ names) a =
      rw (single_drops_cons by x names, final_append (History.after sheet n) H (single_drops by names) drop)
      (noted_last then p.1 ∙ ap {B = History} (λ K. record { notes = Dropped x ∷ K.notes; count = K.count; kept = K.kept }) (drops_noted n H by names p.0))
    where
      drop : List Request
      drop = Single by (Drop (record { 0 = x })) ∷ []

      then : History
      then = final (History.after sheet n) H (single_drops by names)

      p : (all is_allowed (answers (History.after sheet n) (History.answer sheet n) H (single_drops by names)) ≡ true) × (all is_allowed (answers (History.after sheet n) (History.answer sheet n) then drop) ≡ true)
      p =
          and_both (all is_allowed (answers (History.after sheet n) (History.answer sheet n) H (single_drops by names))) (all is_allowed (answers (History.after sheet n) (History.answer sheet n) then drop))
          (rw (single_drops_cons by x names, answers_append (History.after sheet n) (History.answer sheet n) H (single_drops by names) drop, all_append is_allowed (answers (History.after sheet n) (History.answer sheet n) H (single_drops by names)) (answers (History.after sheet n) (History.answer sheet n) then drop)) at a)

      noted_last : (K : History) → is_allowed (History.answer sheet n K (Single by (Drop (record { 0 = x })))) && true ≡ true
          → History.after sheet n K (Single by (Drop (record { 0 = x }))) ≡ record { notes = Dropped x ∷ K.notes; count = K.count; kept = K.kept }
      noted_last K h = one_noted n K by x (and_both (is_allowed (History.answer sheet n K (Single by (Drop (record { 0 = x }))))) true h).0

  -- "in the history the notes, that single drops in falling order of name leave"
  pub group_history : (n : ℕ) (h : State) (H : History) → Match sheet n h H → (by : Caller) (names : List ℕ) → is_allowed (answer h (Group by names)) ≡ true
      → History.after sheet n H (Group by names) ≡ final (History.after sheet n) H (single_drops by names)
  unfolding History.after notes_of
  group_history n h H m by names a =
      rw (sym (same_judge sheet n h H m (Group by names)) ∙ group_judged h by names a)
      (sym (drops_noted n H by names (ap (all is_allowed) (sym (run sheet n (single_drops by names) h H m).0) ∙ (group_singly h by names a).each_allowed)))

-- ---- one name

-- One name is the old drop: the same number, answer, table and tally, and in the history the same note.
module _ (sheet : Sheet) (by : Caller) (x : ℕ) where
  one_judged : (v : View) → judge v (Group by (x ∷ [])) ≡ judge v (Single by (Drop (record { 0 = x })))
  unfolding standings is_group rises_strictly rises_above judge refusals
  one_judged v = refl

  pub one_answer : (h : State) → answer h (Group by (x ∷ [])) ≡ answer h (Single by (Drop (record { 0 = x })))
  unfolding answer
  one_answer h = rw (one_judged (view h))

  one_outcome : (j : ℕ) (h : State) → outcome sheet j h (Group by (x ∷ [])) ≡ outcome sheet j h (Single by (Drop (record { 0 = x })))
  unfolding rows_after bits_after
  one_outcome zero h = refl
  one_outcome (suc zero) h = refl
  one_outcome (suc (suc j)) h = refl

  pub one_after : (h : State) → after sheet h (Group by (x ∷ [])) ≡ after sheet h (Single by (Drop (record { 0 = x })))
  unfolding after
  one_after h = rw (one_judged (view h)) (one_outcome (judge (view h) (Single by (Drop (record { 0 = x })))) h)

  pub one_noted_same : (notes : List Note) (count : ℕ) → notes_of notes count (Group by (x ∷ [])) ≡ notes_of notes count (Single by (Drop (record { 0 = x })))
  unfolding notes_of
  one_noted_same notes count = refl
