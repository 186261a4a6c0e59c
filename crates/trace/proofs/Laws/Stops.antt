-- Where a run ends: at its first refused line, with table, bits and what is stored as after the lines before it, or behind its last line.
-- Assumes nothing.
use mathlib.Core.Path.{◌≡◌, refl, sym, subst, ap, ◌∙◌}
use mathlib.Core.Logic.{◌⊎◌, inl, inr}
use mathlib.Core.Bool.{Bool, true, false, cond, ◌&&◌}
use mathlib.Core.List.{List, [], ◌∷◌, map, flat_map}
use Prim.Native.Nat.{ℕ, zero, suc, pred, ◌+◌, ◌*◌, ◌≤◌, ◌<◌}
use native.Mathlib.Omega.{arith}
use lib.Dec.{eqb}
use lib.ListN.{length, get_or, take, drop, length-take, length-drop}
use lib.Seq.{take-nil, take-length}
use borrow.Author.Tests.{eq-eqb, ne_eqb, eqb-true}
use Rattle.model.specs.Lists.{all}
use Rattle.model.specs.declared.Cap.{Cap}
use Rattle.model.specs.Given.{count_from}
use Rattle.model.specs.Counts.{count_refused}
use Rattle.model.specs.Refusals.{unfit, unfit_stored}
use Rattle.model.specs.declared.Sheet.{Sheet}
use Rattle.model.specs.Slots.{Memory, Slot, Nothing, Stored, slot_map}
use Rattle.model.specs.Step.{view, State, answer}
use Rattle.model.specs.Requests.{Limits, Request, Single, Group, Mark, Back}
use Rattle.model.proofs.Offered.{All, SizedSlot, test, clash, and_both, fit_not_1, disordered_keeps, refused_memory, refused_slots, refused_tally}
use Rattle.table.specs.States.{table_at, state_at, is_memory, states_in}
use Rattle.table.proofs.Offered.{bytes_size}
use Rattle.text.specs.Class.{class_of, newline}
use Rattle.text.specs.Line.{push, lines_of, parts_of}
use Rattle.text.specs.Event.{bytes}
use Rattle.text.specs.Read.{same}
use Rattle.text.specs.Result.{Result, value, refused}
use Rattle.text.specs.declared.spelling.Spelling.{Spelling}
use Rattle.text.specs.declared.spelling.Spelling.TheVariants.{Plain, Named}
use Rattle.text.specs.Request.{read_request}
use Rattle.text.proofs.Offered.{read_request_is_spelling, refused_request_is_2, request_reads_back}
use Rattle.trace.specs.Run.{header, Taken, Ran, take_read, take_line, run_lines, run_trace, run_from, lent, run}
use Rattle.trace.specs.Stops.{joined, first_lines, is_sized_slot, UnfitBack, run_before, LineZero, RefusedLine, Stops}
use Rattle.trace.proofs.Laws.Turn.{Fit, read_limits, line_fit}
use Rattle.trace.proofs.Laws.FromNothing.{run_not_1}
use Rattle.trace.proofs.Laws.Order.{turned, of_trace, refused_run, Behind, refused_trace}

-- ---- the first lines

-- their lines are the first of the text's
pub lines_first : (k : ℕ) (text : List ℕ) → lines_of (first_lines k text) ≡ take k (lines_of text)
unfolding first_lines parts_of push flat_map
lines_first zero [] = refl
lines_first (suc k) [] = refl
lines_first k (b ∷ s) = go (eqb (class_of b) newline) refl (lines_of s) (λ j. lines_first j s) k
  where
    go : (t : Bool) → eqb (class_of b) newline ≡ t → (ls : List (List ℕ)) → ((j : ℕ) → lines_of (joined (take j ls)) ≡ take j ls) → (k : ℕ)
        → lines_of (joined (take k (cond t ((b ∷ []) ∷ ls) (push b ls)))) ≡ take k (cond t ((b ∷ []) ∷ ls) (push b ls))
    go true is ls ih zero = refl
    go true is ls ih (suc k) = rw is (ap (λ (l : List (List ℕ)). (b ∷ []) ∷ l) (ih k))
    go false is [] ih zero = refl
    go false is [] ih (suc k) = rw (take-nil {A = List ℕ} k, is)
    go false is (l ∷ ls) ih zero = refl
    go false is (l ∷ ls) ih (suc k) = rw is (ap (push b) (ih (suc k)))

-- one of two, and both where the last has no newline
first_examples : (first_lines 1 (bytes "(create 0 64 rw)\n(drop 1)\n") ≡ bytes "(create 0 64 rw)\n")
    × (first_lines 2 (bytes "(drop 1)\n(drop") ≡ bytes "(drop 1)\n(drop")
unfolding first_lines parts_of push class_of flat_map
first_examples = (refl, refl)

-- ---- one line

-- what is stored has as many bytes as are lent
sized : (slots : List (Slot Memory)) → all is_sized_slot slots ≡ true → All SizedSlot slots
sized [] e = tt
sized (s ∷ slots) e = let p = and_both (is_sized_slot s) (all is_sized_slot slots) e in (one s p.0, sized slots p.1)
  where
    one : (s : Slot Memory) → is_sized_slot s ≡ true → SizedSlot s
    one Nothing e = tt
    one (Stored m) e = eqb-true (length m.bits) 8192 e

-- so it is of what is read off memory that is lent for states
pub lent_sized : (stored : List (List ℕ)) (copies : List ℕ) → all is_sized_slot (states_in stored copies) ≡ true
unfolding states_in state_at count_from
lent_sized stored copies = go (test (is_memory stored copies))
  where
    at : (k : ℕ) → k < 8 → length copies ≡ 65536 → (s : Slot (List Cap)) → is_sized_slot (slot_map (λ t. record { table = t; bits = take 8192 (drop (8192 * k) copies) }) s) ≡ true
    at k l size Nothing = refl
    at k l size (Stored t) = eq-eqb (length (take 8192 (drop (8192 * k) copies))) 8192 (simp (length-take, length-drop) (omega arith))

    from : (n k : ℕ) → k + n ≤ 8 → length copies ≡ 65536 → all is_sized_slot (map (state_at stored copies) (count_from k n)) ≡ true
    from zero k l size = refl
    from (suc n) k l size = rw (at k (omega arith) size (table_at stored k)) (from n (suc k) (omega arith) size)

    go : (is_memory stored copies ≡ true) ⊎ (is_memory stored copies ≡ false) → all is_sized_slot (cond (is_memory stored copies) (map (state_at stored copies) (count_from 0 8)) []) ≡ true
    go (inl m) = rw m (from 8 0 (omega arith) (bytes_size stored copies m))
    go (inr n) = rw n

-- what a line that is refused by this number leaves: 1 changes nothing, and another adds one to the refused count
abbrev left : ℕ → State → State
left r h = record { memory = h.memory; tally = cond (eqb r 1) h.tally (count_refused h.tally); slots = h.slots }

module _ (sheet : Sheet) (limits : Limits) where
  line_refused : (k : Spelling) (h : State) (l : List ℕ) (j : ℕ) → (take_line (lent sheet limits) k h l).refusal ≡ suc j → (take_line (lent sheet limits) k h l).state ≡ left (suc j) h
  line_refused k h l j = go (read_request limits k l) refl j
    where
      counts : (j : ℕ) → (j ≡ 0 → ⊥) → left (suc j) h ≡ (lent sheet limits).misspelt h
      counts j more = rw (ne_eqb (suc j) 1 (λ e. more (omega arith)))

      go : (r : Result Request) → read_request limits k l ≡ r → (j : ℕ) → (take_read (lent sheet limits) h r).refusal ≡ suc j → (take_read (lent sheet limits) h r).state ≡ left (suc j) h
      go (value q) is zero z = disordered_keeps sheet h q z
      go (value q) is (suc j) z =
          (λ i. record { memory = refused_memory sheet h q (suc j) z i; tally = refused_tally sheet h q j z i; slots = refused_slots sheet h q (suc j) z i })
          ∙ sym (counts (suc j) (λ (e : suc j ≡ 0). omega arith))
      go (refused x) is j z = sym (counts j (λ e. omega (arith, refused_request_is_2 limits k l x is)))

  -- on what is fit, a line that is 1 goes back to what is unfit
  line_1 : (k : Spelling) (h : State) (l : List ℕ) → unfit limits (view h) ≡ false → (take_line (lent sheet limits) k h l).refusal ≡ 1 → UnfitBack limits h l
  unfolding answer
  line_1 k h l o = go (read_request limits k l) refl
    where
      back : (q : Request) → read_request limits k l ≡ value q → unfit_stored (view h) q ≡ true → UnfitBack limits h l
      back (Single by e) is u = clash u refl
      back (Group by names) is u = clash u refl
      back (Mark by j) is u = clash u refl
      back (Back by j) is u =
          let s = read_request_is_spelling limits k l (Back by j) is in
          record { by = by; slot = j; reads = λ k'. ap (read_request limits k') s.2 ∙ request_reads_back limits k' (Back by j) s.0 s.1; unfit_stored_lem = u }

      go : (r : Result Request) → read_request limits k l ≡ r → (take_read (lent sheet limits) h r).refusal ≡ 1 → UnfitBack limits h l
      go (value q) is z = on (test (unfit_stored (view h) q))
        where
          on : (unfit_stored (view h) q ≡ true) ⊎ (unfit_stored (view h) q ≡ false) → UnfitBack limits h l
          on (inl u) = back q is u
          on (inr f) = absurd (fit_not_1 (view h) q f (rw (read_limits limits k l q is) o) z)
      go (refused x) is z = absurd (omega (arith, refused_request_is_2 limits k l x is))

  -- ---- lines

  lines_fit : (k : Spelling) (before : ℕ) (h : State) (ls : List (List ℕ)) → Fit limits h → Fit limits (run_lines (lent sheet limits) k before h ls).state
  unfolding run_lines
  lines_fit k before h [] f = f
  lines_fit k before h (l ∷ ls) f =
      let t = take_line (lent sheet limits) k h l in
      turned (λ (r : Ran State). Fit limits r.state) (eqb t.refusal 0) (run_lines (lent sheet limits) k (before + 1) t.state ls) (record { refusal = t.refusal; number = before + 1; state = t.state })
      (lines_fit k (before + 1) t.state ls (line_fit sheet limits k h l f)) (line_fit sheet limits k h l f)

  -- where all are allowed, they are counted
  all_lines : (k : Spelling) (before : ℕ) (h : State) (ls : List (List ℕ)) → (run_lines (lent sheet limits) k before h ls).refusal ≡ 0
      → (run_lines (lent sheet limits) k before h ls).number ≡ before + length ls
  unfolding run_lines
  all_lines k before h [] z = omega arith
  all_lines k before h (l ∷ ls) z = go (test (eqb t.refusal 0)) (all_lines k (before + 1) t.state ls) z
    where
      t : Taken State
      t = take_line (lent sheet limits) k h l

      go : (eqb t.refusal 0 ≡ true) ⊎ (eqb t.refusal 0 ≡ false)
          → ((run_lines (lent sheet limits) k (before + 1) t.state ls).refusal ≡ 0 → (run_lines (lent sheet limits) k (before + 1) t.state ls).number ≡ before + 1 + length ls)
          → (run_lines (lent sheet limits) k before h (l ∷ ls)).refusal ≡ 0 → (run_lines (lent sheet limits) k before h (l ∷ ls)).number ≡ before + suc (length ls)
      go (inl e) ih z = rw e (omega (arith, ih (rw e at z)))
      go (inr e) ih z = clash (eq-eqb t.refusal 0 (rw e at z)) e

  -- A run f of lines, where so many were taken before them, ends at a refused line: how many it takes before that one, and what it does with
  -- those alone, and with that one besides.
  record Ends (f : List (List ℕ) → Ran State) (before : ℕ) (ls : List (List ℕ)) : Type 0 where
    taken : ℕ
    spelling : Spelling
    inside : taken < length ls
    number : (f ls).number ≡ before + suc taken
    allowed : (f (take taken ls)).refusal ≡ 0
    count : (f (take taken ls)).number ≡ before + taken
    last : take_line (lent sheet limits) spelling (f (take taken ls)).state (get_or ls taken []) ≡ record { refusal = (f ls).refusal; state = (f ls).state }
    until : f (take (suc taken) ls) ≡ f ls

  ends_lines : (k : Spelling) (before : ℕ) (h : State) (ls : List (List ℕ)) (j : ℕ) → (run_lines (lent sheet limits) k before h ls).refusal ≡ suc j
      → Ends (run_lines (lent sheet limits) k before h) before ls
  unfolding run_lines
  ends_lines k before h [] j = λ (z : ◌≡◌ {A = ℕ} 0 (suc j)). absurd (omega arith)
  ends_lines k before h (l ∷ ls) j = go (test (eqb t.refusal 0)) (ends_lines k (before + 1) t.state ls j)
    where
      t : Taken State
      t = take_line (lent sheet limits) k h l

      go : (eqb t.refusal 0 ≡ true) ⊎ (eqb t.refusal 0 ≡ false)
          → ((run_lines (lent sheet limits) k (before + 1) t.state ls).refusal ≡ suc j → Ends (run_lines (lent sheet limits) k (before + 1) t.state) (before + 1) ls)
          → (run_lines (lent sheet limits) k before h (l ∷ ls)).refusal ≡ suc j → Ends (run_lines (lent sheet limits) k before h) before (l ∷ ls)
      go (inl e) ih z =
          let r = ih (rw e at z) in
          record {
            taken = suc r.taken;
            spelling = r.spelling;
            inside = omega arith;
            number = rw e (omega (arith, r.number));
            allowed = rw e r.allowed;
            count = rw e (omega (arith, r.count));
            last = rw e r.last;
            until = rw e r.until;
          }
      go (inr e) ih z = record {
        taken = 0;
        spelling = k;
        inside = omega arith;
        number = rw e;
        allowed = refl;
        count = omega arith;
        last = rw e;
        until = rw e;
      }

  -- ---- a trace

  trace_fit : (h : State) (ls : List (List ℕ)) → Fit limits h → Fit limits (run_trace (lent sheet limits) h ls).state
  trace_fit h ls f = of_trace sheet limits (λ (r : Ran State). Fit limits r.state) h ls (lines_fit Plain 0 h ls f) (λ line rest e. lines_fit Named 1 h rest f)

  trace_all : (h : State) (ls : List (List ℕ)) → (run_trace (lent sheet limits) h ls).refusal ≡ 0 → (run_trace (lent sheet limits) h ls).number ≡ length ls
  trace_all h ls =
      of_trace sheet limits (λ (r : Ran State). r.refusal ≡ 0 → r.number ≡ length ls) h ls (λ z. omega (arith, all_lines Plain 0 h ls z))
      (λ line rest e z. omega (arith, all_lines Named 1 h rest z, ap length e))

  -- the first lines of one without the header have none either
  plain_first : (h : State) (l : List ℕ) (ls : List (List ℕ)) → same l header ≡ false → (n : ℕ)
      → run_trace (lent sheet limits) h (take n (l ∷ ls)) ≡ run_lines (lent sheet limits) Plain 0 h (take n (l ∷ ls))
  unfolding run_trace
  plain_first h l ls e zero = refl
  plain_first h l ls e (suc n) = rw e

  ends_trace : (h : State) (ls : List (List ℕ)) (j : ℕ) → (run_trace (lent sheet limits) h ls).refusal ≡ suc j → Ends (run_trace (lent sheet limits) h) 0 ls
  unfolding run_trace run_lines
  ends_trace h [] j = λ (z : ◌≡◌ {A = ℕ} 0 (suc j)). absurd (omega arith)
  ends_trace h (l ∷ ls) j = go (test (same l header))
    where
      go : (same l header ≡ true) ⊎ (same l header ≡ false) → (run_trace (lent sheet limits) h (l ∷ ls)).refusal ≡ suc j → Ends (run_trace (lent sheet limits) h) 0 (l ∷ ls)
      go (inl e) z =
          let r = ends_lines Named 1 h ls j (rw e at z) in
          record {
            taken = suc r.taken;
            spelling = r.spelling;
            inside = omega arith;
            number = rw e (omega (arith, r.number));
            allowed = rw e r.allowed;
            count = rw e (omega (arith, r.count));
            last = rw e r.last;
            until = rw e r.until;
          }
      go (inr e) z =
          let r = ends_lines Plain 0 h (l ∷ ls) j (rw e at z) in
          let first = plain_first h l ls e r.taken in
          record {
            taken = r.taken;
            spelling = r.spelling;
            inside = r.inside;
            number = rw e r.number;
            allowed = rw first r.allowed;
            count = rw first r.count;
            last = rw (e, first) r.last;
            until = rw e r.until;
          }

  -- ---- a text

  module _ (h : State) (text : List ℕ) (o : unfit limits (view h) ≡ false) where
    run_is : run sheet limits h text ≡ run_trace (lent sheet limits) h (lines_of text)
    unfolding run_from
    run_is = rw o

    first_is : (k : ℕ) → run sheet limits h (first_lines k text) ≡ run_trace (lent sheet limits) h (take k (lines_of text))
    unfolding run_from
    first_is k = rw (o, lines_first k text)

    number_is : (run sheet limits h text).number ≡ (run_trace (lent sheet limits) h (lines_of text)).number
    number_is = ap (λ (r : Ran State). r.number) run_is

    ends : (k : ℕ) → (run sheet limits h text).refusal ≡ suc k → Ends (run_trace (lent sheet limits) h) 0 (lines_of text)
    ends k z = ends_trace h (lines_of text) k (ap (λ (r : Ran State). r.refusal) (sym run_is) ∙ z)

    all_allowed_lem : (run sheet limits h text).refusal ≡ 0 → (run sheet limits h text).number ≡ length (lines_of text)
    all_allowed_lem z = number_is ∙ trace_all h (lines_of text) (ap (λ (r : Ran State). r.refusal) (sym run_is) ∙ z)

    refused_at : (k : ℕ) → (run sheet limits h text).refusal ≡ suc k → RefusedLine sheet limits h text
    refused_at k z =
        let r = ends k z in
        let n = r.taken in
        let number : (run sheet limits h text).number ≡ suc n = omega (arith, number_is, r.number) in
        let before : run_before sheet limits h text ≡ run_trace (lent sheet limits) h (take n (lines_of text)) = ap (λ (i : ℕ). run sheet limits h (first_lines (pred i) text)) number ∙ first_is n in
        let last : take_line (lent sheet limits) r.spelling (run_before sheet limits h text).state (get_or (lines_of text) n []) ≡ record { refusal = (run sheet limits h text).refusal; state = (run sheet limits h text).state } =
        ap (λ (s : Ran State). take_line (lent sheet limits) r.spelling s.state (get_or (lines_of text) n [])) before ∙ r.last ∙ ap (λ (s : Ran State). record { refusal = s.refusal; state = s.state }) (sym run_is)
        in
        let refusal : (take_line (lent sheet limits) r.spelling (run_before sheet limits h text).state (get_or (lines_of text) n [])).refusal ≡ (run sheet limits h text).refusal = ap (λ (t : Taken State). t.refusal) last in
        let state : (run sheet limits h text).state ≡ left (run sheet limits h text).refusal (run_before sheet limits h text).state =
        ap (λ (t : Taken State). t.state) (sym last) ∙ line_refused r.spelling (run_before sheet limits h text).state (get_or (lines_of text) n []) k (refusal ∙ z) ∙ ap (λ (i : ℕ). left i (run_before sheet limits h text).state) (sym z)
        in
        record {
          from_1 = omega arith;
          a_line = omega (arith, r.inside);
          before_allowed = ap (λ (s : Ran State). s.refusal) before ∙ r.allowed;
          before_number = ap (λ (s : Ran State). s.number) before ∙ omega (arith, r.count);
          same_memory = ap (λ (s : State). s.memory) state;
          same_stored = ap (λ (s : State). s.slots) state;
          counted = ap (λ (s : State). s.tally) state;
          back_1 = λ sizes one.
              let fit : Fit limits (run_before sheet limits h text).state = subst (λ (s : Ran State). Fit limits s.state) (sym before) (trace_fit h (take n (lines_of text)) (o, sized h.slots sizes)) in
              subst (λ (i : ℕ). UnfitBack limits (run_before sheet limits h text).state (get_or (lines_of text) (pred i) [])) (sym number) (line_1 r.spelling (run_before sheet limits h text).state (get_or (lines_of text) n []) fit.0 (refusal ∙ one));
        }

    fit_until : run sheet limits h (first_lines (run sheet limits h text).number text) ≡ run sheet limits h text
    fit_until = first_is (run sheet limits h text).number ∙ go (run sheet limits h text).refusal refl ∙ sym run_is
      where
        upto : (n : ℕ) → (run sheet limits h text).number ≡ n → run_trace (lent sheet limits) h (take n (lines_of text)) ≡ run_trace (lent sheet limits) h (lines_of text)
            → run_trace (lent sheet limits) h (take (run sheet limits h text).number (lines_of text)) ≡ run_trace (lent sheet limits) h (lines_of text)
        upto n e p = ap (λ (i : ℕ). run_trace (lent sheet limits) h (take i (lines_of text))) e ∙ p

        go : (x : ℕ) → (run sheet limits h text).refusal ≡ x → run_trace (lent sheet limits) h (take (run sheet limits h text).number (lines_of text)) ≡ run_trace (lent sheet limits) h (lines_of text)
        go zero z = upto (length (lines_of text)) (all_allowed_lem z) (ap (run_trace (lent sheet limits) h) (take-length (lines_of text)))
        go (suc k) z = let r = ends k z in upto (suc r.taken) (omega (arith, number_is, r.number)) r.until

    -- a line that is refused has a number above 0
    no_line_0 : LineZero sheet limits h text
    no_line_0 = record {
      given_1 = rw o (not_both (run sheet limits h text).refusal (run sheet limits h text).number behind);
      line_0 = λ e z. absurd (run_not_1 limits sheet h text o e z);
      only_1 = λ k z n. absurd (go k z n behind);
    }
      where
        behind : Behind 0 (run sheet limits h text)
        behind = subst (Behind 0) (sym run_is) (refused_trace sheet limits h (lines_of text))

        not_0 : (b : Bool) → b && false ≡ false
        not_0 true = refl
        not_0 false = refl

        not_both : (r n : ℕ) → (r ≡ 0) ⊎ (0 < n) → eqb r 1 && eqb n 0 ≡ false
        not_both r n (inl z) = rw (ne_eqb r 1 (λ e. omega arith))
        not_both r n (inr l) = rw (ne_eqb n 0 (λ e. omega arith)) (not_0 (eqb r 1))

        go : (k : ℕ) → (run sheet limits h text).refusal ≡ suc k → (run sheet limits h text).number ≡ 0 → Behind 0 (run sheet limits h text) → ⊥
        go k z n (inl y) = omega arith
        go k z n (inr l) = omega arith

  pub stops : (h : State) (text : List ℕ) → Stops sheet limits h text
  stops h text = go (test (unfit limits (view h)))
    where
      go : (unfit limits (view h) ≡ true) ⊎ (unfit limits (view h) ≡ false) → Stops sheet limits h text
      go (inl d) =
          let r = refused_run sheet limits h text d in
          let one : (run sheet limits h text).refusal ≡ 1 = ap (λ (s : Ran State). s.refusal) r in
          record {
            until = refused_run sheet limits h (first_lines (run sheet limits h text).number text) d ∙ sym r;
            allowed = λ z. absurd (omega arith);
            line_zero = record {
              given_1 = rw (r, d);
              line_0 = λ e z. ap (λ (s : Ran State). s.number) r;
              only_1 = λ k z n. omega arith;
            };
            refused = λ o. clash d o;
          }
      go (inr o) = record {
        until = fit_until h text o;
        allowed = all_allowed_lem h text o;
        line_zero = no_line_0 h text o;
        refused = λ _. refused_at h text o;
      }
