-- The code's places in the clients' texts, and what a turn, a round and all rounds come to.
-- Assumes nothing.
use Rattle.std.specs.Prelude.{Err, Ok, Result}
use mathlib.Core.Path.{◌≡◌, refl, sym, ap, subst, ◌∙◌}
use mathlib.Core.Logic.{◌⊎◌, inl, inr}
use mathlib.Core.Bool.{true, false}
use mathlib.Core.List.{List, [], ◌∷◌, ◌++◌, map, append_assoc}
use Prim.Native.Nat.{ℕ, zero, suc, ◌+◌, ◌-◌, ◌≤◌, ◌<◌, max}
use native.Mathlib.Nat.{sub-zero}
use native.Mathlib.Numerals.{add-one}
use native.Mathlib.Omega.{arith}
use lib.Dec.{eqb}
use lib.ListN.{length, get_or, set, take, drop, length-set, length-take, length-drop}
use lib.Seq.{get_or-set_same, get_or-set_other, drop-drop, length-take-le}
use borrow.Author.Tests.{eqb-true, eqb-false}
use Rattle.model.specs.declared.Name.{Name}
use Rattle.model.specs.declared.Refusal.{Refusal}
use Rattle.model.specs.Answers.{number, verdict_of}
use Rattle.model.proofs.Offered.{test}
use Rattle.table.proofs.Offered.{last, numbered}
use Rattle.text.specs.Class.{newline}
use Rattle.text.specs.Line.{through, next_line, lines_of}
use Rattle.text.specs.Form.{read_form}
use Rattle.text.proofs.Offered.{parts_next, through_le, parts_end}
use Rattle.sizes.specs.declared.turn.Standing.{Standing}
use Rattle.sizes.specs.declared.turn.Turned.{Turned}
use Rattle.sizes.specs.Turns.{Turn, turn, one_round, behind, rounds, longest}
use Rattle.sizes.specs.Clients.{Shared, stop, refusal, after, shared_after}
use Rattle.sizes.specs.Report as report
use Rattle.sizes.specs.Report.{Report}
use Rattle.sizes.specs.Peak.{sized}
use Rattle.sizes.specs.Taken.{Memory, HoldsAt, Takes}
use Rattle.sizes.specs.Rounds.{left_at, lines_from, Places, Advanced, AllAdvanced, Left, Runs, turn_of, round_of}
use Rattle.sizes.proofs.Laws.Turns.{sized_on, sized_stop, sized_none, round_first, round_none, turn_none, turn_one, longest_behind, rounds_more, rounds_end, lines_few}

-- an answer is one of the two
pub refused_allowed : {A : Type 0} {a : Result Name Refusal} {x : Name} {y : Refusal} → a ≡ Ok x → a ≡ Err y → A
refused_allowed {A} {a} {x} {y} p q = let z : ◌≡◌ {A = ℕ} 0 1 = cc in absurd (omega arith)

-- ---- a client's text

drop_take : (k n : ℕ) (l : List ℕ) → drop k (take n l) ≡ take (n - k) (drop k l)
drop_take zero n l = ap (λ (m : ℕ). take m l) (sym (sub-zero n))
drop_take (suc k) zero l = let e : 0 ≡ 0 - suc k = omega arith in ap (λ (m : ℕ). take m (drop (suc k) l)) e
drop_take (suc k) (suc n) [] = sym (none (suc n - suc k))
  where
    none : (m : ℕ) → take {A = ℕ} m (drop (suc k) []) ≡ []
    none zero = refl
    none (suc m) = refl
drop_take (suc k) (suc n) (x ∷ l) = let e : n - k ≡ suc n - suc k = omega arith in drop_take k n l ∙ ap (λ (m : ℕ). take m (drop k l)) e

module _ (text at ends : List ℕ) (client : ℕ) (long : length at ≡ 8) (few : client < 8) (fits : get_or at client 0 ≤ get_or ends client 0) (inside : get_or ends client 0 ≤ length text) where
  abbrev from : ℕ
  from = get_or at client 0

  abbrev to : ℕ
  to = get_or ends client 0

  abbrev left : List ℕ
  left = left_at text at ends client

  left_length : length left ≡ to - from
  left_length = length-take-le (to - from) (drop from text) (omega (arith, length-drop from text))

  -- it has no line left, and stays as it is
  module _ (end : to ≤ from) where
    pub none_left : lines_of left ≡ []
    none_left = parts_end newline left 0 (omega (arith, left_length))

    pub advanced_none : Advanced text at ends at client
    advanced_none = record { long = long; fits = fits; taken = rw none_left; others = λ k n. refl }

  -- its next line is taken
  module _ (more : from < to) (line : List ℕ) (is : line ≡ next_line left) where
    some : 0 < length left
    some = omega (arith, left_length)

    line_length : length line ≡ through newline left
    line_length = ap length is ∙ length-take-le (through newline left) left (through_le newline left)

    pub line_inside : from + length line ≤ to
    line_inside = omega (arith, line_length, through_le newline left, left_length)

    abbrev at' : List ℕ
    at' = set at client (from + length line)

    placed : get_or at' client 0 ≡ from + length line
    placed = get_or-set_same at client (from + length line) 0 (omega arith)

    rest_is : left_at text at' ends client ≡ drop (length line) left
    rest_is =
        let e : to - (from + length line) ≡ to - from - length line = omega arith in
        (λ j. take (to - placed j) (drop (placed j) text))
        ∙ ap (λ (n : ℕ). take n (drop (from + length line) text)) e
        ∙ ap (take (to - from - length line)) (sym (drop-drop (length line) from text))
        ∙ sym (drop_take (length line) (to - from) (drop from text))

    pub lines_are : lines_of left ≡ line ∷ lines_of (left_at text at' ends client)
    lines_are = parts_next newline left some ∙ (λ j. sym is j ∷ lines_of (drop (sym line_length j) left)) ∙ ap (λ (r : List ℕ). line ∷ lines_of r) (sym rest_is)

    pub advanced_one : Advanced text at ends at' client
    advanced_one = record {
      long = length-set at client (from + length line) ∙ long;
      fits = omega (arith, placed, line_inside);
      taken = rw lines_are;
      others = λ k n. get_or-set_other at client k (from + length line) 0 n;
    }

-- ---- one turn

-- a client without a line left has none in this round
pub turn_passed : (m : Memory) (s : Standing) (text at ends : List ℕ) (client : ℕ) (x : Name) → lines_of (left_at text at ends client) ≡ [] → Runs m s (turn_of text at ends client) m (Ok x) (suc client) s
turn_passed m s text at ends client x e = record {
  on = λ h line more hold y a. record { shared = h; holds = hold; same = ap (λ (l : List (List ℕ)). sized h s.most (one_round (suc client) line (l ∷ []) ++ more)) e ∙ ap (λ (ts : List Turn). sized h s.most (ts ++ more)) (turn_none (suc client) line) };
  stops = λ h line more hold y a. refused_allowed refl a;
}

module _ (m : Memory) (s : Standing) (text at ends : List ℕ) (client : ℕ) (line : List ℕ) (others : List (List ℕ)) (lines : lines_of (left_at text at ends client) ≡ line ∷ others) (m' : Memory) (r : Turned) (took : Takes m s (suc client) (read_form line) m' r) where
  abbrev this : ℕ → Turn
  this number = turn (suc client) number line

  turn_is : (h : Shared) (k : ℕ) (more : List Turn) → sized h s.most (turn_of text at ends client k ++ more) ≡ sized h s.most (this k ∷ more)
  turn_is h k more =
      ap (λ (l : List (List ℕ)). sized h s.most (one_round (suc client) k (l ∷ []) ++ more)) lines
      ∙ ap (λ (ts : List Turn). sized h s.most (ts ++ more)) (turn_one (suc client) k line others)

  refused_so : (h : Shared) (k : ℕ) → HoldsAt h m s → refusal h (this k) ≡ (verdict_of r.answer).refusal
  unfolding refusal
  refused_so h k hold = sym (took.each h hold).refusal

  after_is : (h : Shared) (k : ℕ) → after h (this k) ≡ shared_after h (suc client) (read_form line)
  unfolding after
  after_is h k = refl

  -- a client's line is taken
  pub turn_runs : Runs m s (turn_of text at ends client) m' r.answer (suc client) r.standing
  turn_runs = record {
    on = λ h k more hold x a.
        let t = took.each h hold in
        let z : (verdict_of r.answer).refusal ≡ 0 = ap (λ (b : Result Name Refusal). (verdict_of b).refusal) a in
        record {
          shared = shared_after h (suc client) (read_form line);
          holds = t.goes z;
          same = turn_is h k more ∙ sized_on h s.most (this k) more (refused_so h k hold ∙ z) ∙ (λ j. sized (after_is h k j) (sym t.most_needed j) more);
        };
    stops = λ h k more hold x a. turn_is h k more ∙ sized_stop h s.most (this k) more (number x) (refused_so h k hold ∙ ap (λ (b : Result Name Refusal). (verdict_of b).refusal) a) (numbered x);
  }

-- ---- a round

lines_first : (text at ends : List ℕ) (k clients : ℕ) → k < clients → lines_from text at ends k (clients - k) ≡ lines_of (left_at text at ends k) ∷ lines_from text at ends (suc k) (clients - suc k)
unfolding lines_from
lines_first text at ends k clients l = let e : clients - k ≡ suc (clients - suc k) = omega arith in ap (lines_from text at ends k) e

lines_end : (text at ends : List ℕ) (k clients : ℕ) → clients ≤ k → lines_from text at ends k (clients - k) ≡ []
unfolding lines_from
lines_end text at ends k clients l = let e : clients - k ≡ 0 = omega arith in ap (lines_from text at ends k) e

-- where a client's place is the same, so is what is left of its text
left_same : (text at at' ends : List ℕ) (k : ℕ) → get_or at' k 0 ≡ get_or at k 0 → left_at text at' ends k ≡ left_at text at ends k
left_same text at at' ends k e = ap (λ (a : ℕ). take (get_or ends k 0 - a) (drop a text)) e

-- a round so far, from whatever the clients shared before it
pub record Going (text at ends : List ℕ) (clients most : ℕ) (h : Shared) (line : ℕ) (more : List Turn) (m : Memory) (s : Standing) (client : ℕ) : Type 0 where
  pub shared : Shared
  pub holds : HoldsAt shared m s
  pub same : sized h most (round_of text at ends clients line ++ more) ≡ sized shared s.most (one_round (suc client) line (lines_from text at ends client (clients - client)) ++ more)

pub record InRound (text at ends : List ℕ) (clients : ℕ) (m₀ : Memory) (s₀ : Standing) (at' : List ℕ) (m : Memory) (s : Standing) (client : ℕ) : Type 0 where
  pub few : client ≤ clients
  pub places : Places text at' ends clients
  pub later : (k : ℕ) → client ≤ k → get_or at' k 0 ≡ get_or at k 0
  pub taken : (k : ℕ) → k < client → lines_of (left_at text at' ends k) ≡ behind (lines_of (left_at text at ends k))
  pub each : (h : Shared) (line : ℕ) (more : List Turn) → HoldsAt h m₀ s₀ → Going text at ends clients s₀.most h line more m s client

module _ (text at ends : List ℕ) (clients : ℕ) (m₀ : Memory) (s₀ : Standing) where
  pub in_round_none : Places text at ends clients → InRound text at ends clients m₀ s₀ at m₀ s₀ 0
  in_round_none p = record {
    few = omega arith;
    places = p;
    later = λ k l. refl;
    taken = λ k l. absurd (omega arith);
    each = λ h line more hold. record { shared = h; holds = hold; same = ap (λ (n : ℕ). sized h s₀.most (one_round 1 line (lines_from text at ends 0 n) ++ more)) (sym (sub-zero clients)) };
  }

  module _
      (at' : List ℕ)
      (m : Memory)
      (s : Standing)
      (client : ℕ)
      (so : InRound text at ends clients m₀ s₀ at' m s client)
      (in_range : client < clients)
      (at'' : List ℕ)
      (m' : Memory)
      (answer : Result Name Refusal)
      (s' : Standing)
      (runs : Runs m s (turn_of text at' ends client) m' answer (suc client) s') where
    -- the others' lines of this round
    abbrev others : ℕ → List Turn
    others line = one_round (suc (suc client)) line (lines_from text at ends (suc client) (clients - suc client))

    here : lines_of (left_at text at' ends client) ≡ lines_of (left_at text at ends client)
    here = ap lines_of (left_same text at at' ends client (so.later client (omega arith)))

    others_are : (line : ℕ) (more : List Turn) → one_round (suc client) line (lines_from text at ends client (clients - client)) ++ more ≡ turn_of text at' ends client line ++ (others line ++ more)
    others_are line more =
        ap (λ (l : List (List (List ℕ))). one_round (suc client) line l ++ more) (lines_first text at ends client clients in_range)
        ∙ ap (λ (ts : List Turn). ts ++ more) (round_first (suc client) line _ _)
        ∙ append_assoc (one_round (suc client) line (lines_of (left_at text at ends client) ∷ [])) (others line) more
        ∙ ap (λ (l : List (List ℕ)). one_round (suc client) line (l ∷ []) ++ (others line ++ more)) (sym here)

    module _ (advanced : Advanced text at' ends at'' client) (x : Name) (a : answer ≡ Ok x) where
      going : (h : Shared) (line : ℕ) (more : List Turn) → HoldsAt h m₀ s₀ → Going text at ends clients s₀.most h line more m' s' (suc client)
      going h line more hold =
          let g = so.each h line more hold in
          let r = runs.on g.shared line (others line ++ more) g.holds x a in
          record { shared = r.shared; holds = r.holds; same = g.same ∙ ap (sized g.shared s.most) (others_are line more) ∙ r.same }

      places'' : Places text at'' ends clients
      places'' = record { long = advanced.long; rising = λ k l. rising k l (test (eqb k client)); inside = so.places.inside }
        where
          rising : (k : ℕ) → k < clients → (eqb k client ≡ true) ⊎ (eqb k client ≡ false) → get_or at'' k 0 ≤ get_or ends k 0
          rising k l (inl t) = subst (λ (n : ℕ). get_or at'' n 0 ≤ get_or ends n 0) (sym (eqb-true k client t)) advanced.fits
          rising k l (inr f) = omega (arith, advanced.others k (eqb-false k client f), so.places.rising k l)

      pub in_round_more : InRound text at ends clients m₀ s₀ at'' m' s' (client + 1)
      in_round_more = rw add-one record {
        few = in_range;
        places = places'';
        later = λ k l. advanced.others k (λ (e : k ≡ client). omega arith) ∙ so.later k (omega arith);
        taken = λ k l. taken k (last k client (omega arith));
        each = going;
      }
        where
          taken : (k : ℕ) → (k < client) ⊎ (k ≡ client) → lines_of (left_at text at'' ends k) ≡ behind (lines_of (left_at text at ends k))
          taken k (inl w) = ap lines_of (left_same text at' at'' ends k (advanced.others k (λ (e : k ≡ client). omega arith))) ∙ so.taken k w
          taken k (inr e) = subst (λ (n : ℕ). lines_of (left_at text at'' ends n) ≡ behind (lines_of (left_at text at ends n))) (sym e) (advanced.taken ∙ ap behind here)

    pub in_round_stops : (x : Refusal) → answer ≡ Err x → Runs m₀ s₀ (round_of text at ends clients) m' (Err x) (client + 1) s'
    in_round_stops x a = record {
      on = λ h line more hold y b. refused_allowed b refl;
      stops = λ h line more hold y b.
          let g = so.each h line more hold in
          let same : number x ≡ number y = ap (λ (c : Result Name Refusal). (verdict_of c).refusal) b in
          g.same ∙ ap (sized g.shared s.most) (others_are line more) ∙ runs.stops g.shared line (others line ++ more) g.holds x a ∙ (λ j. report.refused (stop (same j) (sym (add-one client) j) line));
    }

  module _ (at' : List ℕ) (m : Memory) (s : Standing) (client : ℕ) (so : InRound text at ends clients m₀ s₀ at' m s client) (all : clients ≤ client) where
    pub round_advanced : AllAdvanced text at ends at' clients
    round_advanced = record { places = so.places; taken = λ k l. so.taken k (omega arith) }

    pub round_runs : (x : Name) → Runs m₀ s₀ (round_of text at ends clients) m (Ok x) 0 s
    round_runs x = record {
      on = λ h line more hold y b.
          let g = so.each h line more hold in
          record {
            shared = g.shared;
            holds = g.holds;
            same = g.same ∙ ap (λ (l : List (List (List ℕ))). sized g.shared s.most (one_round (suc client) line l ++ more)) (lines_end text at ends client clients all)
                ∙ ap (λ (ts : List Turn). sized g.shared s.most (ts ++ more)) (round_none (suc client) line);
          };
      stops = λ h line more hold y b. refused_allowed refl b;
    }

-- ---- all rounds

lines_behind : (text at ends at' : List ℕ) (n k : ℕ) → ((j : ℕ) → k ≤ j → j < k + n → lines_of (left_at text at' ends j) ≡ behind (lines_of (left_at text at ends j))) → lines_from text at' ends k n ≡ map behind (lines_from text at ends k n)
unfolding lines_from
lines_behind text at ends at' zero k h = refl
lines_behind text at ends at' (suc n) k h = (λ j. h k (omega arith) (omega arith) j ∷ lines_behind text at ends at' n (suc k) (λ i l m. h i (omega arith) (omega arith)) j)

-- no client has a line left
longest_none : (text at ends : List ℕ) (n k : ℕ) → ((j : ℕ) → k ≤ j → j < k + n → lines_of (left_at text at ends j) ≡ []) → longest (lines_from text at ends k n) ≡ 0
unfolding lines_from longest
longest_none text at ends zero k h = refl
longest_none text at ends (suc n) k h = rw (h k (omega arith) (omega arith)) (omega (arith, longest_none text at ends n (suc k) (λ i l m. h i (omega arith) (omega arith))))

-- one has
longest_some : (text at ends : List ℕ) (n k j : ℕ) → k ≤ j → j < k + n → 0 < length (lines_of (left_at text at ends j)) → 0 < longest (lines_from text at ends k n)
unfolding lines_from longest
longest_some text at ends zero k j l m h = absurd (omega arith)
longest_some text at ends (suc n) k j l m h = go (test (eqb j k)) (λ w. longest_some text at ends n (suc k) j w (omega arith) h)
  where
    go : (eqb j k ≡ true) ⊎ (eqb j k ≡ false) → (suc k ≤ j → 0 < longest (lines_from text at ends (suc k) n)) → 0 < max (length (lines_of (left_at text at ends k))) (longest (lines_from text at ends (suc k) n))
    go (inl t) ih = let w : 0 < length (lines_of (left_at text at ends k)) = subst (λ (i : ℕ). 0 < length (lines_of (left_at text at ends i))) (eqb-true j k t) h in omega arith
    go (inr f) ih = let w = ih (omega (arith, eqb-false j k f)) in omega arith

-- there are no more rounds than bytes
longest_few : (text at ends : List ℕ) (n k : ℕ) → longest (lines_from text at ends k n) ≤ length text
unfolding lines_from longest
longest_few text at ends zero k = omega arith
longest_few text at ends (suc n) k =
    let a = lines_few (left_at text at ends k) in
    let b : length (left_at text at ends k) ≤ length text = omega (arith, length-take (get_or ends k 0 - get_or at k 0) (drop (get_or at k 0) text), length-drop (get_or at k 0) text) in
    omega (arith, longest_few text at ends n (suc k))

-- what all rounds come to, from whatever the clients shared before them
pub record Onward (all : Shared → Report) (text at ends : List ℕ) (clients : ℕ) (h : Shared) (m : Memory) (s : Standing) (line : ℕ) : Type 0 where
  pub shared : Shared
  pub holds : HoldsAt shared m s
  pub same : all h ≡ sized shared s.most (rounds (longest (lines_from text at ends 0 clients)) line (lines_from text at ends 0 clients))

pub record InRounds (text at ends : List ℕ) (clients : ℕ) (m₀ : Memory) (s₀ : Standing) (at' : List ℕ) (m : Memory) (s : Standing) (line : ℕ) : Type 0 where
  pub places : Places text at' ends clients
  pub counted : line + longest (lines_from text at' ends 0 clients) ≡ 1 + longest (lines_from text at ends 0 clients)
  pub each : (h : Shared) → HoldsAt h m₀ s₀ → Onward (λ h. sized h s₀.most (rounds (longest (lines_from text at ends 0 clients)) 1 (lines_from text at ends 0 clients))) text at' ends clients h m s line

module _ (text at ends : List ℕ) (clients : ℕ) (few : clients ≤ 8) (m₀ : Memory) (s₀ : Standing) where
  abbrev all_lines : Shared → Report
  all_lines h = sized h s₀.most (rounds (longest (lines_from text at ends 0 clients)) 1 (lines_from text at ends 0 clients))

  pub in_rounds_none : Places text at ends clients → InRounds text at ends clients m₀ s₀ at m₀ s₀ 1
  in_rounds_none p = record { places = p; counted = refl; each = λ h hold. record { shared = h; holds = hold; same = refl } }

  module _ (at' : List ℕ) (m : Memory) (s : Standing) (line : ℕ) (so : InRounds text at ends clients m₀ s₀ at' m s line) where
    abbrev lines_left : List (List (List ℕ))
    lines_left = lines_from text at' ends 0 clients

    length_left : (k : ℕ) → k < clients → length (left_at text at' ends k) ≡ get_or ends k 0 - get_or at' k 0
    length_left k l = length-take-le (get_or ends k 0 - get_or at' k 0) (drop (get_or at' k 0) text) (omega (arith, length-drop (get_or at' k 0) text, so.places.inside k l))

    module _ (some : Left at' ends clients true) where
      more : 0 < longest lines_left
      more =
          let w = some.yes refl in
          let k = w.0 in
          let long = length_left k w.1.0 in
          let next = parts_next newline (left_at text at' ends k) (omega (arith, w.1.1)) in
          longest_some text at' ends clients 0 k (omega arith) (omega (arith, w.1.0)) (omega (arith, ap length next))

      -- the line numbers fit
      pub line_few : line ≤ length text
      line_few = omega (arith, more, so.counted, longest_few text at ends clients 0)

      module _ (at'' : List ℕ) (m' : Memory) (answer : Result Name Refusal) (client : ℕ) (s' : Standing) (runs : Runs m s (round_of text at' ends clients) m' answer client s') where
        split : rounds (longest lines_left) line lines_left ≡ round_of text at' ends clients line ++ rounds (longest (map behind lines_left)) (suc line) (map behind lines_left)
        split = rounds_more line lines_left more

        pub in_rounds_stops : (x : Refusal) → answer ≡ Err x → (h : Shared) → HoldsAt h m₀ s₀ → all_lines h ≡ report.refused (stop (number x) client line)
        in_rounds_stops x a h hold =
            let g = so.each h hold in
            g.same ∙ ap (sized g.shared s.most) split ∙ runs.stops g.shared line (rounds (longest (map behind lines_left)) (suc line) (map behind lines_left)) g.holds x a

        module _ (x : Name) (a : answer ≡ Ok x) (advanced : AllAdvanced text at' ends at'' clients) where
          left_is : lines_from text at'' ends 0 clients ≡ map behind lines_left
          left_is = lines_behind text at' ends at'' clients 0 (λ j l n. advanced.taken j (omega arith))

          pub in_rounds_less : longest (lines_from text at'' ends 0 clients) < longest lines_left
          in_rounds_less = omega (arith, more, ap longest left_is, longest_behind lines_left)

          pub in_rounds_more : InRounds text at ends clients m₀ s₀ at'' m' s' (line + 1)
          in_rounds_more = record {
            places = advanced.places;
            counted = omega (arith, more, so.counted, ap longest left_is, longest_behind lines_left);
            each = λ h hold.
                let g = so.each h hold in
                let r = runs.on g.shared line (rounds (longest (map behind lines_left)) (suc line) (map behind lines_left)) g.holds x a in
                record {
                  shared = r.shared;
                  holds = r.holds;
                  same = g.same ∙ ap (sized g.shared s.most) split ∙ r.same
                      ∙ (λ j. sized r.shared s'.most (rounds (longest (sym left_is j)) (sym (add-one line) j) (sym left_is j)));
                };
          }

    pub in_rounds_all : Left at' ends clients false → (h : Shared) → HoldsAt h m₀ s₀ → all_lines h ≡ report.rows s.most
    in_rounds_all none h hold =
        let g = so.each h hold in
        let z : longest lines_left ≡ 0 = longest_none text at' ends clients 0 (λ j l n. parts_end newline (left_at text at' ends j) 0 (omega (arith, length_left j (omega arith), none.no refl j (omega arith)))) in
        g.same ∙ ap (sized g.shared s.most) (rounds_end line lines_left z) ∙ sized_none g.shared s.most
