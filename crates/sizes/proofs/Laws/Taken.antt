-- One event of a client: the code's answer is that of the definition, and what it keeps of names stays right.
-- Assumes nothing.
use Rattle.std.specs.Prelude.{Err, Result}
use Rattle.model.specs.declared.Name.{Name}
use mathlib.Core.Path.{◌≡◌, refl, sym, ap, subst, ◌∙◌}
use mathlib.Core.Logic.{◌⊎◌, inl, inr}
use mathlib.Core.Bool.{Bool, true, false, ◌&&◌}
use mathlib.Core.List.{List, []}
use Prim.Native.Nat.{ℕ, suc, ◌≤◌, ◌<◌, max}
use native.Mathlib.Omega.{arith}
use lib.Dec.{eqb, leb, ltb}
use lib.ListN.{length, get_or}
use borrow.Author.Tests.{eq-eqb, ne_eqb, leb-true, ltb-true, ltb-false}
use Rattle.model.specs.declared.Cap.{Cap}
use Rattle.model.specs.declared.Tally.{Tally}
use Rattle.model.specs.declared.Refusal.{Refusal}
use Rattle.model.specs.declared.Event.{Event}
use Rattle.model.specs.declared.Event.TheVariants.{Create, Borrow, Read, Write, Drop}
use Rattle.model.specs.Lists.{any, first}
use Rattle.model.specs.Bits.{bit_at}
use Rattle.model.specs.Slots.{Nothing, unstored}
use Rattle.model.specs.Table.{named, live_rows}
use Rattle.model.specs.Refusals.{checks, judge, table_in}
use Rattle.model.specs.Effects.{rows_after, new_name, issued_after}
use Rattle.model.specs.Counts.{count_allowed}
use Rattle.model.specs.Sheet6.{sheet6}
use Rattle.model.specs.Step.{State, Verdict, view}
use Rattle.model.specs.Step
use Rattle.model.specs.Answers.{number, verdict_of}
use Rattle.model.proofs.Offered.{test, clash, and_both}
use Rattle.table.specs.Words.{rows_in}
use Rattle.table.specs.Rows.{name_at, before}
use Rattle.table.specs.Known.{Fit}
use Rattle.table.proofs.Offered.{lookup_place, numbered, orderly_few, orderly_issued, orderly_judge, orderly_live, orderly_rise, length_before}
use Rattle.rules.specs.declared.Outcome.{Outcome}
use Rattle.rules.specs.Steps.{lends, Stepped}
use Rattle.text.specs.Result.{value, refused}
use Rattle.sizes.specs.declared.turn.Standing.{Standing}
use Rattle.sizes.specs.Clients.{Shared, known, translated, give, asked, shared_after}
use Rattle.sizes.specs.Names.{name_in, renamed, Given, is_given, key_of, Beside, Meant, Kept, names_with, keys_with, counts_with, used_with, has_ended, ended_for}
use Rattle.sizes.specs.Peak.{needs, needs_of}
use Rattle.sizes.specs.Taken.{Memory, memory, Holds, Went, Answered, Takes}
use Rattle.sizes.proofs.Laws.Fewer.{ask, live_left, tally_left}
use Rattle.sizes.proofs.Laws.Renamed.{translated_renamed, ended_answer, ended_refused, names_after_lem, Makes, none, next, makes}
use Rattle.sizes.proofs.Laws.Given.{known_inside, known_none, known_some, known_most, beside_known, missing_ended, given_new, listed_same, listed_new, keyed_below, keys_new, counted_new, keys_kept}

-- the issued number goes up with the names
issued_counted : (e : Event) (t : Tally) → (count_allowed (ask e) t).issued ≡ issued_after t.issued (ask e)
issued_counted (Create w s r) t = refl
issued_counted (Borrow w u s r) t = refl
issued_counted (Read u s) t = refl
issued_counted (Write u s) t = refl
issued_counted (Drop u) t = refl

not_both : (a b : Bool) → b ≡ false → a && b ≡ false
not_both true b e = e
not_both false b e = refl

module _ {h : Shared} {m : Memory} {live used : ℕ} {t : Tally} (hold : Holds h m live used t) where
  abbrev T : List Cap
  T = rows_in m.table

  abbrev H : State
  H = lends T m.bits unstored t

  live_is : live_rows T ≡ before T live
  live_is = orderly_live T (length m.table) live t.issued hold.fit.known.orderly

  pub live_few : live ≤ 1024
  live_few = orderly_few T (length m.table) live t.issued hold.fit.known.orderly

  pub live_count : length (live_rows h.state.memory.table) ≡ live
  live_count = ap (λ (k : State). length (live_rows k.memory.table)) hold.state ∙ ap length live_is ∙ length_before T live

  issued_few : t.issued ≤ 1000000
  issued_few = orderly_issued T (length m.table) live t.issued hold.fit.known.orderly

  pub count_few : (client : ℕ) → client < 8 → get_or m.counts client 0 ≤ 1000000
  count_few client l = omega (arith, hold.counted.each client l, hold.given.few (suc client), issued_few)

  -- an event is judged by its own checks
  abbrev first_of : Event → ℕ
  first_of e = first (checks (before T live) t.issued (bit_at m.bits) (λ j. table_in (get_or unstored j Nothing)) (length m.table) (ask e))

  judge_is : (e : Event) → judge (view H) (ask e) ≡ first_of e
  judge_is e = orderly_judge T (length m.table) live t.issued hold.fit.known.orderly m.bits hold.fit.sized unstored refl (ask e) hold.fit.allowed refl

  -- ---- the answer

  module _
      (client count : ℕ)
      (so_many : length (h.given client) ≡ count)
      (e : Event)
      {x : ℕ}
      (meant : Meant used m.names m.keys client count (name_in e) x)
      {ws' : List (List ℕ)}
      {bs' : List ℕ}
      {said : Outcome}
      (s : Stepped sheet6 m.table m.bits unstored t (ask (renamed x e)) ws' bs' unstored said)
      (a : Result Name Refusal)
      (kept : has_ended x count (name_in e) ≡ false → verdict_of a ≡ verdict_of said.answer)
      (ended : has_ended x count (name_in e) ≡ true → (verdict_of a).refusal ≡ ended_for (verdict_of said.answer).refusal) where
    abbrev y : ℕ
    y = known (h.given client) (name_in e)

    abbrev told : Outcome
    told = record { tally = said.tally; answer = a }

    asked_is : asked h client e ≡ ask (renamed y e)
    asked_is = ap ask (translated_renamed (h.given client) e)

    module _ (p : x ≡ y) (alive : has_ended x count (name_in e) ≡ false) where
      answer_is : verdict_of a ≡ Step.answer h.state (asked h client e)
      answer_is = kept alive ∙ s.answer ∙ (λ j. Step.answer (sym hold.state j) (ask (renamed (p j) e))) ∙ ap (Step.answer h.state) (sym asked_is)

      state_is : Step.after sheet6 h.state (asked h client e) ≡ lends (rows_in ws') bs' unstored said.tally
      state_is =
          ap (Step.after sheet6 h.state) asked_is
          ∙ (λ j. Step.after sheet6 (hold.state j) (ask (renamed (sym p j) e)))
          ∙ sym (λ j. record { memory = record { table = s.table j; bits = s.bits j }; tally = s.tally j; slots = s.stored j })

      answered_same : Answered h client e ws' bs' told
      answered_same = record { refusal = ap (λ (v : Verdict). v.refusal) answer_is; went = λ q. record { state = state_is; name = ap (λ (v : Verdict). v.name) answer_is } }

    module _ (z : x ≡ 0) (some : 0 < y) (gone : any (named y) (before T live) ≡ false) (over : has_ended x count (name_in e) ≡ true) where
      called : 0 < name_in e
      called = (known_inside (h.given client) (name_in e) some).0

      most : y ≤ t.issued
      most = known_most hold.given client (name_in e)

      there : (Step.answer h.state (asked h client e)).refusal ≡ first_of (renamed y e)
      unfolding Step.answer
      there = (λ j. judge (view (hold.state j)) (asked_is j)) ∙ judge_is (renamed y e)

      refusal_is : (verdict_of a).refusal ≡ (Step.answer h.state (asked h client e)).refusal
      unfolding Step.answer
      refusal_is =
          ended over
          ∙ ap (λ (v : Verdict). ended_for v.refusal) s.answer
          ∙ ap ended_for (judge_is (renamed x e) ∙ ap (λ (k : ℕ). first_of (renamed k e)) z)
          ∙ sym (ended_answer (before T live) t.issued (bit_at m.bits) (λ j. table_in (get_or unstored j Nothing)) (length m.table) y some most gone e called)
          ∙ sym there

      answered_ended : Answered h client e ws' bs' told
      answered_ended = record {
        refusal = refusal_is;
        went = λ q. absurd (ended_refused (before T live) t.issued (bit_at m.bits) (λ j. table_in (get_or unstored j Nothing)) (length m.table) y some most gone e called (sym there ∙ sym refusal_is ∙ q));
      }

    pub answered : Answered h client e ws' bs' told
    answered = go (test (is_given count (name_in e)))
      where
        known_as : is_given count (name_in e) ≡ is_given (length (h.given client)) (name_in e)
        known_as = ap (λ (n : ℕ). is_given n (name_in e)) (sym so_many)

        go : (is_given count (name_in e) ≡ true) ⊎ (is_given count (name_in e) ≡ false) → Answered h client e ws' bs' told
        go (inr f) = answered_same (meant.unknown f ∙ sym (known_none (h.given client) (name_in e) (sym known_as ∙ f))) (not_both (eqb x 0) (is_given count (name_in e)) f)
        go (inl g) =
            let b = meant.looked g in
            let some = known_some hold.given client (name_in e) (sym known_as ∙ g) in
            let low : name_in e < 1048576 = omega (arith, leb-true (name_in e) count (and_both (ltb 0 (name_in e)) (leb (name_in e) count) g).1, hold.given.few client, issued_few) in
            found b some low (test (ltb b.place used))
          where
            found : (b : Beside used m.names m.keys (key_of client (name_in e)) x) → 0 < y → name_in e < 1048576
                → (ltb b.place used ≡ true) ⊎ (ltb b.place used ≡ false) → Answered h client e ws' bs' told
            found b some low (inl w) =
                let p : x ≡ y = b.is ∙ rw w (beside_known hold.keyed client (name_in e) b.place low b.found (ltb-true b.place used w)) in
                answered_same p (rw (ne_eqb x 0 (λ (z : x ≡ 0). omega arith)))
            found b some low (inr f) =
                let z : x ≡ 0 = b.is ∙ rw f in
                answered_ended z some (missing_ended hold.keyed client (name_in e) b.place low b.found hold.given hold.listed (ltb-false b.place used f) some) (rw (eq-eqb x 0 z, g))

  -- ---- what is kept of names

  module _
      (client : ℕ)
      (in_range : client < 8)
      (room : used < 2048)
      (e : Event)
      {ws' : List (List ℕ)}
      {bs' places' : List ℕ}
      {left : ℕ}
      {out : Outcome}
      (answered_so : Answered h (suc client) e ws' bs' out)
      (fit' : Fit ws' bs' left out.tally.issued [] places')
      (allowed : (verdict_of out.answer).refusal ≡ 0) where
    abbrev U : List Cap
    U = rows_in ws'

    abbrev event : Event
    event = translated (h.given (suc client)) e

    abbrev went : Went h (suc client) e ws' bs' out
    went = answered_so.went allowed

    judged : judge (view h.state) (ask event) ≡ 0
    unfolding Step.answer
    judged = sym answered_so.refusal ∙ allowed

    name_is : (Step.answer h.state (ask event)).name ≡ new_name t.issued (ask event)
    unfolding Step.answer
    name_is = rw judged (ap (λ (k : State). new_name k.tally.issued (ask event)) hold.state)

    issued_is : out.tally.issued ≡ issued_after t.issued (ask event)
    issued_is =
        ap (λ (k : State). k.tally.issued) (sym went.state)
        ∙ ap (λ (k : Tally). k.issued) (tally_left sheet6 h.state event judged)
        ∙ issued_counted event h.state.tally ∙ ap (λ (k : State). issued_after k.tally.issued (ask event)) hold.state

    rows_are : before U left ≡ rows_after sheet6 t.issued (before T live) (ask event)
    rows_are =
        sym (orderly_live U (length ws') left out.tally.issued fit'.known.orderly)
        ∙ ap (λ (k : State). live_rows k.memory.table) (sym went.state)
        ∙ live_left sheet6 h.state event judged
        ∙ ap (λ (k : State). rows_after sheet6 k.tally.issued (live_rows k.memory.table) (ask event)) hold.state
        ∙ ap (λ (rows : List Cap). rows_after sheet6 t.issued rows (ask event)) live_is

    names_left : (j : ℕ) → j < left → (name_at U j ≡ new_name t.issued (ask event)) ⊎ (any (named (name_at U j)) (before T live) ≡ true)
    names_left j l =
        names_after_lem sheet6 (name_at U j) t.issued (before T live) event
        (ap (any (named (name_at U j))) (sym rows_are) ∙ (lookup_place U left j (name_at U j) (orderly_rise U (length ws') left out.tally.issued fit'.known.orderly) l refl).0)

    -- the memory, and what all share, where this name is given
    abbrev after : ℕ → Memory
    after new = memory ws' bs' places' (names_with new m.names used) (keys_with new m.keys used (suc client) (get_or m.counts client 0)) (counts_with new m.counts client)

    abbrev shared : ℕ → Shared
    shared new = record { state = Step.after sheet6 h.state (ask event); given = give (suc client) new h.given }

    abbrev Then : ℕ → Type 0
    Then new = Holds (shared new) (after new) left (used_with new used) out.tally

    given_none : new_name t.issued (ask event) ≡ 0 → issued_after t.issued (ask event) ≡ t.issued → Then 0
    given_none z i = record {
      fit = fit';
      state = went.state;
      listed = listed_same hold.listed U left fit'.known.orderly.front.filled (λ j l. subst (λ (n : ℕ). (name_at U j ≡ n) ⊎ (any (named (name_at U j)) (before T live) ≡ true)) z (names_left j l));
      keyed = hold.keyed;
      given = subst (Given h.given) (sym (issued_is ∙ i)) hold.given;
      counted = hold.counted;
    }

    given_next : new_name t.issued (ask event) ≡ suc t.issued → issued_after t.issued (ask event) ≡ suc t.issued → Then (suc t.issued)
    given_next z i =
        let low : t.issued < 1048575 = omega (arith, issued_few) in
        let no : eqb (suc t.issued) 0 ≡ false = ne_eqb (suc t.issued) 0 (λ (n : suc t.issued ≡ 0). omega arith) in
        let key = keys_new hold.given hold.keyed (suc client) low room hold.listed.room in
        record {
          fit = fit';
          state = went.state;
          listed = rw no (listed_new hold.listed U left (suc t.issued) room (keyed_below hold.given hold.keyed) (λ j l. subst (λ (n : ℕ). (name_at U j ≡ n) ⊎ (any (named (name_at U j)) (before T live) ≡ true)) z (names_left j l)));
          keyed = rw (no, ← hold.counted.each client in_range) key;
          given = subst (Given (give (suc client) (suc t.issued) h.given)) (sym (issued_is ∙ i)) (given_new h.given (suc client) t.issued hold.given);
          counted = rw no (counted_new h.given m.counts client t.issued in_range hold.counted);
        }

    held_name : Then (new_name t.issued (ask event))
    held_name = go (makes t.issued event)
      where
        go : Makes t.issued event → Then (new_name t.issued (ask event))
        go (none z i) = subst Then (sym z) (given_none z i)
        go (next z i) = subst Then (sym z) (given_next z i)

    -- what is given is the name of the answer
    pub held : Holds (shared_after h (suc client) (value e)) (after (verdict_of out.answer).name) left (used_with (verdict_of out.answer).name used) out.tally
    held =
        let new = (verdict_of out.answer).name in
        subst (λ (n : ℕ). Holds (shared n) (after new) left (used_with new used) out.tally) went.name (subst Then (sym (went.name ∙ name_is)) held_name)

  -- ---- the rows that it needs

  pub needed : (e : Event) (most need : ℕ) → need ≡ needs live e → max most need ≡ max most (needs_of h (value e))
  needed e most need is = ap (max most) (is ∙ ap (λ (k : ℕ). needs k e) (sym live_count))

  -- ---- what is kept of the list where it is full

  pub held_kept : {names' keys' : List ℕ} {r : ℕ} → Kept T live m.names m.keys used names' keys' r → Holds h (memory m.table m.bits m.places names' keys' m.counts) live r t
  held_kept kept = record { fit = hold.fit; state = hold.state; listed = kept.listed; keyed = keys_kept hold.keyed kept; given = hold.given; counted = hold.counted }

-- a line that is misspelt
pub taken_misspelt : (m : Memory) (s : Standing) (client : ℕ) (why : Refusal) → Takes m s client (refused (number why)) m (record { answer = Err why; standing = s })
taken_misspelt m s client why = record { each = λ h hold. record { refusal = refl; most_needed = omega arith; goes = λ q. clash (eq-eqb (number why) 0 q) (numbered why) } }
