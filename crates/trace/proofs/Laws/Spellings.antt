-- Card 1: a trace without names, and the same with its right names behind `(trace 2)`, get the same verdicts, up to the first line that
-- is misspelt in both; and what `capcheck` prints of them.
-- Assumes nothing.
use mathlib.Core.Path.{◌≡◌, refl, sym, ap, ◌∙◌}
use mathlib.Core.Logic.{◌⊎◌, inl, inr}
use mathlib.Core.Bool.{Bool, true, false, cond}
use mathlib.Core.List.{List, [], ◌∷◌, ◌++◌, append_assoc, nil≢cons, head-eq_of_cons-eq}
use Prim.Native.Nat.{ℕ, zero, suc, ◌+◌, ◌<◌, ◌≤◌, ◌^◌}
use native.Mathlib.Omega.{arith}
use lib.Dec.{eqb}
use lib.ListN.{length, length-take}
use borrow.Author.Tests.{leb-true, eqb-true}
use Rattle.model.specs.declared.Event.TheVariants.{Create, Borrow, Read, Write, Drop}
use Rattle.model.specs.Requests.{Limits, Unlimited, Request, Single, Group, Mark, Back, caller_of, rises_above, rises_strictly, is_group}
use Rattle.model.specs.Effects.{issued_after}
use Rattle.model.specs.declared.Sheet.{Sheet}
use Rattle.model.specs.Sheet6.{sheet6}
use Rattle.model.specs.Step.{State, view, initial, answer, after}
use Rattle.model.specs.Refusals.{unfit}
use Rattle.model.specs.Slots.{unstored}
use Rattle.model.specs.Table.{in_order}
use Rattle.model.specs.Named.{unnamed, rightly_named, all_rightly_named}
use Rattle.model.proofs.Offered.{fit_order, issued_allowed, order_after, ordered, same_after, same_answer, test}
use Rattle.text.specs.Class.{class_of, newline}
use Rattle.text.specs.Line.{through, next_line, lines_of, parts_of}
use Rattle.text.specs.Decimal.{numeral, decimal, number_from}
use Rattle.text.specs.Event.{bytes, spaced, form, spell, has_spelling, writes_name}
use Rattle.text.specs.Group.{spell_group, names_from, guess_names, read_group}
use Rattle.text.specs.Read.{same, guess, read_event}
use Rattle.text.specs.Result.{refused}
use Rattle.text.specs.declared.spelling.Spelling.{Spelling}
use Rattle.text.specs.declared.spelling.Spelling.TheVariants.{Plain, Named}
use Rattle.text.specs.State.{spell_slot, read_state}
use Rattle.text.specs.Request.{read_request, spell_request, HasLine}
use Rattle.text.proofs.Offered.{parts_next, part_some, header_is_no_event, header_is_no_state, request_is_line, request_reads_back, same_true}
use Rattle.trace.specs.Run.{header, Ran, run_lines, run_from, lent, run}
use Rattle.trace.specs.Check.{report, no_counts, check_text}
use Rattle.trace.specs.Spellings.{text_of, plain_text, named_text, Spellable, Spelled, one_higher, Rests, none, misspelt, OldTrace, SameVerdicts, checked, SameChecks}
use Rattle.trace.proofs.Laws.Header.{trace_plain, trace_named}
use Rattle.trace.proofs.Laws.Order.{refused_line, refused_run}
use Rattle.trace.proofs.Laws.Report.{ran_report}

-- ---- a request that has a line without its name has one with its right name

named_line : (i : ℕ) → suc i < 2 ^ 32 → (q : Request) → HasLine Plain (unnamed q) → HasLine Named (rightly_named i q)
unfolding has_spelling writes_name unnamed rightly_named
named_line i l (Single by (Create w s r)) sp = (sp.0, ((l, sp.1.0), sp.1.1))
named_line i l (Single by (Borrow w u s r)) sp = (sp.0, ((l, sp.1.0), sp.1.1))
named_line i l (Single by (Read u s)) sp = sp
named_line i l (Single by (Write u s)) sp = sp
named_line i l (Single by (Drop u)) sp = sp
named_line i l (Group by names) sp = sp
named_line i l (Mark by j) sp = sp
named_line i l (Back by j) sp = sp

-- and whoever asks for it asks for the other
unnamed_caller : (q : Request) → (caller_of (unnamed q)).limits ≡ (caller_of q).limits
unfolding unnamed
unnamed_caller (Single by (Create w s r)) = refl
unnamed_caller (Single by (Borrow w u s r)) = refl
unnamed_caller (Single by (Read u s)) = refl
unnamed_caller (Single by (Write u s)) = refl
unnamed_caller (Single by (Drop u)) = refl
unnamed_caller (Group by names) = refl
unnamed_caller (Mark by j) = refl
unnamed_caller (Back by j) = refl

named_caller : (i : ℕ) (q : Request) → (caller_of (rightly_named i q)).limits ≡ (caller_of q).limits
unfolding rightly_named
named_caller i (Single by (Create w s r)) = refl
named_caller i (Single by (Borrow w u s r)) = refl
named_caller i (Single by (Read u s)) = refl
named_caller i (Single by (Write u s)) = refl
named_caller i (Single by (Drop u)) = refl
named_caller i (Group by names) = refl
named_caller i (Mark by j) = refl
named_caller i (Back by j) = refl

-- ---- the lines of both

-- a request is one line, whatever follows
request_line : (q : Request) (s t : List ℕ) → lines_of ((spell_request q ++ s) ++ t) ≡ spell_request q ∷ lines_of (s ++ t)
request_line q s t = ap lines_of (append_assoc (spell_request q) s t) ∙ request_is_line q (s ++ t)

-- the same run, where one line more was taken before it
record Higher (q p : Ran State) : Type 0 where
  refusals : q.refusal ≡ p.refusal
  numbers : q.number ≡ p.number + 1
  states : q.state ≡ p.state

-- behind the requests, both have the same line or none
same_rests : (sheet : Sheet) (limits : Limits) {rest rest' : List ℕ} → Rests rest rest' → (before : ℕ) (h : State) → Higher (run_lines (lent sheet limits) Named (before + 1) h (lines_of rest')) (run_lines (lent sheet limits) Plain before h (lines_of rest))
unfolding run_lines parts_of
same_rests sheet limits none before h = record { refusals = refl; numbers = refl; states = refl }
same_rests sheet limits (misspelt {rest = rest} {rest' = rest'} some line no_plain no_named) before h =
    let some' : 0 < length rest' = omega (arith, part_some newline rest some, ap length line, length-take (through newline rest') rest') in
    rw (parts_next newline rest some, parts_next newline rest' some', ← line, no_plain limits, no_named limits) (record { refusals = refl; numbers = refl; states = refl })

-- an example: a number with a leading zero, and in the first another line behind it
rests_example : Rests (bytes "(read 01 0 8)\n(drop 1)\n") (bytes "(read 01 0 8)\n")
unfolding read_event guess has_spelling spell form read_state spell_slot read_group guess_names names_from is_group rises_strictly rises_above spell_group spaced decimal numeral number_from through class_of same
rests_example = misspelt {rest = bytes "(read 01 0 8)\n(drop 1)\n"} (omega arith) refl (λ limits. refl) (λ limits. refl)

module _ (sheet : Sheet) (limits : Limits) {rest rest' : List ℕ} (rests : Rests rest rest') where
  same_lines : (qs : List Request) → Spelled limits qs → (before : ℕ) (h : State) → in_order h.memory.table h.tally.issued ≡ true → (i : ℕ) → i ≡ h.tally.issued
      → Higher (run_lines (lent sheet limits) Named (before + 1) h (lines_of (text_of (all_rightly_named i qs) ++ rest'))) (run_lines (lent sheet limits) Plain before h (lines_of (plain_text qs ++ rest)))
  unfolding text_of all_rightly_named run_lines
  same_lines [] sp before h o i is = same_rests sheet limits rests before h
  same_lines (q ∷ qs) sp before h o i is =
      let small : suc i < 2 ^ 32 = omega (arith, is, leb-true h.tally.issued 1000000 (ordered h.memory.table h.tally.issued o).names_left) in
      rw (
        request_line (rightly_named i q) (text_of (all_rightly_named (issued_after i q) qs)) rest',
        request_line (unnamed q) (plain_text qs) rest,
        request_reads_back limits Named (rightly_named i q) (named_caller i q ∙ sp.0.0) (named_line i small q sp.0.1),
        request_reads_back limits Plain (unnamed q) (unnamed_caller q ∙ sp.0.0) sp.0.1,
        answers,
        afters,
      )
      (go (eqb (answer h (unnamed q)).refusal 0) refl (same_lines qs sp.1 (before + 1) (after sheet h (unnamed q)) (order_after sheet h (unnamed q) o) (issued_after i q)))
    where
      answers : answer h (rightly_named i q) ≡ answer h (unnamed q)
      answers = ap (λ (j : ℕ). answer h (rightly_named j q)) is ∙ same_answer h q

      afters : after sheet h (rightly_named i q) ≡ after sheet h (unnamed q)
      afters = ap (λ (j : ℕ). after sheet h (rightly_named j q)) is ∙ same_after sheet h q

      next : State
      next = after sheet h (unnamed q)

      plain : Ran State
      plain = run_lines (lent sheet limits) Plain (before + 1) next (lines_of (plain_text qs ++ rest))

      named : Ran State
      named = run_lines (lent sheet limits) Named (before + 1 + 1) next (lines_of (text_of (all_rightly_named (issued_after i q) qs) ++ rest'))

      go : (b : Bool) → eqb (answer h (unnamed q)).refusal 0 ≡ b → (issued_after i q ≡ next.tally.issued → Higher named plain)
          → Higher (cond b named (record { refusal = (answer h (unnamed q)).refusal; number = before + 1 + 1; state = next })) (cond b plain (record { refusal = (answer h (unnamed q)).refusal; number = before + 1; state = next }))
      go true z ih = ih (ap (λ (j : ℕ). issued_after j q) is ∙ sym (issued_allowed sheet h q (eqb-true _ 0 z)))
      go false z ih = record { refusals = refl; numbers = refl; states = refl }

higher_is : (r n : ℕ) → (r ≡ 0) ⊎ (0 < n) → n + 1 ≡ one_higher r n
higher_is zero n h = omega arith
higher_is (suc r) zero (inl z) = absurd (let e : ◌≡◌ {A = ℕ} (suc r) 0 = z in omega arith)
higher_is (suc r) zero (inr l) = absurd (let e : 0 < 0 = l in omega arith)
higher_is (suc r) (suc n) h = omega arith

-- ---- the two texts

-- no request is spelled as the header
no_group : read_group header ≡ refused 2
unfolding read_group guess_names names_from is_group rises_strictly rises_above spell_group spaced decimal numeral number_from through class_of same
no_group = refl

pub header_misread : (limits : Limits) (k : Spelling) → read_request limits k header ≡ refused 2
header_misread limits k = rw (header_is_no_event k, no_group, header_is_no_state)

no_header : (limits : Limits) (q : Request) → Spellable limits q → same (spell_request (unnamed q)) header ≡ false
no_header limits q sp = go (test (same (spell_request (unnamed q)) header))
  where
    go : (same (spell_request (unnamed q)) header ≡ true) ⊎ (same (spell_request (unnamed q)) header ≡ false) → same (spell_request (unnamed q)) header ≡ false
    go (inl y) = absurd (let z : ◌≡◌ {A = ℕ} 0 1 = cc (ap (read_request limits Plain) (same_true (spell_request (unnamed q)) header y), request_reads_back limits Plain (unnamed q) (unnamed_caller q ∙ sp.0) sp.1, header_misread limits Plain) in omega arith)
    go (inr n) = n

first_line : (text line : List ℕ) (lines : List (List ℕ)) → lines_of text ≡ line ∷ lines → next_line text ≡ line
unfolding parts_of
first_line [] line lines e = absurd (nil≢cons e)
first_line (b ∷ text) line lines e = head-eq_of_cons-eq (sym (parts_next newline (b ∷ text) (omega arith)) ∙ e)

-- so a trace that begins with a request is one of document 01, whatever follows; and the other begins with the header
pub request_first : (limits : Limits) (q : Request) (qs : List Request) → Spelled limits (q ∷ qs) → (rest : List ℕ) → OldTrace (plain_text (q ∷ qs) ++ rest)
unfolding text_of
request_first limits q qs sp rest =
    let p = unnamed q in
    rw (first_line ((spell_request p ++ plain_text qs) ++ rest) (spell_request p) (lines_of (plain_text qs ++ rest)) (request_line p (plain_text qs) rest)) (no_header limits q sp.0)

header_first : (t : List ℕ) → same (next_line (header ++ t)) header ≡ true
unfolding through class_of same
header_first t = refl

module _ (sheet : Sheet) (limits : Limits) (h : State) (qs : List Request) (sp : Spelled limits qs) {rest rest' : List ℕ} (rests : Rests rest rest') (old : OldTrace (plain_text qs ++ rest)) (o : unfit limits (view h) ≡ false) where
  abbrev plain : List ℕ
  plain = plain_text qs ++ rest

  -- the lines behind the header
  abbrev behind : List ℕ
  behind = text_of (all_rightly_named h.tally.issued qs) ++ rest'

  plain_run : run sheet limits h plain ≡ run_lines (lent sheet limits) Plain 0 h (lines_of plain)
  unfolding run_from
  plain_run = rw o (trace_plain plain old (lent sheet limits) h)

  named_run : run sheet limits h (header ++ behind) ≡ run_lines (lent sheet limits) Named 1 h (lines_of behind)
  unfolding run_from
  named_run = rw o (trace_named (header ++ behind) (header_first behind) (lent sheet limits) h)

  fitting : SameVerdicts sheet limits h plain (header ++ behind)
  fitting =
      let s = same_lines sheet limits rests qs sp 0 h (fit_order limits (view h) o) h.tally.issued refl in
      let p = run_lines (lent sheet limits) Plain 0 h (lines_of plain) in
      record {
        same_refusal = rw (named_run, plain_run) s.refusals;
        one_higher_lem = rw (named_run, plain_run) (s.numbers ∙ higher_is p.refusal p.number (refused_line sheet limits Plain 0 h (lines_of plain)));
        same_state = rw (named_run, plain_run) s.states;
      }

pub same_verdicts : (sheet : Sheet) (limits : Limits) (h : State) (qs : List Request) → Spelled limits qs → {rest rest' : List ℕ} → Rests rest rest' → OldTrace (plain_text qs ++ rest)
    → SameVerdicts sheet limits h (plain_text qs ++ rest) (named_text h.tally.issued qs ++ rest')
same_verdicts sheet limits h qs sp {rest} {rest'} rests old = go (test (unfit limits (view h)))
  where
    plain : List ℕ
    plain = plain_text qs ++ rest

    named : List ℕ
    named = named_text h.tally.issued qs ++ rest'

    go : (unfit limits (view h) ≡ true) ⊎ (unfit limits (view h) ≡ false) → SameVerdicts sheet limits h plain named
    go (inl d) =
        let p = refused_run sheet limits h plain d in
        let n = refused_run sheet limits h named d in
        record { same_refusal = rw (n, p); one_higher_lem = rw (n, p); same_state = rw (n, p) }
    go (inr o) = fitting sheet limits h qs sp rests old o

-- ---- what `capcheck` prints

pub ran_text : (text : List ℕ) → length text ≤ 65536 → check_text text ≡ report (checked text)
ran_text text l = sym (ran_report unstored text (checked text) refl l)

pub same_checks : (qs : List Request) → Spelled Unlimited qs → {rest rest' : List ℕ} → Rests rest rest' → OldTrace (plain_text qs ++ rest)
    → length (plain_text qs ++ rest) ≤ 65536 → length (named_text 0 qs ++ rest') ≤ 65536 → SameChecks (plain_text qs ++ rest) (named_text 0 qs ++ rest')
same_checks qs sp {rest} {rest'} rests old few few' =
    let v = same_verdicts sheet6 Unlimited (initial 1024 no_counts) qs sp rests old in
    record {
      plain_report = ran_text (plain_text qs ++ rest) few;
      named_report = ran_text (named_text 0 qs ++ rest') few' ∙ ap report (λ i. record { refusal = v.same_refusal i; number = v.one_higher_lem i; state = v.same_state i });
    }
