-- Card 8 for texts: an allowed run goes by the requests of its lines, so the theorem about lists of requests holds of it.
-- Assumes nothing.
use mathlib.Core.Path.{◌≡◌, refl, sym, ap, ap₂, ◌∙◌}
use mathlib.Core.Logic.{◌⊎◌, inl, inr}
use mathlib.Core.Bool.{Bool, true, false, not, cond, ◌&&◌}
use mathlib.Core.List.{List, [], ◌∷◌, ◌++◌, flat_map, nil≢cons}
use Prim.Native.Nat.{ℕ, zero, suc, ◌+◌, ◌≤◌, ◌<◌}
use native.Mathlib.Omega.{arith}
use lib.Dec.{eqb, ltb}
use lib.ListN.{length, get_or, take, drop, length-append, get_or-eq_default}
use lib.Seq.{take-nil, split_at}
use borrow.Author.Tests.{ltb-true, ltb-false}
use Rattle.model.specs.declared.Name.{Name}
use Rattle.model.specs.declared.Span.{Span}
use Rattle.model.specs.declared.Event.TheVariants.{Read}
use Rattle.model.specs.declared.Sheet.{Sheet}
use Rattle.model.specs.declared.Tally.{Tally}
use Rattle.model.specs.Lists.{all, without, answers, final}
use Rattle.model.specs.Requests.{Limits, Unlimited, Caller, caller, Request, Single, Group, Mark, Back, turns_state}
use Rattle.model.specs.declared.Asked.TheVariants as variant
use Rattle.model.specs.Sheet6.{sheet6}
use Rattle.model.specs.Table.{is_domain}
use Rattle.model.specs.Step.{State, view, initial, is_allowed, answer, after}
use Rattle.model.specs.Refusals.{unfit}
use Rattle.model.specs.ReadRemoved.{NoReadEnds, NoStates, OnlyRights, read_strikes, ReadRemoved}
use Rattle.model.proofs.Offered.{test, clash, and_both, all_append, answers_append, read_removed, no_read_ends}
use Rattle.text.specs.Class.{class_of, newline}
use Rattle.text.specs.Line.{push, lines_of, parts_of}
use Rattle.text.specs.Event.{bytes, spell, has_spelling, InRange}
use Rattle.text.specs.Result.{Result, value, refused, refusal_of}
use Rattle.text.specs.Request.{read_request, spell_request}
use Rattle.text.specs.declared.spelling.Spelling.{Spelling}
use Rattle.text.specs.declared.spelling.Spelling.TheVariants.{Plain}
use Rattle.text.proofs.Offered.{parts_together, read_request_is_spelling, spell_is_line, spelling_reads_back, state_reads_back}
use Rattle.listing.specs.SameButRights.{SameButRights}
use Rattle.listing.proofs.Offered.{lowered_listing}
use Rattle.trace.specs.Run.{Ran, run_trace, run_from, lent, run}
use Rattle.trace.specs.Stops.{joined, first_lines}
use Rattle.trace.specs.Check.{answer_line, listing_of, no_counts}
use Rattle.trace.specs.Spellings.{checked}
use Rattle.trace.specs.ReadRemoved.{without_line, IsRead, is_no_state, NoStatesBehind, LineRemoved, ChecksRemoved}
use Rattle.trace.proofs.Laws.Allowed.{is_request, all_requests, cons_request, requests, requests_append, AllAllowed, Allowed, allowed_lines, Front, none, first, front_run, TraceOf, trace_of}
use Rattle.trace.proofs.Laws.Order.{refused_run}
use Rattle.trace.proofs.Laws.Stops.{lines_first}
use Rattle.trace.proofs.Laws.Spellings.{header_misread, ran_text}

-- ---- the lines without one

-- they are the lines of the text without that line
lines_without : (k : ℕ) (text : List ℕ) → lines_of (without_line k text) ≡ without k (lines_of text)
unfolding without_line parts_of push flat_map
lines_without k [] = refl
lines_without k (b ∷ s) = go (eqb (class_of b) newline) refl (lines_of s) (ap lines_of (parts_together newline s)) (λ j. lines_without j s) k
  where
    go : (t : Bool) → eqb (class_of b) newline ≡ t → (ls : List (List ℕ)) → lines_of (joined ls) ≡ ls → ((j : ℕ) → lines_of (joined (without j ls)) ≡ without j ls) → (k : ℕ)
        → lines_of (joined (without k (cond t ((b ∷ []) ∷ ls) (push b ls)))) ≡ without k (cond t ((b ∷ []) ∷ ls) (push b ls))
    go true is ls whole ih zero = whole
    go true is ls whole ih (suc k) = rw is (ap (λ (l : List (List ℕ)). (b ∷ []) ∷ l) (ih k))
    go false is [] whole ih zero = refl
    go false is [] whole ih (suc k) = rw is
    go false is (l ∷ ls) whole ih zero = ih zero
    go false is (l ∷ ls) whole ih (suc k) = rw is (ap (push b) (ih (suc k)))

without_examples : (without_line 1 (bytes "(create 0 64 rw)\n(read 1 0 8)\n(drop 1)\n") ≡ bytes "(create 0 64 rw)\n(drop 1)\n") × (without_line 1 (bytes "(drop 1)\n(drop") ≡ bytes "(drop 1)\n")
unfolding without_line parts_of push class_of flat_map
without_examples = (refl, refl)

-- and no more bytes
fewer_bytes : (k : ℕ) (text : List ℕ) → length (without_line k text) ≤ length text
unfolding without_line flat_map
fewer_bytes k text = omega (arith, go k (lines_of text), ap length (parts_together newline text))
  where
    go : (k : ℕ) (ls : List (List ℕ)) → length (joined (without k ls)) ≤ length (joined ls)
    go k [] = omega arith
    go zero (l ∷ ls) = simp length-append (omega arith)
    go (suc k) (l ∷ ls) = simp length-append (omega (arith, go k ls))

without_is : (k : ℕ) (ls : List (List ℕ)) → without k ls ≡ take k ls ++ drop (suc k) ls
without_is k [] = rw (take-nil {A = List ℕ} k)
without_is zero (x ∷ ls) = refl
without_is (suc k) (x ∷ ls) = ap (λ (m : List (List ℕ)). x ∷ m) (without_is k ls)

-- ---- a line that is a read

module _ (actor : ℕ) (domain : is_domain actor ≡ true) (u : Name) (s : Span) (small : InRange (Read u s)) where
  -- it reads in both spellings
  read_reads : (limits : Limits) (k : Spelling) → read_request limits k (spell actor (Read u s)) ≡ value (Single (caller actor limits) (Read u s))
  unfolding has_spelling
  read_reads limits k = rw (spelling_reads_back k actor (Read u s) domain small)

  read_some : spell actor (Read u s) ≡ [] → ⊥
  unfolding parts_of
  read_some e = let p = spell_is_line actor (Read u s) [] in nil≢cons (rw e at p)

  -- it is among the lines behind the front
  record At (k : ℕ) (before lines : List (List ℕ)) : Type 0 where
    place : ℕ
    earlier : take k (before ++ lines) ≡ before ++ take place lines
    left : without k (before ++ lines) ≡ before ++ without place lines
    later : drop (suc k) (before ++ lines) ≡ drop (suc place) lines
    here : get_or lines place [] ≡ spell actor (Read u s)

  at : {j : Spelling} {before : List (List ℕ)} → Front j before → (k : ℕ) (lines : List (List ℕ)) → get_or (before ++ lines) k [] ≡ spell actor (Read u s) → At k before lines
  at none k lines is = record { place = k; earlier = refl; left = refl; later = refl; here = is }
  at first zero lines is = absurd (let q : ◌≡◌ {A = ℕ} 0 1 = cc (is, read_reads Unlimited Plain, header_misread Unlimited Plain) in omega arith)
  at first (suc k) lines is = record { place = k; earlier = refl; left = refl; later = refl; here = is }

-- every line that reads as a read, in either spelling, is the spelling of it
pub is_read : (limits : Limits) (j : Spelling) (k : ℕ) (text : List ℕ) (by : Caller) (u : Name) (s : Span) → read_request limits j (get_or (lines_of text) k []) ≡ value (Single by (Read u s)) → IsRead k text by.actor u s
unfolding has_spelling spell_request
is_read limits j k text by u s read =
    let spelled = read_request_is_spelling limits j (get_or (lines_of text) k []) (Single by (Read u s)) read in
    record { is_domain_lem = spelled.1.0; line = spelled.2; small = spelled.1.1 }

-- ---- lines that are neither marks nor backs

-- what such a line reads as is neither
no_state : (limits : Limits) (k : Spelling) (l : List ℕ) (q : Request) → is_no_state l ≡ true → read_request limits k l ≡ value q → not (turns_state q) ≡ true
unfolding spell_request
no_state limits k l (Single by e) free is = refl
no_state limits k l (Group by names) free is = refl
no_state limits k l (Mark by j) free is =
    let s = read_request_is_spelling limits k l (Mark by j) is in
    clash free (ap (λ r. eqb (refusal_of r) 2) (state_reads_back (variant.Mark by.actor j) l (s.1, s.2)))
no_state limits k l (Back by j) free is =
    let s = read_request_is_spelling limits k l (Back by j) is in
    clash free (ap (λ r. eqb (refusal_of r) 2) (state_reads_back (variant.Back by.actor j) l (s.1, s.2)))

no_states : (limits : Limits) (k : Spelling) (ls : List (List ℕ)) → all is_no_state ls ≡ true → NoStates (requests limits k ls)
unfolding requests
no_states limits k [] free = refl
no_states limits k (l ∷ ls) free = let p = and_both (is_no_state l) (all is_no_state ls) free in go (read_request limits k l) refl p.0 (no_states limits k ls p.1)
  where
    go : (r : Result Request) → read_request limits k l ≡ r → is_no_state l ≡ true → NoStates (requests limits k ls) → NoStates (cons_request r (requests limits k ls))
    go (value q) is free ih = rw (no_state limits k l q free is) ih
    go (refused x) is free ih = ih

-- ---- card 8

module _ (sheet : Sheet) (limits : Limits) (h : State) (k : ℕ) (text : List ℕ) (actor : ℕ) (u : Name) (s : Span) (r : IsRead k text actor u s) (z : (run sheet limits h text).refusal ≡ 0) where
  fit : unfit limits (view h) ≡ false
  fit = go (test (unfit limits (view h)))
    where
      go : (unfit limits (view h) ≡ true) ⊎ (unfit limits (view h) ≡ false) → unfit limits (view h) ≡ false
      go (inl d) = absurd (let one = ap (λ (q : Ran State). q.refusal) (refused_run sheet limits h text d) in omega arith)
      go (inr f) = f

  run_is : (t : List ℕ) → run sheet limits h t ≡ run_trace (lent sheet limits) h (lines_of t)
  unfolding run_from
  run_is t = rw fit

  t : TraceOf sheet limits h (lines_of text)
  t = trace_of sheet limits h (lines_of text) (ap (λ (q : Ran State). q.refusal) (sym (run_is text)) ∙ z)

  w : At actor r.is_domain_lem u s r.small k t.before t.lines
  w = at actor r.is_domain_lem u s r.small t.front k t.lines (ap (λ (ls : List (List ℕ)). get_or ls k []) (sym t.is) ∙ r.line)

  -- the lines before it and behind it
  abbrev earlier : List (List ℕ)
  earlier = take w.place t.lines

  abbrev later : List (List ℕ)
  later = drop (suc w.place) t.lines

  abbrev asked : List (List ℕ) → List Request
  asked = requests limits t.spelling

  lines_are : t.lines ≡ earlier ++ (spell actor (Read u s) ∷ later)
  lines_are = split_at t.lines w.place [] inside ∙ ap (λ (l : List ℕ). earlier ++ (l ∷ later)) w.here
    where
      inside : w.place < length t.lines
      inside = go (test (ltb w.place (length t.lines)))
        where
          go : (ltb w.place (length t.lines) ≡ true) ⊎ (ltb w.place (length t.lines) ≡ false) → w.place < length t.lines
          go (inl y) = ltb-true w.place (length t.lines) y
          go (inr n) = absurd (read_some actor r.is_domain_lem u s r.small (sym w.here ∙ get_or-eq_default t.lines [] (ltb-false w.place (length t.lines) n)))

  asked_are : asked t.lines ≡ asked earlier ++ (Single (caller actor limits) (Read u s) ∷ asked later)
  unfolding requests
  asked_are = ap asked lines_are ∙ requests_append limits t.spelling earlier (spell actor (Read u s) ∷ later) ∙ ap (λ (q : Result Request). asked earlier ++ cons_request q (asked later)) (read_reads actor r.is_domain_lem u s r.small limits t.spelling)

  all_requests_lem : (all_requests limits t.spelling earlier ≡ true) × (all_requests limits t.spelling (spell actor (Read u s) ∷ later) ≡ true)
  all_requests_lem = and_both (all_requests limits t.spelling earlier) (all_requests limits t.spelling (spell actor (Read u s) ∷ later)) (sym (ap (all_requests limits t.spelling) lines_are ∙ all_append _ earlier (spell actor (Read u s) ∷ later)) ∙ t.allowed.0)

  -- a text of these lines
  ran : (text : List ℕ) (lines : List (List ℕ)) → lines_of text ≡ t.before ++ lines → Allowed sheet limits t.spelling h lines
      → run sheet limits h text ≡ record { refusal = 0; number = length t.before + length lines; state = final (after sheet) h (asked lines) }
  ran text lines is a = run_is text ∙ ap (run_trace (lent sheet limits) h) is ∙ front_run t.front limits (lent sheet limits) h lines a.0 ∙ allowed_lines sheet limits t.spelling (length t.before) h lines a

  -- the requests of the three
  with_read : AllAllowed sheet limits h (asked earlier ++ (Single (caller actor limits) (Read u s) ∷ asked later))
  with_read = ap (λ (qs : List Request). all is_allowed (answers (after sheet) answer h qs)) (sym asked_are) ∙ t.allowed.1

  before_read : AllAllowed sheet limits h (asked earlier)
  before_read =
      (and_both (all is_allowed (answers (after sheet) answer h (asked earlier))) (all is_allowed (answers (after sheet) answer (final (after sheet) h (asked earlier)) (Single (caller actor limits) (Read u s) ∷ asked later)))
      (sym (ap (all is_allowed) (answers_append (after sheet) answer h (asked earlier) (Single (caller actor limits) (Read u s) ∷ asked later)) ∙ all_append is_allowed (answers (after sheet) answer h (asked earlier)) _) ∙ with_read)).0

  module _ (none_end : NoReadEnds sheet) (none_behind : NoStatesBehind k text) where
    no_later : NoStates (asked later)
    no_later = no_states limits t.spelling later (ap (all is_no_state) (sym (ap (drop (suc k)) t.is ∙ w.later)) ∙ none_behind)

    removed : ReadRemoved sheet h (asked earlier) (caller actor limits) u s (asked later)
    removed = read_removed sheet none_end h (asked earlier) (caller actor limits) u s (asked later) no_later with_read

    left_are : asked (earlier ++ later) ≡ asked earlier ++ asked later
    left_are = requests_append limits t.spelling earlier later

    left_allowed : Allowed sheet limits t.spelling h (earlier ++ later)
    left_allowed = (
      all_append _ earlier later ∙ ap₂ (λ (a b : Bool). a && b) all_requests_lem.0 (and_both (is_request (read_request limits t.spelling (spell actor (Read u s)))) (all_requests limits t.spelling later) all_requests_lem.1).1,
      ap (λ (qs : List Request). all is_allowed (answers (after sheet) answer h qs)) left_are ∙ removed.all_allowed_lem,
    )

    ran_first : (run sheet limits h (first_lines k text)).state ≡ final (after sheet) h (asked earlier)
    ran_first = ap (λ (q : Ran State). q.state) (ran (first_lines k text) earlier (lines_first k text ∙ ap (take k) t.is ∙ w.earlier) (all_requests_lem.0, before_read))

    ran_with : (run sheet limits h text).state ≡ final (after sheet) h (asked earlier ++ (Single (caller actor limits) (Read u s) ∷ asked later))
    ran_with = ap (λ (q : Ran State). q.state) (ran text t.lines t.is t.allowed) ∙ ap (final (after sheet) h) asked_are

    ran_left : run sheet limits h (without_line k text) ≡ record { refusal = 0; number = length t.before + length (earlier ++ later); state = final (after sheet) h (asked (earlier ++ later)) }
    ran_left = ran (without_line k text) (earlier ++ later) (lines_without k text ∙ ap (without k) t.is ∙ w.left ∙ ap (λ (ls : List (List ℕ)). t.before ++ ls) (without_is w.place t.lines)) left_allowed

    ran_without : (run sheet limits h (without_line k text)).state ≡ final (after sheet) h (asked earlier ++ asked later)
    ran_without = ap (λ (q : Ran State). q.state) ran_left ∙ ap (final (after sheet) h) left_are

    rights : OnlyRights sheet (run sheet limits h (first_lines k text)).state u s (run sheet limits h text).state (run sheet limits h (without_line k text)).state
    rights = rw (ran_first, ran_with, ran_without) removed.rights

    same_listing : SameButRights (listing_of (run sheet limits h text)) (listing_of (run sheet limits h (without_line k text)))
    same_listing =
        let without_read_lem = (run sheet limits h (without_line k text)).state in
        let strikes = read_strikes sheet (run sheet limits h (first_lines k text)).state u s in
        rw (rights.exactly, ap (λ (y : Tally). y.issued) rights.one_read_more) (lowered_listing strikes without_read_lem.memory.table without_read_lem.tally.issued)

    line_removed : LineRemoved sheet limits h k text u s
    line_removed =
        record {
          allowed = ap (λ (q : Ran State). q.refusal) ran_left;
          one_line_fewer = omega (arith, ap (λ (q : Ran State). q.number) (ran text t.lines t.is t.allowed), ap (λ (q : Ran State). q.number) ran_left, ap length lines_are, length-append earlier (spell actor (Read u s) ∷ later), length-append earlier later);
          rights = rights;
          same_listing = same_listing;
        }

-- "if one read is removed from a trace whose every event is allowed"
pub read_line_removed : (sheet : Sheet) (limits : Limits) → NoReadEnds sheet → (h : State) (k : ℕ) (text : List ℕ) (actor : ℕ) (u : Name) (s : Span) → IsRead k text actor u s → NoStatesBehind k text → (run sheet limits h text).refusal ≡ 0
    → LineRemoved sheet limits h k text u s
read_line_removed sheet limits none_end h k text actor u s r none_behind z = line_removed sheet limits h k text actor u s r z none_end none_behind

-- what `capcheck` prints
pub read_check_removed : (k : ℕ) (text : List ℕ) (actor : ℕ) (u : Name) (s : Span) → IsRead k text actor u s → NoStatesBehind k text → (checked text).refusal ≡ 0 → length text ≤ 65536 → ChecksRemoved k text
read_check_removed k text actor u s r none_behind z few =
    let l = read_line_removed sheet6 Unlimited no_read_ends (initial 1024 no_counts) k text actor u s r none_behind z in
    record {
      with_read = ran_text text few ∙ ap₂ (λ (x n : ℕ). answer_line x n ++ listing_of (checked text)) z l.one_line_fewer;
      without_read_lem = ran_text (without_line k text) (omega (arith, fewer_bytes k text)) ∙ ap (λ (x : ℕ). answer_line x (checked (without_line k text)).number ++ listing_of (checked (without_line k text))) l.allowed;
      same_listing = l.same_listing;
    }
