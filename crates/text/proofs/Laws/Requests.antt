-- The theorems about requests, each an event, names that are dropped together, a mark or a back: what is written reads back to the same request, a
-- line that is read is the spelling of what was read and is what the request is written as, and two requests never share a spelling. A line reads
-- as a mark or back or as one of the others, never as both, so that in which order these are tried does not matter.
-- Assumes nothing.
use Rattle.std.specs.Prelude.{None, Some}
use mathlib.Core.Path.{◌≡◌, refl, sym, subst, ap, ◌∙◌}
use mathlib.Core.Bool.{Bool, true}
use mathlib.Core.List.{List, [], ◌∷◌, ◌++◌}
use Prim.Native.Nat.{ℕ, ◌≤◌}
use native.Mathlib.Omega.{arith}
use lib.ListN.{length, take, drop}
use borrow.Author.Tests.{le-leb}
use Rattle.model.proofs.Offered.{clash}
use Rattle.model.specs.declared.Asked.{Asked}
use Rattle.model.specs.declared.Asked.TheVariants as asked
use Rattle.model.specs.declared.Event.{Event}
use Rattle.model.specs.declared.Event.TheVariants.{Create, Borrow, Read, Write, Drop}
use Rattle.model.specs.Table.{is_domain}
use Rattle.model.specs.Requests.{Limits, caller, Request, Single, Group, Mark, Back, caller_of, request_of, is_group}
use Rattle.text.specs.Result.{Result, value, refused}
use Rattle.text.specs.Line.{lines_of}
use Rattle.text.specs.Event.{spell, writes_name, has_spelling, Below32, InRange}
use Rattle.text.specs.Write.{written, stored, Outcome, write_event}
use Rattle.text.specs.Read.{read_event}
use Rattle.text.specs.Group.{spell_group, read_group, write_group}
use Rattle.text.specs.State.{mark_word, back_word, spell_mark, spell_back, read_state, write_slot}
use Rattle.text.specs.Request.{state_of, or_state, or_group, read_request, spelling_of, write_request, spell_request, HasLine}
use Rattle.text.specs.declared.spelling.Spelling.{Spelling}
use Rattle.text.specs.declared.spelling.Spelling.TheVariants.{Plain, Named}
use Rattle.text.proofs.Laws.Write.{wrote, written_event}
use Rattle.text.proofs.Laws.Range.{longest_within, spell_short}
use Rattle.text.proofs.Laws.OneSpelling.{spelling_reads_back, read_is_spelling}
use Rattle.text.proofs.Laws.OneLine.{spell_is_line}
use Rattle.text.proofs.Laws.Group.{group_few, group_short, wrote_group}
use Rattle.text.proofs.Laws.GroupLine.{group_reads_back, read_group_is_spelling, refused_group_is_2, group_is_line, group_is_no_event, one_name}
use Rattle.text.proofs.Laws.StateLine.{StateLine, state_reads_back, written_line, read_state_is_spelling, refused_state_is_2, mark_is_line, back_is_line, state_short, state_is_no_event, state_is_no_group}

-- ---- what is written reads back

module _ (limits : Limits) (k : Spelling) where
  -- a mark or back is read as such, though it is tried last
  pub state_read : (a : Asked) (s : List ℕ) → StateLine a s → read_request limits k s ≡ value (request_of limits a [])
  state_read a s l = rw (state_is_no_event s k a l, state_is_no_group s a l, state_reads_back a s l)

  pub request_reads_back : (q : Request) → (caller_of q).limits ≡ limits → HasLine k q → read_request limits k (spell_request q) ≡ value q
  unfolding spell_request
  request_reads_back (Single by e) is h = rw (spelling_reads_back k by.actor e h.0 h.1, ← is)
  request_reads_back (Group by names) is h = rw (group_is_no_event k by.actor names h.0 h.1 h.2 h.3, group_reads_back by.actor names h.1 h.2 h.3, ← is)
  request_reads_back (Mark by j) is h = state_read (asked.Mark by.actor j) _ (h, refl) ∙ rw (← is)
  request_reads_back (Back by j) is h = state_read (asked.Back by.actor j) _ (h, refl) ∙ rw (← is)

  -- two requests with one spelling are equal, where the same limits are lent with them
  pub request_one_spelling : (p q : Request) → (caller_of p).limits ≡ limits → (caller_of q).limits ≡ limits → HasLine k p → HasLine k q → spell_request p ≡ spell_request q → p ≡ q
  request_one_spelling p q lp lq hp hq is =
      let read : ◌≡◌ {A = Result Request} (value p) (value q) = sym (request_reads_back p lp hp) ∙ ap (read_request limits k) is ∙ request_reads_back q lq hq in cc

  -- ---- what is read

  -- a line that is read is the spelling of what was read, with which come the limits that are lent
  abbrev IsRead : List ℕ → Request → Type 0
  IsRead s q = ((caller_of q).limits ≡ limits) × HasLine k q × (s ≡ spell_request q)

  event_read : (s : List ℕ) (a : ℕ × Event) → read_event k s ≡ value a → IsRead s (Single (caller a.0 limits) a.1)
  unfolding spell_request
  event_read s a h =
      let is = read_is_spelling k s a.0 a.1 h in
      (refl, (is.0, is.1), is.2)

  -- one name alone would have been read as an event
  group_read : (s : List ℕ) (g : ℕ × List ℕ) (r : ℕ) → read_event k s ≡ refused r → read_group s ≡ value g → IsRead s (Group (caller g.0 limits) g.1)
  unfolding spell_request is_group has_spelling
  group_read s g r none h =
      let is = read_group_is_spelling s g.0 g.1 h in
      (refl, (some g.1 is.0 is.1 is.2 is.3, is.0, is.1, is.2), is.3)
    where
      some : (names : List ℕ) → is_domain g.0 ≡ true → is_group names ≡ true → Below32 names → s ≡ spell_group g.0 names → 2 ≤ length names
      some [] d grouped b is = clash grouped refl
      some (x ∷ []) d grouped b is =
          let event : read_event k s ≡ value (g.0, Drop (record { 0 = x })) = ap (read_event k) (is ∙ one_name g.0 x) ∙ spelling_reads_back k g.0 (Drop (record { 0 = x })) d b in
          absurd (let z : ◌≡◌ {A = ℕ} 0 1 = cc in omega arith)
      some (x ∷ y ∷ names) d grouped b is = omega arith

  state_is_read : (s : List ℕ) (a : Asked) → StateLine a s → IsRead s (request_of limits a [])
  unfolding spell_request
  state_is_read s (asked.Work w) l = absurd l
  state_is_read s (asked.Mark actor j) l = (refl, l.0, l.1)
  state_is_read s (asked.Back actor j) l = (refl, l.0, l.1)

  pub read_request_is_spelling : (s : List ℕ) (q : Request) → read_request limits k s ≡ value q → ((caller_of q).limits ≡ limits) × HasLine k q × (s ≡ spell_request q)
  read_request_is_spelling s q h = event (read_event k s) refl h
    where
      same : {p : Request} → IsRead s p → ◌≡◌ {A = Result Request} (value p) (value q) → IsRead s q
      same {p} is e = let read : p ≡ q = cc in subst (IsRead s) read is

      state : (r : Result Asked) → read_state s ≡ r → state_of limits r ≡ value q → IsRead s q
      state (value a) e z = same (state_is_read s a (read_state_is_spelling s a e)) z
      state (refused n) e z = absurd (let z : ◌≡◌ {A = ℕ} 0 1 = cc in omega arith)

      group : (m : ℕ) → read_event k s ≡ refused m → (r : Result (ℕ × List ℕ)) → read_group s ≡ r → or_state limits s r ≡ value q → IsRead s q
      group m none (value g) e z = same (group_read s g m none e) z
      group m none (refused n) e z = state (read_state s) refl z

      event : (r : Result (ℕ × Event)) → read_event k s ≡ r → or_group limits s r ≡ value q → IsRead s q
      event (value a) e z = same (event_read s a e) z
      event (refused n) e z = group n e (read_group s) refl z

  -- a line that is not read is refusal 2
  pub refused_request_is_2 : (s : List ℕ) (n : ℕ) → read_request limits k s ≡ refused n → n ≡ 2
  refused_request_is_2 s n h = event (read_event k s) h
    where
      state : (r : Result Asked) → read_state s ≡ r → state_of limits r ≡ refused n → n ≡ 2
      state (value a) e z = absurd (let z : ◌≡◌ {A = ℕ} 0 1 = cc in omega arith)
      state (refused m) e z = let is : n ≡ m = cc in is ∙ refused_state_is_2 s m e

      group : (r : Result (ℕ × List ℕ)) → or_state limits s r ≡ refused n → n ≡ 2
      group (value g) z = absurd (let z : ◌≡◌ {A = ℕ} 0 1 = cc in omega arith)
      group (refused m) z = state (read_state s) refl z

      event : (r : Result (ℕ × Event)) → or_group limits s r ≡ refused n → n ≡ 2
      event (value a) z = absurd (let z : ◌≡◌ {A = ℕ} 0 1 = cc in omega arith)
      event (refused m) z = group (read_group s) z

  -- a line that is refused is that of no request
  pub refused_request_is_none : (s : List ℕ) → read_request limits k s ≡ refused 2 → (q : Request) → (caller_of q).limits ≡ limits → HasLine k q → s ≡ spell_request q → ⊥
  refused_request_is_none s h q lent line is = let z : ◌≡◌ {A = ℕ} 0 1 = cc (ap (read_request limits k) is, request_reads_back q lent line) in omega arith

-- ---- what is read is written as the same line

fits : {spelled : Bool} (s out : List ℕ) → spelled ≡ true → length s ≤ length out
    → ◌≡◌ {A = Outcome} (record { answer = written spelled s out; buffer = stored spelled s out }) (record { answer = value (length s); buffer = s ++ drop (length s) out })
unfolding written stored
fits s out is room = rw (is, le-leb (length s) (length out) room)

-- an event that has a spelling in one of the two has it in the one that it is written in
own_spelling : (k : Spelling) (actor : ℕ) (e : Event) → has_spelling k actor e ≡ true → has_spelling (spelling_of e) actor e ≡ true
unfolding has_spelling writes_name
own_spelling Plain actor (Create None s r) h = h
own_spelling Plain actor (Create (Some x) s r) h = clash h refl
own_spelling Named actor (Create None s r) h = clash h refl
own_spelling Named actor (Create (Some x) s r) h = h
own_spelling Plain actor (Borrow None n s r) h = h
own_spelling Plain actor (Borrow (Some x) n s r) h = clash h refl
own_spelling Named actor (Borrow None n s r) h = clash h refl
own_spelling Named actor (Borrow (Some x) n s r) h = h
own_spelling k actor (Read n s) h = h
own_spelling k actor (Write n s) h = h
own_spelling k actor (Drop n) h = h

pub request_written : (k : Spelling) (q : Request) → HasLine k q → (out : List ℕ) → length (spell_request q) ≤ length out
    → write_request q out ≡ record { answer = value (length (spell_request q)); buffer = spell_request q ++ drop (length (spell_request q)) out }
unfolding spell_request write_event write_group write_slot
request_written k (Single by e) h out room = fits (spell by.actor e) out (own_spelling k by.actor e h.0) room
request_written k (Group by names) h out room = rw h.2 (fits (spell_group by.actor names) out h.1 room)
request_written k (Mark by j) h out room = fits (spell_mark by.actor j) out h room
request_written k (Back by j) h out room = fits (spell_back by.actor j) out h room

pub read_writes_back : (limits : Limits) (k : Spelling) (s : List ℕ) (q : Request) → read_request limits k s ≡ value q → (out : List ℕ) → length s ≤ length out
    → write_request q out ≡ record { answer = value (length s); buffer = s ++ drop (length s) out }
read_writes_back limits k s q h out room =
    let is = read_request_is_spelling limits k s q h in
    rw is.2 (request_written k q is.1 out (rw is.2 at room))

-- ---- what is written reads back

-- what the type gives of a request's numbers; names dropped together are two or more
abbrev pub Numbered : Request → Type 0
Numbered (Single by e) = InRange e
Numbered (Group by names) = (2 ≤ length names) × Below32 names
Numbered (Mark by j) = Unit {0}
Numbered (Back by j) = Unit {0}

-- the line that was written is one of the text whose spelling an event has; the other lines are in both
abbrev pub WrittenIn : Spelling → Request → Type 0
WrittenIn k (Single by e) = spelling_of e ≡ k
WrittenIn k (Group by names) = Unit {0}
WrittenIn k (Mark by j) = Unit {0}
WrittenIn k (Back by j) = Unit {0}

wrote_request : (k : Spelling) (q : Request) → WrittenIn k q → Numbered q → (out : List ℕ) (n : ℕ) → (write_request q out).answer ≡ value n
    → HasLine k q × (take n (write_request q out).buffer ≡ spell_request q)
unfolding spell_request
wrote_request k (Single by e) own b out n h =
    let w = wrote n (written_event (spelling_of e) by.actor e (λ i. record { answer = sym h i; buffer = (write_event (spelling_of e) by.actor e out).buffer })) refl in
    ((ap (λ (j : Spelling). has_spelling j by.actor e) (sym own) ∙ w.was, b), w.front)
wrote_request k (Group by names) own b out n h =
    let w = wrote_group by.actor names out n (λ i. record { answer = sym h i; buffer = (write_group by.actor names out).buffer }) refl in
    ((b.0, w.1.was, w.0, b.1), w.1.front)
wrote_request k (Mark by j) own b out n h = written_line by.actor j out n mark_word h
wrote_request k (Back by j) own b out n h = written_line by.actor j out n back_word h

pub written_request_reads_back : (limits : Limits) (k : Spelling) (q : Request) → (caller_of q).limits ≡ limits → WrittenIn k q → Numbered q → (out : List ℕ) (n : ℕ)
    → (write_request q out).answer ≡ value n → read_request limits k (take n (write_request q out).buffer) ≡ value q
written_request_reads_back limits k q lent own b out n h =
    let w = wrote_request k q own b out n h in
    ap (read_request limits k) w.1 ∙ request_reads_back limits k q lent w.0

-- ---- the line of a request

-- it is one line with its newline, whatever follows
pub request_is_line : (q : Request) (t : List ℕ) → lines_of (spell_request q ++ t) ≡ spell_request q ∷ lines_of t
unfolding spell_request
request_is_line (Single by e) = spell_is_line by.actor e
request_is_line (Group by names) = group_is_line by.actor names
request_is_line (Mark by j) = mark_is_line by.actor j
request_is_line (Back by j) = back_is_line by.actor j

-- the longest is that of 64 names, and has 719 bytes
pub request_short : (k : Spelling) (q : Request) → HasLine k q → length (spell_request q) ≤ 719
unfolding spell_request
request_short k (Single by e) h = omega (arith, (longest_within k).1, spell_short k by.actor e h.0 h.1)
request_short k (Group by names) h = group_short by.actor names h.1 (group_few names h.2) h.3
request_short k (Mark by j) h = omega (arith, state_short _ (asked.Mark by.actor j) (h, refl))
request_short k (Back by j) h = omega (arith, state_short _ (asked.Back by.actor j) (h, refl))

-- ---- the order in which a line is tried

abbrev or_else : Result Request → Result Request → Result Request
or_else (value q) r = value q
or_else (refused n) r = r

abbrev event_of : Limits → Result (ℕ × Event) → Result Request
event_of limits (value a) = value (Single (caller a.0 limits) a.1)
event_of limits (refused n) = refused n

abbrev group_of : Limits → Result (ℕ × List ℕ) → Result Request
group_of limits (value g) = value (Group (caller g.0 limits) g.1)
group_of limits (refused n) = refused n

-- a mark or back tried first, and tried behind an event, is what it is tried last
module _ (limits : Limits) (k : Spelling) (s : List ℕ) where
  abbrev event : Result Request
  event = event_of limits (read_event k s)

  abbrev group : Result Request
  group = group_of limits (read_group s)

  abbrev state : Result Request
  state = state_of limits (read_state s)

  pub state_first : or_else state (or_else event group) ≡ read_request limits k s
  state_first = go (read_state s) (read_event k s) (read_group s) refl refl refl
    where
      go : (a : Result Asked) (e : Result (ℕ × Event)) (g : Result (ℕ × List ℕ)) → read_state s ≡ a → read_event k s ≡ e → read_group s ≡ g
          → or_else (state_of limits a) (or_else (event_of limits e) (group_of limits g)) ≡ read_request limits k s
      go (value a) e g is p q = sym (state_read limits k a s (read_state_is_spelling s a is))
      go (refused n) (value e) g is p q = rw p
      go (refused n) (refused m) (value g) is p q = rw (p, q)
      go (refused n) (refused m) (refused j) is p q =
          rw (p, q, is) (ap refused (refused_group_is_2 s j q ∙ sym (refused_state_is_2 s n is)))

  pub state_second : or_else event (or_else state group) ≡ read_request limits k s
  state_second = go (read_event k s) refl
    where
      go : (e : Result (ℕ × Event)) → read_event k s ≡ e → or_else (event_of limits e) (or_else state group) ≡ read_request limits k s
      go (value e) p = rw p
      go (refused m) p = rw p (rw p at state_first)
