-- Cards 1, 5, 10 and 11: the request that a line reads as, an event, names that are dropped together, a mark or a back, by a domain, and the line
-- that a request is written as.
-- Assumes nothing.
use Rattle.std.specs.Prelude.{◌≡◌, ℕ, ◌≤◌, true, List, [], length, None, Option, Some}
use Rattle.model.specs.declared.Name.{Name}
use Rattle.model.specs.declared.Event.{Event}
use Rattle.model.specs.declared.Event.TheVariants.{Create, Borrow, Read, Write, Drop}
use Rattle.model.specs.declared.Asked.{Asked}
use Rattle.model.specs.Requests.{Limits, caller, Request, Single, Group, Mark, Back, request_of, is_group}
use Rattle.model.specs.Table.{is_domain}
use Rattle.text.specs.Result.{Result, value, refused}
use Rattle.text.specs.Event.{spell, has_spelling, Below32, InRange}
use Rattle.text.specs.Read.{read_event}
use Rattle.text.specs.Write.{Outcome, write_event}
use Rattle.text.specs.Group.{spell_group, read_group, write_group}
use Rattle.text.specs.State.{slot_spelled, spell_mark, spell_back, read_state, write_mark, write_back}
use Rattle.text.specs.declared.spelling.Spelling.{Spelling}
use Rattle.text.specs.declared.spelling.Spelling.TheVariants.{Plain, Named}

-- Card 5: a line is an event, or names that are dropped together; one name is an event. Card 11: or it is a mark or a back, which is neither of the
-- others, so that it does not matter when it is tried (`state_first` and `state_second` of proofs/Laws/Requests). Card 10: the line says who acts, and
-- the sheet of limits is the caller's.
abbrev pub state_of : Limits → Result Asked → Result Request
state_of limits (value a) = value (request_of limits a [])
state_of limits (refused r) = refused r

abbrev pub or_state : Limits → List ℕ → Result (ℕ × List ℕ) → Result Request
or_state limits line (value g) = value (Group (caller g.0 limits) g.1)
or_state limits line (refused r) = state_of limits (read_state line)

abbrev pub or_group : Limits → List ℕ → Result (ℕ × Event) → Result Request
or_group limits line (value a) = value (Single (caller a.0 limits) a.1)
or_group limits line (refused r) = or_state limits line (read_group line)

abbrev pub read_request : Limits → Spelling → List ℕ → Result Request
read_request limits k line = or_group limits line (read_event k line)

-- the spelling that an event has: that of a `(trace 2)` text where it writes its new name out
abbrev pub spelling_with : Option Name → Spelling
spelling_with None = Plain
spelling_with (Some x) = Named

abbrev pub spelling_of : Event → Spelling
spelling_of (Create w s r) = spelling_with w
spelling_of (Borrow w n s r) = spelling_with w
spelling_of (Read n s) = Plain
spelling_of (Write n s) = Plain
spelling_of (Drop n) = Plain

-- a request written into the buffer out: its line says who acts, and no limits
abbrev pub write_request : Request → List ℕ → Outcome
write_request (Single by e) out = write_event (spelling_of e) by.actor e out
write_request (Group by names) out = write_group by.actor names out
write_request (Mark by k) out = write_mark by.actor k out
write_request (Back by k) out = write_back by.actor k out

-- the line of a request, by the domain that asks
unfoldable pub spell_request : Request → List ℕ
spell_request (Single by e) = spell by.actor e
spell_request (Group by names) = spell_group by.actor names
spell_request (Mark by k) = spell_mark by.actor k
spell_request (Back by k) = spell_back by.actor k

-- a request has a line in one of the two spellings; names dropped together are two or more, since one name is an event
abbrev pub HasLine : Spelling → Request → Type 0
HasLine k (Single by e) = (has_spelling k by.actor e ≡ true) × InRange e
HasLine k (Group by names) = (2 ≤ length names) × (is_domain by.actor ≡ true) × (is_group names ≡ true) × Below32 names
HasLine k (Mark by j) = slot_spelled by.actor j ≡ true
HasLine k (Back by j) = slot_spelled by.actor j ≡ true
