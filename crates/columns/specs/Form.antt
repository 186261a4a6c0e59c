-- Card 12, "traces by column": the words by which "events with a spelling in document 01's form" stand in a lent list.
-- Assumes nothing.
use Rattle.std.specs.Prelude.{ℕ, Bool, ◌&&◌, List, [], ◌∷◌, get_or}
use Rattle.model.specs.declared.Event.{Event}
use Rattle.model.specs.Requests.{Request, Single, Unlimited, caller}
use Rattle.text.specs.Read.{same}
use Rattle.text.specs.Form.{in_form}
use Rattle.kelzoud_events.specs.Interface.{event_in, words_of}

-- such an event as it is asked for: by domain 0
abbrev pub asked : Event → Request
asked e = Single (caller 0 Unlimited) e

-- its twelve words, with 0 where its kind has no such value
abbrev pub event_words : Event → List ℕ
event_words e = words_of (asked e)

-- the twelve words of a lent list's element; its type says that it has no others
abbrev pub twelve : List ℕ → List ℕ
twelve w =
    get_or w 0 0 ∷ get_or w 1 0 ∷ get_or w 2 0 ∷ get_or w 3 0 ∷ get_or w 4 0 ∷ get_or w 5 0
    ∷ get_or w 6 0 ∷ get_or w 7 0 ∷ get_or w 8 0 ∷ get_or w 9 0 ∷ get_or w 10 0 ∷ get_or w 11 0 ∷ []

-- Words stand for such an event when they are its words, all twelve: a value that its kind lacks is 0, and another domain than 0, names dropped
-- together, a mark and a back are other events. So nothing is lost where the event is read from the words.
unfoldable pub is_event : List ℕ → Bool
is_event w = in_form (event_in w) && same (event_words (event_in w)) (twelve w)
