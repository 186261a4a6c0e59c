-- What a caller asks for: an event by itself, or, by card 5, "frames dropped together", names that are dropped together, or, by card 11,
-- "states to come back to", a mark or a back; and, by card 10, who asks.
-- Assumes nothing.
use Rattle.std.specs.Prelude.{ℕ, Bool, true, false, ◌&&◌, List, [], ◌∷◌, map, reverse, leb, ltb, eqb, length}
use Rattle.model.specs.declared.Work.{Work}
use Rattle.model.specs.declared.Work.TheVariants as work
use Rattle.model.specs.declared.Asked.{Asked}
use Rattle.model.specs.declared.Asked.TheVariants as asked
use Rattle.model.specs.declared.Event.{Event}
use Rattle.model.specs.declared.Event.TheVariants.{Drop}

-- Card 10: "A caller may lend a sheet of 64 limits, one for each domain, on the live rows it made."
pub data Limits : Type 0 where
  Unlimited : Limits
  Limited : List ℕ → Limits

-- the domain that acts, and the sheet of limits that is lent with the event, or none
pub record Caller : Type 0 where
  pub actor : ℕ
  pub limits : Limits

abbrev pub caller : ℕ → Limits → Caller
caller actor limits = record { actor = actor; limits = limits }

pub data Request : Type 0 where
  Single : Caller → Event → Request
  Group : Caller → List ℕ → Request
  Mark : Caller → ℕ → Request
  Back : Caller → ℕ → Request

abbrev pub caller_of : Request → Caller
caller_of (Single by e) = by
caller_of (Group by names) = by
caller_of (Mark by k) = by
caller_of (Back by k) = by

-- what is asked and by whom, with the sheet of limits and the names that are lent beside it; only a group has a use for the names
abbrev pub work_of : Limits → Work → List ℕ → Request
work_of limits (work.Single actor e) names = Single (caller actor limits) e
work_of limits (work.Group actor) names = Group (caller actor limits) names

abbrev pub request_of : Limits → Asked → List ℕ → Request
request_of limits (asked.Work w) names = work_of limits w names
request_of limits (asked.Mark actor k) names = Mark (caller actor limits) k
request_of limits (asked.Back actor k) names = Back (caller actor limits) k

-- ---- marks and backs

-- the request is a mark or a back
abbrev pub turns_state : Request → Bool
turns_state (Single by e) = false
turns_state (Group by names) = false
turns_state (Mark by k) = true
turns_state (Back by k) = true

abbrev pub is_back : Request → Bool
is_back (Single by e) = false
is_back (Group by names) = false
is_back (Mark by k) = false
is_back (Back by k) = true

-- it marks in this slot
abbrev pub marks : ℕ → Request → Bool
marks k (Single by e) = false
marks k (Group by names) = false
marks k (Mark by j) = eqb k j
marks k (Back by j) = false

-- ---- names dropped together

-- each name is above the one before it
unfoldable pub rises_above : ℕ → List ℕ → Bool
rises_above x [] = true
rises_above x (y ∷ ys) = ltb x y && rises_above y ys

unfoldable pub rises_strictly : List ℕ → Bool
rises_strictly [] = true
rises_strictly (x ∷ xs) = rises_above x xs

-- "1 to 64 names", strictly rising
unfoldable pub is_group : List ℕ → Bool
is_group names = leb 1 (length names) && leb (length names) 64 && rises_strictly names

-- "single drops in falling order of name"
abbrev pub single_drops : Caller → List ℕ → List Request
single_drops by names = map (λ u. Single by (Drop (record { 0 = u }))) (reverse names)
