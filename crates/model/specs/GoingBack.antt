-- Card 11, "states to come back to", worded by what is lent before and after, whatever that is.
-- Assumes nothing.
use Rattle.std.specs.Prelude.{ℕ, ◌<◌, ◌≡◌, false, List, [], ◌∷◌, ◌++◌, eqb, get_or}
use Rattle.model.specs.declared.Sheet.{Sheet}
use Rattle.model.specs.Lists.{any, final}
use Rattle.model.specs.Requests.{Caller, Request, Mark, Back}
use Rattle.model.specs.Slots.{Nothing, Stored}
use Rattle.model.specs.Table.{named, live_rows}
use Rattle.model.specs.Step.{State, answer, after}

-- an allowed mark
pub record Marked (sheet : Sheet) (h : State) (by : Caller) (k : ℕ) : Type 0 where
  -- it "stores the table and written bits", and changes no other slot
  pub stored : get_or (after sheet h (Mark by k)).slots k Nothing ≡ Stored h.memory
  pub elsewhere : (j : ℕ) → eqb j k ≡ false → get_or (after sheet h (Mark by k)).slots j Nothing ≡ get_or h.slots j Nothing
  -- nor the table and the bits; and it counts "only as a line"
  pub same_memory : (after sheet h (Mark by k)).memory ≡ h.memory
  pub same_tally : (after sheet h (Mark by k)).tally ≡ h.tally
  pub no_name : (answer h (Mark by k)).name ≡ 0

-- an allowed back
pub record WentBack (sheet : Sheet) (h : State) (by : Caller) (k : ℕ) : Type 0 where
  -- it "brings them back": what is stored there is what stands then
  pub brought : get_or h.slots k Nothing ≡ Stored (after sheet h (Back by k)).memory
  -- "Issued names and the tally are never turned back"; "only marks change it", the memory that is lent for states
  pub same_tally : (after sheet h (Back by k)).tally ≡ h.tally
  pub same_slots : (after sheet h (Back by k)).slots ≡ h.slots
  pub no_name : (answer h (Back by k)).name ≡ 0

-- a mark, requests that make none in that slot, and a back
module _ (sheet : Sheet) (h : State) (by by' : Caller) (k : ℕ) (fs : List Request) where
  abbrev pub before_back : State
  before_back = final (after sheet) h (Mark by k ∷ fs)

  abbrev pub after_back : State
  after_back = final (after sheet) h (Mark by k ∷ (fs ++ (Back by' k ∷ [])))

  pub record CameBack : Type 0 where
    -- the table and the bits are those of the mark, and the tally and the issued number those before the back
    pub same_memory : after_back.memory ≡ h.memory
    pub same_tally : after_back.tally ≡ before_back.tally
    -- "names given since are ended"
    pub ended_since : (x : ℕ) → h.tally.issued < x → any (named x) (live_rows after_back.memory.table) ≡ false
