-- Cards 6 and 7: "The sheet of card 6 gives card 6's verdicts". Card 6's words, and the sheet.
-- Assumes nothing.
use Rattle.std.specs.Prelude.{Bool, false, not, cond, ◌&&◌, ◌||◌, List, [], ◌∷◌}
use Rattle.model.specs.declared.Span.{Span}
use Rattle.model.specs.declared.Access.{Access}
use Rattle.model.specs.declared.Access.TheVariants.{Reading, Writing}
use Rattle.model.specs.declared.Effect.{Effect}
use Rattle.model.specs.declared.Effect.TheVariants.{Keep, Lower, End}
use Rattle.model.specs.declared.Results.{Results}
use Rattle.model.specs.declared.Conflicts.{Conflicts}
use Rattle.model.specs.declared.Sheet.{Sheet}
use Rattle.model.specs.Lists.{any}
use Rattle.model.specs.Values.{touches}
use Rattle.model.specs.Derivation.{Derivation, in_subtree}
use Rattle.model.specs.Strike.{is_raw, is_cell}

-- ---- document 01: a read lowers, a write ends

abbrev pub effect_of : Access → Effect
effect_of Reading = Lower
effect_of Writing = End

-- "A read or write strikes a name when it touches that name's span and goes through a capability outside that name's subtree."
unfoldable pub strike_before : Access → Span → List Derivation → List Derivation → Effect
strike_before a s user [] = Keep
strike_before a s user (holder ∷ above) = cond (touches s holder.span && not (in_subtree holder.name user)) (effect_of a) Keep

-- ---- card 6

-- A capability is below another, or is it, when it is in its subtree. A holder is outside a cell's subtree when the cell is not on its ancestry.
-- "A write through a user below the parent of a raw capability, or that parent, doesn't strike the raw one; no read strikes it."
abbrev pub raw_spared : Access → List Derivation → Derivation → Bool
raw_spared Reading user holder = is_raw holder
raw_spared Writing user holder = is_raw holder && in_subtree holder.parent user

-- "A write through a cell, or from below it, strikes nothing outside that cell's subtree."
abbrev pub cell_spares : Access → List Derivation → List Derivation → Bool
cell_spares Reading user holder = false
cell_spares Writing user holder = any (λ cell. is_cell cell && not (in_subtree cell.name holder)) user

-- "All other strikes remain"
unfoldable pub strike6 : Access → Span → List Derivation → List Derivation → Effect
strike6 a s user [] = Keep
strike6 a s user (holder ∷ above) = cond (raw_spared a user holder || cell_spares a user (holder ∷ above)) Keep (strike_before a s user (holder ∷ above))

-- ---- its sheet

abbrev pub results : Effect → Effect → Effect → Results
results cell kin stranger = record { cell = cell; kin = kin; stranger = stranger }

abbrev pub conflicts : Results → Results → Conflicts
conflicts read write = record { read = read; write = write }

abbrev pub sheet6 : Sheet
sheet6 =
    record {
      reference = conflicts (results Lower Lower Lower) (results Keep End End);
      raw = conflicts (results Keep Keep Keep) (results Keep Keep End);
      cell = conflicts (results Lower Lower Lower) (results Keep End End);
    }
