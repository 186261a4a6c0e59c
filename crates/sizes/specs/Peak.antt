-- Card 13, "trying table sizes": the rows that the clients' lines need, found in one run.
-- Assumes nothing.
use Rattle.std.specs.Prelude.{ℕ, suc, max, cond, List, [], ◌∷◌, eqb, length}
use Rattle.model.specs.declared.Event.{Event}
use Rattle.model.specs.declared.Event.TheVariants.{Create, Borrow, Read, Write, Drop}
use Rattle.model.specs.Table.{live_rows}
use Rattle.text.specs.Result.{Result, value, refused}
use Rattle.text.specs.Form.{read_form}
use Rattle.sizes.specs.Turns.{Turn}
use Rattle.sizes.specs.Clients.{Shared, stop, refusal, after}
use Rattle.sizes.specs.Report as report
use Rattle.sizes.specs.Report.{Report}

-- the rows that an event needs where so many live: a create or borrow one more than live before it, and the others none
abbrev pub needs : ℕ → Event → ℕ
needs live (Create w s r) = suc live
needs live (Borrow w u s r) = suc live
needs live (Read u s) = 0
needs live (Write u s) = 0
needs live (Drop u) = 0

abbrev pub needs_of : Shared → Result Event → ℕ
needs_of h (value e) = needs (length (live_rows h.state.memory.table)) e
needs_of h (refused r) = 0

abbrev pub needs_at : Shared → Turn → ℕ
needs_at h t = needs_of h (read_form t.line)

-- the most that live before a create or borrow, plus one
unfoldable pub peak : Shared → List Turn → ℕ
peak h [] = 0
peak h (t ∷ ts) = max (needs_at h t) (peak (after h t) ts)

-- one run: it stops at the first line that is refused, and else keeps the most that was needed
unfoldable pub sized : Shared → ℕ → List Turn → Report
sized h most [] = report.rows most
sized h most (t ∷ ts) = cond (eqb (refusal h t) 0) (sized (after h t) (max most (needs_at h t)) ts) (report.refused (stop (refusal h t) t.client t.number))
