-- Document 01, "Values": spans.
-- Assumes nothing.
use Rattle.std.specs.Prelude.{ℕ, ◌+◌, min, max, Bool, ◌&&◌, leb, ltb}
use Rattle.model.specs.declared.Span.{Span}

-- the address after the last one of a span
abbrev pub end : Span → ℕ
end s = s.start.0 + s.length

-- Legal when "start plus length is at most 4,294,967,296"; card 2: "Length 0 becomes legal in every span."
abbrev pub legal : Span → Bool
legal s = leb (end s) 4294967296

-- "Two spans touch when they share an address": the larger start is below the smaller end. One of length 0 "shares no address with
-- anything".
abbrev pub touches : Span → Span → Bool
touches s t = ltb (max s.start.0 t.start.0) (min (end s) (end t))

-- the first span lies inside the second; one of length 0 "when its start is at or between the other's start and end"
abbrev pub inside : Span → Span → Bool
inside s t = leb t.start.0 s.start.0 && leb (end s) (end t)
