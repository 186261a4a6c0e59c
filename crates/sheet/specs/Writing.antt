-- What the functions below the public call that writes a sheet promise each other.
-- Assumes nothing.
use Rattle.std.specs.Prelude.{ℕ, List, ◌++◌}
use Rattle.text.specs.Event.{bytes}
use Rattle.sheet.specs.Words.{holder_words, access_words}
use Rattle.sheet.specs.Rule.{word_at}
use Rattle.sheet.specs.Rules.{holder_at, access_at}

-- a line's first two brackets but for their end, of the combination at a place
unfoldable pub front_at : ℕ → List ℕ
front_at p = bytes "(rule (holder " ++ (word_at holder_words (holder_at p) ++ (bytes ") (access " ++ word_at access_words (access_at p)))
