-- Card 8: "Users thin long logs and ask us what that may change." A trace whose every line is allowed, in either of the two spellings, and the
-- same without one line that is a read. Card 11: card 8 supposes, of marks and backs, "that the trace never does" make one: here, that none
-- stands behind the read.
-- Assumes nothing.
use Rattle.std.specs.Prelude.{ℕ, suc, ◌≡◌, Bool, true, List, [], ◌++◌, eqb, get_or, drop}
use Rattle.model.specs.Requests.{Limits}
use Rattle.model.specs.declared.Name.{Name}
use Rattle.model.specs.declared.Span.{Span}
use Rattle.model.specs.declared.Event.TheVariants.{Read}
use Rattle.model.specs.declared.Sheet.{Sheet}
use Rattle.model.specs.Lists.{all, without}
use Rattle.model.specs.Step.{State}
use Rattle.model.specs.Table.{is_domain}
use Rattle.model.specs.ReadRemoved.{OnlyRights}
use Rattle.text.specs.Line.{lines_of}
use Rattle.text.specs.Event.{spell, InRange}
use Rattle.text.specs.Result.{refusal_of}
use Rattle.text.specs.State.{read_state}
use Rattle.listing.specs.SameButRights.{SameButRights}
use Rattle.trace.specs.Run.{run}
use Rattle.trace.specs.Stops.{joined, first_lines}
use Rattle.trace.specs.Check.{answer_line, listing_of, check_text}
use Rattle.trace.specs.Spellings.{checked}

-- the text without the line behind its first k
unfoldable pub without_line : ℕ → List ℕ → List ℕ
without_line k text = joined (without k (lines_of text))

-- that line is a domain's read of s through u, which both spellings write alike; its numbers are of 32 bits, as all of the code
pub record IsRead (k : ℕ) (text : List ℕ) (actor : ℕ) (u : Name) (s : Span) : Type 0 where
  pub is_domain_lem : is_domain actor ≡ true
  pub line : get_or (lines_of text) k [] ≡ spell actor (Read u s)
  pub small : InRange (Read u s)

-- a line is neither a mark nor a back, which both spellings write alike: it reads as none
abbrev pub is_no_state : List ℕ → Bool
is_no_state line = eqb (refusal_of (read_state line)) 2

-- and so it is of every line behind that one
abbrev pub NoStatesBehind : ℕ → List ℕ → Type 0
NoStatesBehind k text = all is_no_state (drop (suc k) (lines_of text)) ≡ true

-- by a sheet and on what is lent, the run of the text, and that without the line
pub record LineRemoved (sheet : Sheet) (limits : Limits) (h : State) (k : ℕ) (text : List ℕ) (u : Name) (s : Span) : Type 0 where
  pub allowed : (run sheet limits h (without_line k text)).refusal ≡ 0
  pub one_line_fewer : (run sheet limits h text).number ≡ suc (run sheet limits h (without_line k text)).number
  pub rights : OnlyRights sheet (run sheet limits h (first_lines k text)).state u s (run sheet limits h text).state (run sheet limits h (without_line k text)).state
  pub same_listing : SameButRights (listing_of (run sheet limits h text)) (listing_of (run sheet limits h (without_line k text)))

-- what `capcheck` prints of the two, the first not `(long)`: one line fewer, and the same listing but for rights
pub record ChecksRemoved (k : ℕ) (text : List ℕ) : Type 0 where
  pub with_read : check_text text ≡ answer_line 0 (suc (checked (without_line k text)).number) ++ listing_of (checked text)
  pub without_read_lem : check_text (without_line k text) ≡ answer_line 0 (checked (without_line k text)).number ++ listing_of (checked (without_line k text))
  pub same_listing : SameButRights (listing_of (checked text)) (listing_of (checked (without_line k text)))
