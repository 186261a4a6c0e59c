-- Card 1: "Two traces that differ only in this spelling, with right names and neither `(long)`, get the same verdicts; the new one's lines
-- allowed, and its line number unless 0, are one higher."
-- Assumes nothing.
use Rattle.std.specs.Prelude.{ℕ, zero, suc, ◌<◌, ◌≡◌, false, List, [], ◌∷◌, ◌++◌, map, length}
use Rattle.model.specs.Requests.{Limits, Unlimited, Request, caller_of}
use Rattle.model.specs.declared.Sheet.{Sheet}
use Rattle.model.specs.Sheet6.{sheet6}
use Rattle.model.specs.Step.{State, initial}
use Rattle.model.specs.Named.{unnamed, all_rightly_named}
use Rattle.text.specs.Line.{next_line}
use Rattle.text.specs.Read.{same}
use Rattle.text.specs.Result.{refused}
use Rattle.text.specs.declared.spelling.Spelling.TheVariants.{Plain, Named}
use Rattle.text.specs.Request.{read_request, spell_request, HasLine}
use Rattle.trace.specs.Run.{header, Ran, run}
use Rattle.trace.specs.Check.{answer_line, listing_of, report, no_counts, check_text}

-- the lines of several requests, of which any may be marks and backs
unfoldable pub text_of : List Request → List ℕ
text_of [] = []
text_of (q ∷ qs) = spell_request q ++ text_of qs

-- a trace of document 01, and the same with its names written out, when so many have been issued; card 11: "Issued names .. are never turned
-- back", so behind a back the right names go on from that number
abbrev pub plain_text : List Request → List ℕ
plain_text qs = text_of (map unnamed qs)

abbrev pub named_text : ℕ → List Request → List ℕ
named_text issued qs = header ++ text_of (all_rightly_named issued qs)

-- a request has a line, and comes with the limits that are lent with the run
abbrev pub Spellable : Limits → Request → Type 0
Spellable limits q = ((caller_of q).limits ≡ limits) × HasLine Plain (unnamed q)

abbrev pub Spelled : Limits → List Request → Type 0
Spelled limits [] = Unit {0}
Spelled limits (q ∷ qs) = Spellable limits q × Spelled limits qs

-- one higher: the lines allowed, and a line number unless it is 0
abbrev pub one_higher : ℕ → ℕ → ℕ
one_higher zero lines = suc lines
one_higher (suc refusal) zero = zero
one_higher (suc refusal) (suc line) = suc (suc line)

-- What stands behind the requests of both: nothing; or one and the same line, which is read in neither spelling. A run ends at that line,
-- so anything may follow it, in each of the two another text.
pub data Rests : List ℕ → List ℕ → Type 0 where
  none : Rests [] []
  misspelt : {rest rest' : List ℕ} → 0 < length rest → next_line rest ≡ next_line rest' → ((limits : Limits) → read_request limits Plain (next_line rest) ≡ refused 2)
      → ((limits : Limits) → read_request limits Named (next_line rest) ≡ refused 2) → Rests rest rest'

-- A trace of document 01: its first line is not the header. One that begins with a request always is (`request_first` of
-- proofs/Laws/Spellings); where there is none, what stands behind could begin with the header.
abbrev pub OldTrace : List ℕ → Type 0
OldTrace text = same (next_line text) header ≡ false

-- the verdicts of the two traces, by any sheet on whatever is lent
pub record SameVerdicts (sheet : Sheet) (limits : Limits) (h : State) (plain named : List ℕ) : Type 0 where
  pub same_refusal : (run sheet limits h named).refusal ≡ (run sheet limits h plain).refusal
  pub one_higher_lem : (run sheet limits h named).number ≡ one_higher (run sheet limits h plain).refusal (run sheet limits h plain).number
  pub same_state : (run sheet limits h named).state ≡ (run sheet limits h plain).state

-- the run that `capcheck` prints
abbrev pub checked : List ℕ → Ran State
checked = run sheet6 Unlimited (initial 1024 no_counts)

-- what `capcheck` prints of the two, neither `(long)`: the new one's answer with its number one higher, and the same listing
pub record SameChecks (plain named : List ℕ) : Type 0 where
  pub plain_report : check_text plain ≡ report (checked plain)
  pub named_report : check_text named
      ≡ answer_line (checked plain).refusal (one_higher (checked plain).refusal (checked plain).number) ++ listing_of (checked plain)
