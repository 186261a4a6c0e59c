-- Document 01, "The bracket text": what reading a listing into a lent table answers, and what it leaves of the table and the tally. The
-- written bits of card 9 are not lent with it, so they stay as they are; nor are the limits of card 10, so no listing is judged by them.
-- Assumes nothing.
use Rattle.std.specs.Prelude.{◌≡◌, ℕ, cond, List, leb, length, Err, Ok, Result as Returned}
use Rattle.model.specs.declared.Refusal.{Refusal}
use Rattle.model.specs.declared.Cap.{Cap}
use Rattle.model.specs.declared.Tally.{Tally}
use Rattle.model.specs.Answers.{number}
use Rattle.model.specs.Counts.{tally}
use Rattle.table.specs.Words.{rows_in}
use Rattle.table.specs.Lent.{tally_in}
use Rattle.text.specs.Result.{Result, value, refused}
use Rattle.listing.specs.ReadListing.{Listed, read_listing}

-- "Reading gives refusal 1 for a lent table above 1,024 rows, 2 when no table in order has this listing, 10 when it holds more
-- capabilities than rows, in that order". "The old contents of that table are not judged": only their number is looked at.
unfoldable pub read_table : List ℕ → ℕ → Result Listed
read_table s rows = cond (leb rows 1024) (read_listing s rows) (refused 1)

-- "no listing changes the tally's other counts"
abbrev pub with_issued : ℕ → Tally → Tally
with_issued issued t = tally issued t.creates t.borrows t.reads t.writes t.drops t.refused

-- the issued number that was read, or the refusal
abbrev pub issued_read : Result Listed → Result ℕ
issued_read (value l) = value l.issued
issued_read (refused k) = refused k

-- what a listing is read into
pub record Target : Type 0 where
  pub table : List Cap
  pub tally : Tally

-- of the words that are lent
abbrev pub target : List (List ℕ) → List ℕ → Target
target ws w = record { table = rows_in ws; tally = tally_in w }

-- "on refusal the lent table and the issued number are unchanged"; "A listing that is read fixes the whole lent table and the issued number"
abbrev pub target_read : Result Listed → Target → Target
target_read (value l) h = record { table = l.table; tally = with_issued l.issued h.tally }
target_read (refused k) h = h

-- reading a listing into what is lent: the answer, and what is lent afterwards
abbrev pub answer_into : List ℕ → Target → Result ℕ
answer_into s h = issued_read (read_table s (length h.table))

abbrev pub target_into : List ℕ → Target → Target
target_into s h = target_read (read_table s (length h.table)) h

-- the answer that each case of the code's answer stands for
abbrev pub listing_answer : Returned ℕ Refusal → Result ℕ
listing_answer (Ok i) = value i
listing_answer (Err r) = refused (number r)

pub record ReadsInto (s : List ℕ) (before after : Target) (r : Returned ℕ Refusal) : Type 0 where
  pub answer : listing_answer r ≡ answer_into s before
  pub table : after.table ≡ (target_into s before).table
  pub tally : after.tally ≡ (target_into s before).tally

-- "A listing that is read fixes the whole lent table and the issued number"
pub record Fixes (l : Listed) (after : Target) : Type 0 where
  pub table : after.table ≡ l.table
  pub issued : after.tally.issued ≡ l.issued
