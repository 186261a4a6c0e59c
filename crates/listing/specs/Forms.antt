-- Document 01, "The bracket text": "A listing reads as a form holding a run of forms, to depth 64." This is what is guessed of any text.
-- Nothing is judged here: the guess is accepted where it writes back to the same bytes (`ReadListing`).
-- Assumes nothing.
use Rattle.std.specs.Prelude.{Bool, cond, ◌&&◌, List, [], ◌∷◌, reverse, ℕ, zero, suc, ◌+◌, ◌*◌, ltb, eqb, length, get_or, drop}
use Rattle.model.specs.declared.Cap.{Cap}
use Rattle.text.specs.Class.{newline}
use Rattle.text.specs.Line.{through, after_space}
use Rattle.text.specs.Decimal.{number_of}
use Rattle.text.specs.Mask.{hex_of}
use Rattle.text.specs.Event.{kind_word, fresh_word}
use Rattle.text.specs.Read.{right_of, kind_of, fresh_at}
use Rattle.listing.specs.Sort.{sorted}

-- what is left of the text, and the rows so far, the newest first
pub record Reading : Type 0 where
  pub rest : List ℕ
  pub rows : List Cap

-- the words of a form: what stands behind its bracket, and behind each space
abbrev pub name_text : List ℕ → List ℕ
name_text s = drop 1 s

abbrev pub start_text : List ℕ → List ℕ
start_text s = after_space (name_text s)

abbrev pub length_text : List ℕ → List ℕ
length_text s = after_space (start_text s)

abbrev pub right_text : List ℕ → List ℕ
right_text s = after_space (length_text s)

-- how many bytes the kind's word has that is found behind the right, and the mark that is found behind the kind
abbrev pub kind_length : List ℕ → ℕ
kind_length s = length (kind_word (kind_of (right_text s)))

abbrev pub mark_of : List ℕ → ℕ
mark_of s = fresh_at (right_text s) (4 + kind_length s)

-- the maker stands behind the two letters of the right, the words of the kind and of the mark, and a space; the mask of holders behind the
-- maker's space; and the children behind the mask's 16 digits
abbrev pub maker_text : List ℕ → List ℕ
maker_text s = drop (3 + (kind_length s + length (fresh_word (mark_of s)))) (right_text s)

abbrev pub mask_text : List ℕ → List ℕ
mask_text s = after_space (maker_text s)

abbrev pub children_text : List ℕ → List ℕ
children_text s = drop 16 (mask_text s)

-- the row that a form's words spell
abbrev pub row_of : List ℕ → ℕ → ℕ → Cap
row_of s parent depth = record {
  name = record { 0 = number_of (name_text s) };
  parent = record { 0 = parent };
  start = record { 0 = number_of (start_text s) };
  length = number_of (length_text s);
  right = right_of (right_text s);
  depth = depth;
  kind = kind_of (right_text s);
  fresh = mark_of s;
  maker = number_of (maker_text s);
  holders = hex_of (mask_text s);
}

-- a child follows: the depth ("to depth 64") and the table ("0 to 1,024 rows") allow one, and the text goes on with a space
abbrev pub follows : List ℕ → ℕ → ℕ → Bool
follows s count depth = ltb depth 64 && (ltb count 1024 && eqb (get_or s 0 0) 32)

abbrev pub child_follows : ℕ → Reading → Bool
child_follows depth r = follows r.rest (length r.rows) depth

-- "A form holding a run of forms":
-- a form is its row, the run of its children behind the mask of holders, and its closing bracket;
-- a run is a form behind a space, and a run behind that, as long as one follows.
-- k bounds the calls of the two: every k above twice the bytes that are left gives the same.
unfoldable mutual
  pub read_form : ℕ → ℕ → ℕ → Reading → Reading
  read_form zero parent depth r = r
  read_form (suc k) parent depth r =
      let row = row_of r.rest parent depth in
      let inner = read_run k row.name.0 depth (record { rest = children_text r.rest; rows = row ∷ r.rows }) in
      record { rest = drop 1 inner.rest; rows = inner.rows }

  pub read_run : ℕ → ℕ → ℕ → Reading → Reading
  read_run zero parent depth r = r
  read_run (suc k) parent depth r =
      let child = read_form k parent (depth + 1) (record { rest = drop 1 r.rest; rows = r.rows }) in
      let more = read_run k parent depth child in
      cond (child_follows depth r) more r

-- a line: the form of a root, and its newline
abbrev pub read_line : Reading → Reading
read_line r =
    let root = read_form (2 * length r.rest + 2) 0 1 r in
    record { rest = drop 1 root.rest; rows = root.rows }

abbrev pub line_follows : Reading → Bool
line_follows r = ltb 0 (length r.rest) && ltb (length r.rows) 1024

-- the rows of the lines, at most k of them
unfoldable pub read_lines : ℕ → Reading → List Cap
read_lines zero r = r.rows
read_lines (suc k) r =
    let more = read_lines k (read_line r) in
    cond (line_follows r) more r.rows

-- the rows of a listing by rising name, and its issued number
unfoldable pub guess_rows : List ℕ → List Cap
guess_rows s = sorted (reverse (read_lines 1024 (record { rest = drop (through newline s) s; rows = [] })))

abbrev pub guess_issued : List ℕ → ℕ
guess_issued s = number_of (after_space s)
