-- Document 01, "The bracket text": "A listing is `(issued N)`, then one line for each root by rising name: name, start, length, right, then
-- its children by rising name, each in the same form inside its parent's brackets." Card 6: the kind is "written by a borrow as a last word
-- `raw` or `cell`, and in listings after the right". Card 9: the mark is written "in listings after the kind". Card 10: of the maker's domain and
-- the mask of holders, "Listings always show both, maker first, before the children".
-- Assumes nothing.
use Rattle.std.specs.Prelude.{ℕ, suc, ◌+◌, cond, List, [], ◌∷◌, ◌++◌, reverse, eqb, length, get_or, drop}
use Rattle.model.specs.declared.Cap.{Cap}
use Rattle.model.specs.Table.{empty_row, live_rows}
use Rattle.table.specs.Rows.{name_at}
use Rattle.text.specs.Decimal.{decimal}
use Rattle.text.specs.Mask.{hex}
use Rattle.text.specs.Event.{bytes, spaced, line, right_word, kind_word, fresh_word}

-- The maker in decimal, "like every number here", and the mask "as 16 digits", each with a space before it. A mask of the maker alone, which a
-- line leaves out, is shown too.
abbrev pub holding : ℕ → ℕ → List ℕ
holding maker holders = spaced (maker ∷ []) ++ (32 ∷ hex 16 holders)

-- "name, start, length, right", the kind behind it, the mark, the maker and the mask: a capability's own pieces. A reference has no word of a
-- kind, and what is not marked no word of a mark.
unfoldable pub pieces : Cap → List ℕ
pieces c =
    decimal c.name.0
    ++ (spaced (c.start.0 ∷ c.length ∷ []) ++ (right_word c.right ++ (kind_word c.kind ++ (fresh_word c.fresh ++ holding c.maker c.holders))))

-- a form: a capability's pieces and then its children, inside its brackets
unfoldable pub form : Cap → List ℕ → List ℕ
form c inner = 40 ∷ (pieces c ++ (inner ++ (41 ∷ [])))

-- Rows stand by rising name, and a parent in an earlier row than its children: so a capability's children are among the later rows.

-- the children of p by rising name, each with a space before its form
unfoldable pub children : ℕ → List Cap → List ℕ
children p [] = []
children p (c ∷ later) =
    cond (eqb c.parent.0 p) (32 ∷ (form c (children c.name.0 later) ++ children p later)) (children p later)

-- "one line for each root by rising name"
unfoldable pub roots : List Cap → List ℕ
roots [] = []
roots (c ∷ later) =
    cond (eqb c.parent.0 0) (form c (children c.name.0 later) ++ (10 ∷ roots later)) (roots later)

-- the form of the row at i, the children of p from the row at i on, and the roots from there on
abbrev pub form_at : List Cap → ℕ → List ℕ
form_at rows i = form (get_or rows i empty_row) (children (name_at rows i) (drop (suc i) rows))

abbrev pub children_from : ℕ → List Cap → ℕ → List ℕ
children_from p rows i = children p (drop i rows)

abbrev pub roots_from : List Cap → ℕ → List ℕ
roots_from rows i = roots (drop i rows)

-- "`(issued N)`"
abbrev pub issued_line : ℕ → List ℕ
issued_line issued = line "(issued" (issued ∷ []) (bytes ")\n")

-- the listing of rows by rising name
unfoldable pub listed : List Cap → ℕ → List ℕ
listed rows issued = issued_line issued ++ roots rows

-- the listing of a table: of its live rows
abbrev pub listing : List Cap → ℕ → List ℕ
listing table issued = listed (reverse (live_rows table)) issued

-- ---- how long it is

-- how many bytes a capability adds to a listing: its pieces, two brackets, and a space before a child or a newline behind a root
unfoldable pub form_length : Cap → ℕ
form_length c = 3 + length (pieces c)

-- a number for each row, summed
unfoldable pub total : (Cap → ℕ) → List Cap → ℕ
total f [] = 0
total f (c ∷ cs) = f c + total f cs

abbrev pub forms_length : List Cap → ℕ
forms_length rows = total form_length rows
