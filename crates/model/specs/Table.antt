-- Document 01, "Values", and cards 6, 9 and 10: the rows of the lent table, and when a table is in order.
-- Assumes nothing.
use Rattle.std.specs.Prelude.{ℕ, suc, ◌+◌, ◌-◌, Bool, true, not, cond, ◌&&◌, ◌||◌, leb, ltb, eqb, length, replicate}
use mathlib.Core.List.{List, [], ◌∷◌, ◌++◌, map, reverse, Memᴰ}
use Rattle.model.specs.declared.Span.{Span}
use Rattle.model.specs.declared.Cap.{Cap}
use Rattle.model.specs.Lists.{filter, any, all}
use Rattle.model.specs.Values.{end, legal, inside}
use Rattle.model.specs.Derivation.{Derivation}
use Rattle.model.specs.Bits.{has_bit}

-- ---- rows

-- a capability's row: its derivation, its present right, and its depth
abbrev pub row : Derivation → ℕ → ℕ → Cap
row d right depth =
    record {
      name = record { 0 = d.name };
      parent = record { 0 = d.parent };
      start = d.span.start;
      length = d.span.length;
      right = right;
      depth = depth;
      kind = d.kind;
      fresh = d.fresh;
      maker = d.maker;
      holders = d.holders;
    }

-- a row that is all zeros
abbrev pub empty_row : Cap
empty_row = row (record { name = 0; parent = 0; span = record { start = record { 0 = 0 }; length = 0 }; kind = 0; fresh = 0; maker = 0; holders = 0 }) 0 0

abbrev pub span : Cap → Span
span c = record { start = c.start; length = c.length }

abbrev pub derivation : Cap → Derivation
derivation c = record { name = c.name.0; parent = c.parent.0; span = span c; kind = c.kind; fresh = c.fresh; maker = c.maker; holders = c.holders }

abbrev pub derivations : List Cap → List Derivation
derivations = map derivation

-- the row has the name x
abbrev pub named : ℕ → Cap → Bool
named x c = eqb x c.name.0

-- "Live capabilities stand first, in rising order of name; every later row is all zeros."
-- The rules speak of the live rows with the newest first, so that what follows a row in the list stands before it in the table.
unfoldable pub live_rows : List Cap → List Cap
live_rows table = reverse (filter (λ c. not (named 0 c)) table)

-- the table of n rows that has these live rows
unfoldable pub lent_table : ℕ → List Cap → List Cap
lent_table n rows = reverse rows ++ replicate (n - length rows) empty_row

-- the row of the name x
unfoldable pub lookup : ℕ → List Cap → Cap
lookup x [] = empty_row
lookup x (c ∷ rows) = cond (named x c) c (lookup x rows)

-- ---- a table in order

unfoldable pub is_empty_row : Cap → Bool
is_empty_row c = eqb c.name.0 0 && eqb c.parent.0 0 && eqb c.start.0 0 && eqb c.length 0 && eqb c.right 0 && eqb c.depth 0 && eqb c.kind 0 && eqb c.fresh 0 && eqb c.maker 0 && eqb c.holders 0

-- "arranged as above": from the first row named 0 on, every row is all zeros
unfoldable pub live_rows_first : List Cap → Bool
live_rows_first [] = true
live_rows_first (c ∷ table) = cond (named 0 c) (all is_empty_row (c ∷ table)) (live_rows_first table)

-- "rights are 1 or 2"
abbrev pub is_right : ℕ → Bool
is_right r = eqb r 1 || eqb r 2

-- Card 6: "0 reference, 1 raw, 2 cell"; "Any other kind number is refusal 1 in a row"
abbrev pub is_kind : ℕ → Bool
is_kind k = leb k 2

-- Card 9: "a row whose mark is not 0 or 1 .. is refusal 1"
abbrev pub is_mark : ℕ → Bool
is_mark m = leb m 1

abbrev pub is_marked : Derivation → Bool
is_marked d = eqb d.fresh 1

-- Card 10: "A domain above 63 .. is .. 1 in a row"
abbrev pub is_domain : ℕ → Bool
is_domain d = ltb d 64

-- the domain has its bit in the mask: "domain D being worth 2^D"
abbrev pub holds : Derivation → ℕ → Bool
holds d actor = has_bit d.holders actor

-- what is asked of the mark, the maker and the holders: that a marked row ends at 65,536 or below, and that the mask has its maker
unfoldable pub terms_in_order : Derivation → Bool
terms_in_order d = is_domain d.maker && (holds d d.maker && (is_mark d.fresh && (not (is_marked d) || leb (end d.span) 65536)))

-- "a span inside the parent's, a right not above it, and a depth one more and at most 64"; card 9: a row whose mark "differs from its
-- parent's, is refusal 1"
unfoldable pub row_fits_parent : Cap → Cap → Bool
row_fits_parent c p = inside (span c) (span p) && leb c.right p.right && eqb c.depth (p.depth + 1) && leb c.depth 64 && eqb c.fresh p.fresh

-- "a row with parent 0 has depth 1", and by card 6 "a root of kind 1 or 2" is refused; "any other row has its parent in an earlier row",
-- and fits it
unfoldable pub parent_in_order : Cap → List Cap → Bool
parent_in_order c earlier = cond (eqb c.parent.0 0) (eqb c.depth 1 && eqb c.kind 0) (any (named c.parent.0) earlier && row_fits_parent c (lookup c.parent.0 earlier))

-- a row against the earlier ones
unfoldable pub row_in_order : Cap → List Cap → Bool
row_in_order c earlier = legal (span c) && is_right c.right && is_kind c.kind && terms_in_order (derivation c) && parent_in_order c earlier

-- each live row against the earlier ones; names rise strictly, and stay below a bound
unfoldable pub rows_in_order : ℕ → List Cap → Bool
rows_in_order bound [] = true
rows_in_order bound (c ∷ earlier) = ltb c.name.0 bound && row_in_order c earlier && rows_in_order c.name.0 earlier

-- "A table is in order when: it has at most 1,024 rows, arranged as above; names rise strictly and none exceeds the issued number;
-- issued is at most 1,000,000"; and the rest of that sentence of each row
unfoldable pub in_order : List Cap → ℕ → Bool
in_order table issued = leb (length table) 1024 && live_rows_first table && leb issued 1000000 && rows_in_order (suc issued) (live_rows table)

-- ---- one set of capabilities

-- rows that are the same set: a capability is among the one exactly when it is among the other
pub record SameMembers (a b : List Cap) : Type 0 where
  pub forth : (c : Cap) → Memᴰ c a → Memᴰ c b
  pub back : (c : Cap) → Memᴰ c b → Memᴰ c a
