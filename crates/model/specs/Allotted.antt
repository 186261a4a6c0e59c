-- A table for each allocation. A maker may keep a small table for each root in place of one table for all: since trees are apart, the small ones
-- answer as the one would, and hold together what it would hold.
-- Assumes nothing.
use Rattle.std.specs.Prelude.{ℕ, zero, suc, ◌<◌, ◌≡◌, cond, List, [], ◌∷◌, map, eqb, length, replicate}
use Rattle.model.specs.declared.Cap.{Cap}
use Rattle.model.specs.declared.Tally.{Tally}
use Rattle.model.specs.declared.Sheet.{Sheet}
use Rattle.model.specs.declared.Event.{Event}
use Rattle.model.specs.declared.Event.TheVariants.{Create, Borrow, Read, Write, Drop}
use Rattle.model.specs.Lists.{answers, final}
use Rattle.model.specs.Requests.{Unlimited, caller, Request, Single}
use Rattle.model.specs.Slots.{unstored}
use Rattle.model.specs.Table.{lent_table}
use Rattle.model.specs.Refusals.{view_of, judge}
use Rattle.model.specs.Bits.{bits_after}
use Rattle.model.specs.Effects.{new_name, issued_after}
use Rattle.model.specs.Step.{Verdict, verdict, State, initial, state_after}
use Rattle.model.specs.Step
use Rattle.model.specs.TreesApart.{tree, tree_after, live}

-- what such a maker keeps: the live rows of each root's table, newest first; the root of each name; and, for all tables together, the written bits
-- and the issued number
pub record Allotted : Type 0 where
  pub small : ℕ → List Cap
  pub home : ℕ → ℕ
  pub bits : List ℕ
  pub issued : ℕ

abbrev pub nothing_yet : Allotted
nothing_yet = record { small = λ r. []; home = λ x. 0; bits = replicate 8192 0; issued = 0 }

-- an event of a domain, without limits. (Names that are dropped together may lie in several tables: they are judged, and then dropped, one by one,
-- as card 5 says.)
abbrev pub ask : ℕ × Event → Request
ask e = Single (caller e.0 Unlimited) e.1

-- the root of the table that an event goes to: it is found by the capability used, and not by the address; a create begins a table
abbrev pub goes_to : Allotted → Event → ℕ
goes_to a (Create w s t) = suc a.issued
goes_to a (Borrow w u s t) = a.home u.0
goes_to a (Read u s) = a.home u.0
goes_to a (Write u s) = a.home u.0
goes_to a (Drop u) = a.home u.0

-- its number there, where each table has m rows. (No event looks at what is stored.)
unfoldable pub number : ℕ → Allotted → ℕ × Event → ℕ
number m a e = judge (view_of (lent_table m (a.small (goes_to a e.1))) a.bits unstored a.issued) (ask e)

unfoldable pub answer : ℕ → Allotted → ℕ × Event → Verdict
answer m a e = verdict (number m a e) (new_name a.issued (ask e))

-- Allowed, it changes the table that it goes to; a create also empties every other table that it touches. A new name is at home where the
-- event went.
abbrev pub outcome : Sheet → ℕ → Allotted → ℕ × Event → Allotted
outcome sheet zero a e =
    record {
      small = λ r. tree_after sheet a.issued r (a.small r) (ask e);
      home = λ x. cond (eqb x (new_name a.issued (ask e))) (goes_to a e.1) (a.home x);
      bits = bits_after a.bits (ask e);
      issued = issued_after a.issued (ask e);
    }
outcome sheet (suc k) a e = a

unfoldable pub after : Sheet → ℕ → Allotted → ℕ × Event → Allotted
after sheet m a e = outcome sheet (number m a e) a e

-- where the one table is never full, and no tree has as many as m rows
abbrev pub Roomy : Sheet → ℕ → State → List (ℕ × Event) → Type 0
Roomy sheet m h [] = Unit {0}
Roomy sheet m h (e ∷ es) = (length (live h) < length h.memory.table) × (((r : ℕ) → length (tree (live h) r) < m) × Roomy sheet m (Step.after sheet h (ask e)) es)

-- With n rows in the one table, and m in each of the others:
pub record OneForEach (sheet : Sheet) (n m : ℕ) (t : Tally) (es : List (ℕ × Event)) : Type 0 where
  -- every event has the answer that the one table gives
  pub same_answers_lem : answers (after sheet m) (answer m) nothing_yet es ≡ answers (Step.after sheet) Step.answer (initial n t) (map ask es)
  -- and each table has the rows of its tree in the one
  pub same_trees : (r : ℕ) → (final (after sheet m) nothing_yet es).small r ≡ tree (live (state_after sheet n t (map ask es))) r
