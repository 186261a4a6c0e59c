-- Trees apart. Since card 4 a create ends what it touches, so no two live roots share an address. What goes through a name stays in that
-- name's tree, and does there what it would do if the tree stood alone: a maker may keep one small table for each allocation.
-- Assumes nothing.
use Rattle.std.specs.Prelude.{ℕ, suc, ◌<◌, ◌≤◌, ◌≡◌, Bool, true, false, not, cond, ◌&&◌, ◌||◌, List, [], ◌∷◌, eqb, length, Option}
use Rattle.model.specs.declared.Name.{Name}
use Rattle.model.specs.declared.Span.{Span}
use Rattle.model.specs.declared.Cap.{Cap}
use Rattle.model.specs.declared.Sheet.{Sheet}
use Rattle.model.specs.declared.Terms.{Terms}
use Rattle.model.specs.declared.Event.TheVariants.{Create, Borrow, Read, Write, Drop}
use Rattle.model.specs.declared.Access.TheVariants.{Writing}
use Rattle.model.specs.declared.Effect.TheVariants.{End}
use Rattle.model.specs.declared.Origin.TheVariants.{Stranger}
use Rattle.model.specs.Lists.{filter, any, all}
use Rattle.model.specs.Values.{touches, inside}
use Rattle.model.specs.Derivation.{Derivation, ancestry}
use Rattle.model.specs.Strike.{result_of}
use Rattle.model.specs.Requests.{Unlimited, Caller, Request, Single, Group, Mark, Back, is_back, caller_of}
use Rattle.model.specs.Table.{span, derivations, named, live_rows, lent_table, lookup}
use Rattle.model.specs.Refusals.{View, view_of, unfit, judge}
use Rattle.model.specs.Effects.{rows_after}
use Rattle.model.specs.Step.{State, view, after}

-- Card 7: "a create acts as a stranger's write"; by such a sheet it ends every root that it touches. Roots are references ("Creates make
-- references"), so nothing is asked of the results for the other kinds. Card 6's sheet is one (`strangers_end` of proofs/TreesApart).
abbrev pub StrangersEnd : Sheet → Type 0
StrangersEnd sheet = result_of sheet 0 Writing Stranger ≡ End

-- ---- trees

-- the name that stands last on an ancestry, or this one where there is none
unfoldable pub last_name : ℕ → List Derivation → ℕ
last_name x [] = x
last_name x (d ∷ above) = last_name d.name above

-- the root that a live name is under, itself if it is one; 0 for a name that has no row
abbrev pub root_of : List Cap → ℕ → ℕ
root_of rows x = last_name 0 (ancestry (derivations rows) x)

-- the rows of the tree of this root, newest first
abbrev pub tree : List Cap → ℕ → List Cap
tree rows r = filter (λ c. eqb r (root_of rows c.name.0)) rows

abbrev pub is_root : Cap → Bool
is_root c = eqb c.parent.0 0

-- no two rows with parent 0 share an address
unfoldable pub roots_apart : List Cap → Bool
roots_apart [] = true
roots_apart (c ∷ earlier) = all (λ d. not (is_root c && (is_root d && touches (span c) (span d)))) earlier && roots_apart earlier

-- ---- where a request goes

-- every name that it goes through is of this tree; or it is a create, and the tree is the one that it begins. A mark or back goes through none.
unfoldable pub stays_in : List Cap → ℕ → ℕ → Request → Bool
stays_in rows issued r (Single by (Create w s t)) = eqb r (suc issued)
stays_in rows issued r (Single by (Borrow w u s t)) = eqb r (root_of rows u.0)
stays_in rows issued r (Single by (Read u s)) = eqb r (root_of rows u.0)
stays_in rows issued r (Single by (Write u s)) = eqb r (root_of rows u.0)
stays_in rows issued r (Single by (Drop u)) = eqb r (root_of rows u.0)
stays_in rows issued r (Group by names) = all (λ u. eqb r (root_of rows u)) names
stays_in rows issued r (Mark by k) = false
stays_in rows issued r (Back by k) = false

-- some name that it goes through is of this tree; or it is a create that begins the tree, or whose span shares an address with its root's; or it is
-- a back, which concerns every tree
unfoldable pub concerns : List Cap → ℕ → ℕ → Request → Bool
concerns rows issued r (Single by (Create w s t)) = eqb r (suc issued) || touches s (span (lookup r rows))
concerns rows issued r (Single by (Borrow w u s t)) = eqb r (root_of rows u.0)
concerns rows issued r (Single by (Read u s)) = eqb r (root_of rows u.0)
concerns rows issued r (Single by (Write u s)) = eqb r (root_of rows u.0)
concerns rows issued r (Single by (Drop u)) = eqb r (root_of rows u.0)
concerns rows issued r (Group by names) = any (λ u. eqb r (root_of rows u)) names
concerns rows issued r (Mark by k) = false
concerns rows issued r (Back by k) = true

-- What an allowed request leaves of the tree of r, told by that tree alone, of which these are the rows. A create begins the tree, or, where it
-- touches one of its rows, ends it. What goes through a name leaves a tree that has not that name. What a back brings is not told by the tree.
unfoldable pub tree_after : Sheet → ℕ → ℕ → List Cap → Request → List Cap
tree_after sheet issued r rows (Single by (Create w s t)) = cond (eqb r (suc issued)) (rows_after sheet issued [] (Single by (Create w s t))) (cond (any (λ c. touches s (span c)) rows) [] rows)
tree_after sheet issued r rows (Single by (Borrow w u s t)) = cond (any (named u.0) rows) (rows_after sheet issued rows (Single by (Borrow w u s t))) rows
tree_after sheet issued r rows (Single by (Read u s)) = cond (any (named u.0) rows) (rows_after sheet issued rows (Single by (Read u s))) rows
tree_after sheet issued r rows (Single by (Write u s)) = cond (any (named u.0) rows) (rows_after sheet issued rows (Single by (Write u s))) rows
tree_after sheet issued r rows (Single by (Drop u)) = rows_after sheet issued rows (Single by (Drop u))
tree_after sheet issued r rows (Group by names) = rows_after sheet issued rows (Group by names)
tree_after sheet issued r rows (Mark by k) = rows
tree_after sheet issued r rows (Back by k) = rows

-- ---- the theorem

-- of what is lent
module _ (h : State) where
  abbrev pub live : List Cap
  live = live_rows h.memory.table

  abbrev pub issued : ℕ
  issued = h.tally.issued

  abbrev pub span_of : ℕ → Span
  span_of x = span (lookup x live)

  -- what judging would look at if the tree of r stood alone in a table of m rows, with the same bits and as many names issued
  abbrev pub tree_alone : ℕ → ℕ → View
  tree_alone m r = view_of (lent_table m (tree live r)) h.memory.bits h.slots issued

pub record TreesApart (sheet : Sheet) (h : State) : Type 0 where
  -- No two live roots share an address.
  pub roots_apart_lem : roots_apart (live h) ≡ true
  -- Every live capability lies inside its root, so two of different trees share no address either.
  pub inside_root : (x : ℕ) → any (named x) (live h) ≡ true → inside (span_of h x) (span_of h (root_of (live h) x)) ≡ true
  pub rows_apart : (x y : ℕ) → any (named x) (live h) ≡ true → any (named y) (live h) ≡ true → eqb (root_of (live h) x) (root_of (live h) y) ≡ false → touches (span_of h x) (span_of h y) ≡ false
  -- A request leaves every tree that it does not concern exactly as it was: no row of it ends, loses its right or is made.
  pub others_stay : (q : Request) (r : ℕ) → concerns (live h) (issued h) r q ≡ false → tree (live (after sheet h q)) r ≡ tree (live h) r
  -- An allowed create ends the whole of every tree whose root it touches.
  pub create_ends : (by : Caller) (w : Option Name) (s : Span) (t : Terms) (r : ℕ) → judge (view h) (Single by (Create w s t)) ≡ 0 → touches s (span_of h r) ≡ true → tree (live (after sheet h (Single by (Create w s t)))) r ≡ []
  -- An allowed request that stays in one tree does to it what it would do if the tree stood alone. So what is borrowed is in the tree of what it
  -- is borrowed from, and what is created in a tree of its own.
  pub as_alone : (q : Request) (r : ℕ) → judge (view h) q ≡ 0 → stays_in (live h) (issued h) r q ≡ true → tree (live (after sheet h q)) r ≡ rows_after sheet (issued h) (tree (live h) r) q
  -- All of this at once: every tree goes by itself, but where a back brings them all.
  pub each_tree : (q : Request) → is_back q ≡ false → judge (view h) q ≡ 0 → (r : ℕ) → tree (live (after sheet h q)) r ≡ tree_after sheet (issued h) r (tree (live h) r) q
  -- Without limits it is answered as it would be if the tree stood alone, where what is lent is fit and neither table is full.
  pub answered_alone : (q : Request) (r m : ℕ) → (caller_of q).limits ≡ Unlimited → unfit Unlimited (view h) ≡ false → stays_in (live h) (issued h) r q ≡ true → length (live h) < length h.memory.table → length (tree (live h) r) < m → m ≤ 1024
      → judge (tree_alone h m r) q ≡ judge (view h) q
