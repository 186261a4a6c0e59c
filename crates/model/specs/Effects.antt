-- Document 01, "What each event does", and cards 4 to 7, 9 and 10: what an allowed request does to the live rows and to the issued number.
-- Assumes nothing.
use Rattle.std.specs.Prelude.{ℕ, suc, Bool, false, not, cond, List, [], ◌∷◌, map}
use Rattle.model.specs.declared.Name.{Name}
use Rattle.model.specs.declared.Span.{Span}
use Rattle.model.specs.declared.Cap.{Cap}
use Rattle.model.specs.declared.Terms.{Terms}
use Rattle.model.specs.declared.Event.TheVariants.{Create, Borrow, Read, Write, Drop}
use Rattle.model.specs.declared.Access.{Access}
use Rattle.model.specs.declared.Access.TheVariants.{Reading, Writing}
use Rattle.model.specs.declared.Sheet.{Sheet}
use Rattle.model.specs.Lists.{filter, any}
use Rattle.model.specs.Derivation.{Derivation, ancestry, in_subtree}
use Rattle.model.specs.Strike.{is_lower, is_end, struck}
use Rattle.model.specs.Table.{row, derivation, derivations, lookup}
use Rattle.model.specs.Requests.{Caller, Request, Single, Group, Mark, Back}

-- a row, with `ro` where it is hit
abbrev pub lowered : Bool → Cap → Cap
lowered hit c = row (derivation c) (cond hit 1 c.right) c.depth

-- Rights are taken away: the rows of ended names go, and those of lowered names become `ro`.
unfoldable pub revoke : (ℕ → Bool) → (ℕ → Bool) → List Cap → List Cap
revoke ends lowers rows = map (λ c. lowered (lowers c.name.0) c) (filter (λ c. not (ends c.name.0)) rows)

-- read and write: "every live capability whose span is touched, and which is neither the reader nor an ancestor of it", is struck, "and its
-- whole subtree with it"; the sheet says which of them become `ro` and which end
unfoldable pub after_access : Sheet → Access → ℕ → Span → List Cap → List Cap
after_access sheet a u s rows = revoke (struck sheet is_end a (derivations rows) u s) (struck sheet is_lower a (derivations rows) u s) rows

-- the capability of this ancestry is in the subtree of one of these names
abbrev pub in_subtrees : List ℕ → List Derivation → Bool
in_subtrees names x = any (λ u. in_subtree u x) names

-- drop: "the named capability and its subtree end"; names dropped together end all at once
unfoldable pub rows_without : List ℕ → List Cap → List Cap
rows_without names rows = revoke (λ x. in_subtrees names (ancestry (derivations rows) x)) (λ x. false) rows

-- the derivations that a create and a borrow make ("Creates make references"), when so many names have been issued; card 9: "borrows below
-- it carry that mark", the parent's; card 10: the maker is who acts, and gives the holders
abbrev pub root : Caller → ℕ → Span → Terms → Derivation
root by issued s r = record { name = suc issued; parent = 0; span = s; kind = 0; fresh = r.fresh; maker = by.actor; holders = r.holders }

abbrev pub child : Caller → ℕ → Name → ℕ → Span → Terms → Derivation
child by issued u mark s r = record { name = suc issued; parent = u.0; span = s; kind = r.kind; fresh = mark; maker = by.actor; holders = r.holders }

-- The live rows after an allowed request.
-- Card 4: "A create is now a fresh allocation"; card 7: "a create acts as a stranger's write". It is a write to its span through the new name.
-- That name has no row yet, so it is in the subtree of none: the write is from outside every subtree but its own, and of no cell's.
-- A write through the new row once it stands would leave the same (proofs/Fresh).
-- A mark and a back change no row; what a back brings is in Step.
unfoldable pub rows_after : Sheet → ℕ → List Cap → Request → List Cap
rows_after sheet issued rows (Single by (Create w s r)) = row (root by issued s r) r.right 1 ∷ after_access sheet Writing (suc issued) s rows
rows_after sheet issued rows (Single by (Borrow w u s r)) = row (child by issued u (lookup u.0 rows).fresh s r) r.right (suc (lookup u.0 rows).depth) ∷ rows
rows_after sheet issued rows (Single by (Read u s)) = after_access sheet Reading u.0 s rows
rows_after sheet issued rows (Single by (Write u s)) = after_access sheet Writing u.0 s rows
rows_after sheet issued rows (Single by (Drop u)) = rows_without (u.0 ∷ []) rows
rows_after sheet issued rows (Group by names) = rows_without names rows
rows_after sheet issued rows (Mark by k) = rows
rows_after sheet issued rows (Back by k) = rows

-- "The result carries the new name"; "a read, write or drop answers with name 0"
abbrev pub new_name : ℕ → Request → ℕ
new_name issued (Single by (Create w s r)) = suc issued
new_name issued (Single by (Borrow w u s r)) = suc issued
new_name issued (Single by (Read u s)) = 0
new_name issued (Single by (Write u s)) = 0
new_name issued (Single by (Drop u)) = 0
new_name issued (Group by names) = 0
new_name issued (Mark by k) = 0
new_name issued (Back by k) = 0

-- the issued number after an allowed request
abbrev pub issued_after : ℕ → Request → ℕ
issued_after issued (Single by (Create w s r)) = suc issued
issued_after issued (Single by (Borrow w u s r)) = suc issued
issued_after issued (Single by (Read u s)) = issued
issued_after issued (Single by (Write u s)) = issued
issued_after issued (Single by (Drop u)) = issued
issued_after issued (Group by names) = issued
issued_after issued (Mark by k) = issued
issued_after issued (Back by k) = issued
