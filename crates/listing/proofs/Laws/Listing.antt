-- The forms of a listing, one row at a time; and how long they are.
-- Assumes nothing.
use mathlib.Core.Path.{◌≡◌, refl, sym, ap, ◌∙◌}
use mathlib.Core.Bool.{Bool, true, false, cond}
use mathlib.Core.List.{List, [], ◌∷◌, ◌++◌, append_assoc}
use Prim.Native.Nat.{ℕ, suc, ◌+◌, ◌≤◌, ◌<◌}
use native.Mathlib.Omega.{arith}
use lib.Dec.{eqb}
use lib.ListN.{length, get_or, length-append, drop_of_length-le}
use lib.Seq.{drop-cons, take-suc}
use borrow.Author.Tests.{eq-eqb}
use Rattle.model.specs.declared.Cap.{Cap}
use Rattle.model.specs.Table.{empty_row}
use Rattle.table.specs.Words.{rows_in}
use Rattle.table.proofs.Offered.{length_in_lem}
use Rattle.table.specs.Rows.{name_at, parent_at}
use Rattle.text.specs.Event.{spaced, kind_word, fresh_word}
use Rattle.text.proofs.Offered.{length_hex, right_length}
use Rattle.listing.specs.First.{first_rows}
use Rattle.listing.specs.Listing.{pieces, form, children, roots, form_at, children_from, roots_from, issued_line, listed, form_length, total, forms_length}
use Rattle.listing.proofs.Laws.First.{length_first}
use Rattle.listing.proofs.Laws.Sorted.{preorder, InOrder, sorted_preorder, total_sorted}

pub form_length_lem : (c : Cap) → form_length c ≡ 22 + length (spaced (c.name.0 ∷ c.start.0 ∷ c.length ∷ c.maker ∷ [])) + (length (kind_word c.kind) + length (fresh_word c.fresh))
unfolding form_length pieces spaced
form_length_lem c = simp (length-append, right_length, length_hex) (omega arith)

pub length_form : (c : Cap) (inner : List ℕ) → length (form c inner) + 1 ≡ form_length c + length inner
unfolding form form_length
length_form c inner = simp length-append (omega arith)

pub forms_append : (a b : List Cap) → forms_length (a ++ b) ≡ forms_length a + forms_length b
unfolding total
forms_append [] b = omega arith
forms_append (c ∷ a) b = omega (arith, forms_append a b)

pub forms_more : (ws : List (List ℕ)) (n : ℕ) → n < length ws → forms_length (first_rows ws (suc n)) ≡ forms_length (first_rows ws n) + form_length (get_or (rows_in ws) n empty_row)
unfolding total
forms_more ws n l =
    let c = get_or (rows_in ws) n empty_row in
    omega (arith, forms_append (first_rows ws n) (c ∷ []), ap forms_length (take-suc (rows_in ws) n empty_row (omega (arith, length_in_lem ws))))

-- the forms below p have the bytes of their rows
pub length_children : (p : ℕ) (rows : List Cap) → length (children p rows) ≡ forms_length (preorder p rows)
unfolding children preorder total
length_children p [] = refl
length_children p (c ∷ rows) = go (eqb c.parent.0 p) (length_children c.name.0 rows) (length_children p rows)
  where
    go : (t : Bool) → length (children c.name.0 rows) ≡ forms_length (preorder c.name.0 rows) → length (children p rows) ≡ forms_length (preorder p rows)
        → length (cond t (32 ∷ (form c (children c.name.0 rows) ++ children p rows)) (children p rows)) ≡ forms_length (cond t (c ∷ (preorder c.name.0 rows ++ preorder p rows)) (preorder p rows))
    go true e f =
        omega (arith, length-append (form c (children c.name.0 rows)) (children p rows), length_form c (children c.name.0 rows), forms_append (preorder c.name.0 rows) (preorder p rows))
    go false e f = f

length_roots : (rows : List Cap) → length (roots rows) ≡ forms_length (preorder 0 rows)
unfolding roots preorder total
length_roots [] = refl
length_roots (c ∷ rows) = go (eqb c.parent.0 0) (length_children c.name.0 rows) (length_roots rows)
  where
    go : (t : Bool) → length (children c.name.0 rows) ≡ forms_length (preorder c.name.0 rows) → length (roots rows) ≡ forms_length (preorder 0 rows)
        → length (cond t (form c (children c.name.0 rows) ++ (10 ∷ roots rows)) (roots rows)) ≡ forms_length (cond t (c ∷ (preorder c.name.0 rows ++ preorder 0 rows)) (preorder 0 rows))
    go true e f =
        omega (arith, length-append (form c (children c.name.0 rows)) (10 ∷ roots rows), length_form c (children c.name.0 rows), forms_append (preorder c.name.0 rows) (preorder 0 rows))
    go false e f = f

-- the lines of rows in order are as long as their rows
pub roots_length : (rows : List Cap) → InOrder rows → length (roots rows) ≡ forms_length rows
roots_length rows h = length_roots rows ∙ sym (total_sorted form_length (preorder 0 rows)) ∙ ap forms_length (sorted_preorder rows h)

-- ---- by place

pub within : (ws : List (List ℕ)) (n k : ℕ) → n ≤ length ws → k < n → k < length (first_rows ws n)
within ws n k inside l = omega (arith, length_first ws n inside)

pub beyond : (ws : List (List ℕ)) (n k : ℕ) → n ≤ length ws → n ≤ k → length (first_rows ws n) ≤ k
beyond ws n k inside l = omega (arith, length_first ws n inside)

module _ (rows : List Cap) (k : ℕ) where
  pub form_text : (t : List ℕ) → form_at rows k ++ t ≡ 40 ∷ (pieces (get_or rows k empty_row) ++ (children_from (name_at rows k) rows (suc k) ++ (41 ∷ t)))
  unfolding form
  form_text t = ap (λ (l : List ℕ). 40 ∷ l) (append_assoc (pieces (get_or rows k empty_row)) (children_from (name_at rows k) rows (suc k) ++ (41 ∷ [])) t ∙ ap (λ (l : List ℕ). pieces (get_or rows k empty_row) ++ l) (append_assoc (children_from (name_at rows k) rows (suc k)) (41 ∷ []) t))

  pub child_at : (p : ℕ) (t : List ℕ) → k < length rows → parent_at rows k ≡ p → children_from p rows k ++ t ≡ 32 ∷ (form_at rows k ++ (children_from p rows (suc k) ++ t))
  unfolding children
  child_at p t l e = rw (drop-cons rows k empty_row, eq-eqb (parent_at rows k) p e) (ap (λ (x : List ℕ). 32 ∷ x) (append_assoc (form_at rows k) (children_from p rows (suc k)) t))

  pub root_at : k < length rows → parent_at rows k ≡ 0 → roots_from rows k ≡ form_at rows k ++ (10 ∷ roots_from rows (suc k))
  unfolding roots
  root_at l e = rw (drop-cons rows k empty_row, eq-eqb (parent_at rows k) 0 e)

  pub no_child : (p : ℕ) → length rows ≤ k → children_from p rows k ≡ []
  unfolding children
  no_child p l = rw (drop_of_length-le rows l)

  pub no_root : length rows ≤ k → roots_from rows k ≡ []
  unfolding roots
  no_root l = rw (drop_of_length-le rows l)

pub listed_length : (rows : List Cap) (issued : ℕ) → InOrder rows → length (listed rows issued) ≡ 9 + length (spaced (issued ∷ [])) + forms_length rows
unfolding listed
listed_length rows issued h = simp length-append (omega (arith, roots_length rows h))

pub listed_is : (rows : List Cap) (issued : ℕ) → listed rows issued ≡ issued_line issued ++ roots_from rows 0
unfolding listed
listed_is rows issued = refl
