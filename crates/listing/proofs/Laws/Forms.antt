-- A form and the lines of the roots as they are written: each step leaves a shorter rest of the same text.
-- Assumes nothing.
use mathlib.Core.Path.{◌≡◌, refl, sym, ap, ◌∙◌, subst}
use mathlib.Core.List.{List, [], ◌∷◌, ◌++◌, append-nil}
use Prim.Native.Nat.{ℕ, suc, ◌+◌, ◌≤◌, ◌<◌}
use native.Mathlib.Omega.{arith}
use lib.ListN.{length, get_or, set, length-set, get_or-eq_default}
use Rattle.model.specs.declared.Cap.{Cap}
use Rattle.model.specs.Table.{empty_row}
use Rattle.table.specs.Rows.{name_at, parent_at}
use Rattle.text.specs.Put.{Put, Room}
use Rattle.listing.specs.Listing.{pieces, form, form_at, children_from, roots_from}
use Rattle.listing.specs.Links.{Next, Linked}
use Rattle.listing.proofs.Laws.Writing.{Writing, begin, seen, room, byte, piece, fits, one_fits, finish}
use Rattle.listing.proofs.Laws.Links.{children_skip, roots_skip}
use Rattle.listing.proofs.Laws.Listing.{child_at, root_at, no_child, no_root}

module _ (rows : List Cap) (i : ℕ) where
  abbrev name : ℕ
  name = name_at rows i

  abbrev own : List ℕ
  own = pieces (get_or rows i empty_row)

  -- the children from row k on, and then the closing bracket
  abbrev pub inner : ℕ → List ℕ
  inner k = children_from name rows k ++ (41 ∷ [])

  pub form_is : form_at rows i ≡ 40 ∷ (own ++ inner (suc i))
  unfolding form
  form_is = refl

  -- they are left of what was to be written into out
  pub record Inside (out : List ℕ) (at start : ℕ) (now : List ℕ) (here k : ℕ) : Type 0 where
    pub room : Room out at (inner start)
    pub rest : Writing out at (inner start) now here (inner k)
    pub after : i < k
    pub inside : k ≤ length rows
    pub own : k < length rows → parent_at rows k ≡ name

  module _ {out : List ℕ} {at : ℕ} {start : ℕ} {now : List ℕ} {here k : ℕ} (s : Inside out at start now here k) where
    left : k < length rows → inner k ≡ 32 ∷ (form_at rows k ++ inner (suc k))
    left l = child_at rows k name (41 ∷ []) l (s.own l)

    pub space_fits : k < length rows → here < length now
    space_fits l = one_fits s.rest 32 (form_at rows k ++ inner (suc k)) (left l) s.room

    spaced : k < length rows → Writing out at (inner start) (set now here 32) (here + 1) (form_at rows k ++ inner (suc k))
    spaced l = byte s.rest 32 (left l)

    pub child_fits : k < length rows → Room now (here + 1) (form_at rows k)
    child_fits l = omega (arith, fits (spaced l) (form_at rows k) (inner (suc k)) refl s.room, length-set now here 32)

    ending : length rows ≤ k → inner k ≡ 41 ∷ []
    ending l = ap (λ (t : List ℕ). t ++ (41 ∷ [])) (no_child rows k name l)

    pub bracket_fits : length rows ≤ k → here < length now
    bracket_fits l = one_fits s.rest 41 [] (ending l) s.room

    pub closed : length rows ≤ k → Put out at (inner start) (set now here 41) (here + 1)
    closed l = finish (byte s.rest 41 (ending l)) refl

    pub passed : (next : List ℕ) → Next rows (parent_at rows k) (suc k) (get_or next k 0) → {a : List ℕ} {h : ℕ} → k < length rows → Put (set now here 32) (here + 1) (form_at rows k) a h
        → Inside out at start a h (get_or next k 0)
    passed next n l p =
        let n' : Next rows name (suc k) (get_or next k 0) = subst (λ (q : ℕ). Next rows q (suc k) (get_or next k 0)) (s.own l) n in
        record {
          room = s.room;
          rest = seen (piece (spaced l) refl p) (ap (λ (t : List ℕ). t ++ (41 ∷ [])) (children_skip rows name (suc k) (get_or next k 0) n'));
          after = omega (arith, s.after, n.from);
          inside = n.inside;
          own = n'.own;
        }

  -- the opening bracket and the pieces come first
  module _ (out : List ℕ) (at : ℕ) where
    pub bracket_room : Room out at (form_at rows i) → at < length out
    bracket_room r = one_fits (begin out at (form_at rows i)) 40 (own ++ inner (suc i)) form_is r

    pub opened : Writing out at (form_at rows i) (set out at 40) (at + 1) (own ++ inner (suc i))
    opened = byte (begin out at (form_at rows i)) 40 form_is

    pub pieces_fit : Room out at (form_at rows i) → Room (set out at 40) (at + 1) own
    pieces_fit r = fits opened own (inner (suc i)) refl r

    module _ (first next : List ℕ) (links : Linked rows first next) (l : i < length rows) {a : List ℕ} {h : ℕ} (p : Put (set out at 40) (at + 1) own a h) where
      abbrev start : ℕ
      start = get_or first i 0

      child : Next rows name (suc i) start
      child =
          let n = links.children i (omega arith) in
          record { from = links.later i l; inside = n.inside; gap = λ k x y. n.gap k (omega arith) y; own = n.own }

      headed : Writing out at (form_at rows i) a h (inner start)
      headed = seen (piece opened refl p) (ap (λ (t : List ℕ). t ++ (41 ∷ [])) (children_skip rows name (suc i) start child))

      pub entered : Room out at (form_at rows i) → Inside a h start a h start
      entered r = record { room = room headed r; rest = begin a h (inner start); after = child.from; inside = child.inside; own = child.own }

      pub formed : {b : List ℕ} {e : ℕ} → Put a h (inner start) b e → Put out at (form_at rows i) b e
      formed q = finish (piece headed (sym (append-nil (inner start))) q) refl

module _ (rows : List Cap) (out : List ℕ) (at : ℕ) where
  abbrev lines : List ℕ
  lines = roots_from rows 0

  -- the roots from row k on are left
  pub record Lines (now : List ℕ) (here k : ℕ) : Type 0 where
    pub rest : Writing out at lines now here (roots_from rows k)
    pub inside : k ≤ length rows
    pub own : k < length rows → parent_at rows k ≡ 0

  module _ (first next : List ℕ) (links : Linked rows first next) where
    pub first_line : Lines out at (get_or first (length rows) 0)
    first_line =
        let n = links.children (length rows) (omega arith) in
        let z : name_at rows (length rows) ≡ 0 = ap (λ (c : Cap). c.name.0) (get_or-eq_default rows empty_row (omega arith)) in
        record { rest = seen (begin out at lines) (roots_skip rows _ 0 (get_or first (length rows) 0) n z); inside = n.inside; own = λ l. n.own l ∙ z }

    module _ {now : List ℕ} {here k : ℕ} (s : Lines now here k) where
      pub line_left : k < length rows → roots_from rows k ≡ form_at rows k ++ (10 ∷ roots_from rows (suc k))
      line_left l = root_at rows k l (s.own l)

      pub line_fits : k < length rows → Room out at lines → Room now here (form_at rows k)
      line_fits l r = fits s.rest (form_at rows k) (10 ∷ roots_from rows (suc k)) (line_left l) r

      module _ {a : List ℕ} {h : ℕ} (l : k < length rows) (p : Put now here (form_at rows k) a h) where
        lined : Writing out at lines a h (10 ∷ roots_from rows (suc k))
        lined = piece s.rest (line_left l) p

        pub newline_fits : Room out at lines → h < length a
        newline_fits r = one_fits lined 10 (roots_from rows (suc k)) refl r

        pub next_line_lem : Lines (set a h 10) (h + 1) (get_or next k 0)
        next_line_lem =
            let n = links.siblings k l in
            let is = s.own l in
            record { rest = seen (byte lined 10 refl) (roots_skip rows (parent_at rows k) (suc k) (get_or next k 0) n is); inside = n.inside; own = λ m. n.own m ∙ is }

      pub all_lines : length rows ≤ k → Put out at lines now here
      all_lines l = finish s.rest (no_root rows k l)
