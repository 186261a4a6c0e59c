-- The theorems about the line of names that are dropped together: what is written reads back to the same domain and names, a line that is read is
-- the spelling of what was read, and two groups never share a spelling. It is one line, and no event's where it has two names or more.
-- Assumes nothing.
use mathlib.Core.Path.{◌≡◌, refl, sym, ap, ap₂, ◌∙◌}
use mathlib.Core.Bool.{Bool, true, false, cond, ◌&&◌}
use mathlib.Core.List.{List, [], ◌∷◌, ◌++◌}
use Prim.Native.Nat.{ℕ, zero, suc, ◌^◌, ◌≤◌, ◌<◌}
use native.Mathlib.Omega.{arith}
use lib.Dec.{eqb}
use lib.ListN.{length, take, length-append}
use borrow.Author.Tests.{eqb-false, ltb-true}
use Rattle.model.specs.declared.Name.{Name}
use Rattle.model.specs.declared.Event.{Event}
use Rattle.model.specs.declared.Event.TheVariants.{Drop}
use Rattle.model.specs.Table.{is_domain}
use Rattle.model.specs.Requests.{is_group, rises_above, rises_strictly}
use Rattle.model.proofs.Offered.{clash}
use Rattle.text.specs.Result.{Result, value, refused}
use Rattle.text.specs.Class.{class_of}
use Rattle.text.specs.Line.{through, after_space, push, lines_of, parts_of}
use Rattle.text.specs.Decimal.{decimal}
use Rattle.text.specs.Event.{bytes, spaced, line, back, form, spell, has_spelling, Below32}
use Rattle.text.specs.Read.{same, actor_of, form_of, name_of, guess, read_event}
use Rattle.text.specs.Group.{spell_group, names_from, guess_names, is_group_spelling, read_group, write_group}
use Rattle.text.specs.declared.spelling.Spelling.{Spelling}
use Rattle.text.proofs.Laws.Digits.{decimal_width, length_digits}
use Rattle.text.proofs.Laws.Number.{number_of_small}
use Rattle.text.proofs.Laws.Words.{either, plain_decimal, next, number_is}
use Rattle.text.proofs.Laws.Acting.{back_stops, actor_back, form_back}
use Rattle.text.proofs.Laws.Read.{guess_drop, same_refl, same_true}
use Rattle.text.proofs.Laws.OneSpelling.{only_2}
use Rattle.text.proofs.Laws.OneLine.{numbers_end, back_ends, front_end}
use Rattle.text.proofs.Laws.Group.{names_step, names_none_lem, guess_below, group_few, wrote_group}

decimal_some : (n : ℕ) (t : List ℕ) → 1 ≤ length (decimal n ++ t)
decimal_some n t =
    let r = decimal_width n in
    simp length-append (omega (arith, ap length r.2, length_digits 10 n (suc r.0)))

-- the names of a form are found again
module _ (actor : ℕ) where
  nothing_behind : after_space (back actor) ≡ []
  unfolding through class_of
  nothing_behind = either (λ s. after_space s ≡ []) (eqb actor 0) _ _ refl refl

  names_back : (k n : ℕ) (ns : List ℕ) → length (n ∷ ns) ≤ k → Below32 (n ∷ ns) → names_from k (decimal n ++ (spaced ns ++ back actor)) ≡ n ∷ ns
  unfolding spaced
  names_back zero n ns h b = absurd (omega arith)
  names_back (suc k) n [] h b =
      names_step k (decimal n ++ (spaced [] ++ back actor)) (decimal_some n (spaced [] ++ back actor))
      ∙ ap₂ (λ (x : ℕ) (l : List ℕ). x ∷ l) (number_is (back actor) (back_stops actor) n [] b.0 refl)
      (ap (names_from k) (plain_decimal n (back actor) ∙ nothing_behind) ∙ names_none_lem k)
  names_back (suc k) n (m ∷ ms) h b =
      let t = decimal n ++ (spaced (m ∷ ms) ++ back actor) in
      names_step k t (decimal_some n (spaced (m ∷ ms) ++ back actor))
      ∙ ap₂ (λ (x : ℕ) (l : List ℕ). x ∷ l) (number_is (back actor) (back_stops actor) n (m ∷ ms) b.0 refl)
      (ap (names_from k) (next (back actor) (back_stops actor) (decimal n) (plain_decimal n) m ms) ∙ names_back k m ms (omega arith) b.1)

  -- what is guessed of a group's form is the group
  guess_group : (names : List ℕ) → is_group names ≡ true → Below32 names → guess_names (line "(drop" names (back actor)) ≡ names
  unfolding guess_names is_group through class_of
  guess_group [] g b = clash g refl
  guess_group (n ∷ ns) g b =
      ap (names_from 64) (next (back actor) (back_stops actor) (bytes "(drop") (λ t. refl) n ns) ∙ names_back 64 n ns (group_few (n ∷ ns) g) b

  -- who acts by a group's line, and its form, are found again
  module _ (names : List ℕ) (d : is_domain actor ≡ true) where
    small : actor < 2 ^ 32
    small = omega (arith, ltb-true actor 64 d)

    actor_found : actor_of (spell_group actor names) ≡ actor
    unfolding spell_group
    actor_found = actor_back actor small (line "(drop" names (back actor)) (eqb-false 100 97 refl)

    pub form_found : form_of (spell_group actor names) ≡ line "(drop" names (back actor)
    unfolding spell_group
    form_found = form_back actor small (line "(drop" names (back actor)) (eqb-false 100 97 refl)

-- the spelling of a group by a domain reads as that domain and its names
pub group_reads_back : (actor : ℕ) (names : List ℕ) → is_domain actor ≡ true → is_group names ≡ true → Below32 names → read_group (spell_group actor names) ≡ value (actor, names)
unfolding read_group
group_reads_back actor names d g b = rw (actor_found actor names d, form_found actor names d, guess_group actor names g b, g, d, same_refl (spell_group actor names))

-- the line that was written reads back to the same domain and names
pub written_group_reads_back : (actor : ℕ) (names : List ℕ) → Below32 names → (out : List ℕ) (n : ℕ) → (write_group actor names out).answer ≡ value n
    → read_group (take n (write_group actor names out).buffer) ≡ value (actor, names)
written_group_reads_back actor names b out n h =
    let w = wrote_group actor names out n (λ i. record { answer = sym h i; buffer = (write_group actor names out).buffer }) refl in
    ap read_group w.1.front ∙ group_reads_back actor names w.1.was w.0 b

-- a line that is read is the spelling of what was read, which is a group of 32-bit names by a domain
pub read_group_is_spelling : (s : List ℕ) (actor : ℕ) (names : List ℕ) → read_group s ≡ value (actor, names)
    → (is_domain actor ≡ true) × (is_group names ≡ true) × Below32 names × (s ≡ spell_group actor names)
unfolding read_group
read_group_is_spelling s actor names h = go (is_group found) (is_domain by) (same s (spell_group by found)) refl refl refl h
  where
    by : ℕ
    by = actor_of s

    found : List ℕ
    found = guess_names (form_of s)

    both : ℕ × List ℕ
    both = (by, found)

    go : (x y z : Bool) → is_group found ≡ x → is_domain by ≡ y → same s (spell_group by found) ≡ z
        → cond (x && (y && z)) (value both) (refused 2) ≡ value (actor, names)
        → (is_domain actor ≡ true) × (is_group names ≡ true) × Below32 names × (s ≡ spell_group actor names)
    go true true true p d q h =
        let read : both ≡ (actor, names) = cc in
        let same_actor : by ≡ actor = ap (λ (a : ℕ × List ℕ). a.0) read in
        let is : found ≡ names = ap (λ (a : ℕ × List ℕ). a.1) read in
        (ap is_domain (sym same_actor) ∙ d, ap is_group (sym is) ∙ p, rw is at (guess_below (form_of s)), same_true s (spell_group by found) q ∙ ap₂ spell_group same_actor is)
    go true true false p d q h = absurd (let z : ◌≡◌ {A = ℕ} 0 1 = cc in omega arith)
    go true false z p d q h = absurd (let z : ◌≡◌ {A = ℕ} 0 1 = cc in omega arith)
    go false y z p d q h = absurd (let z : ◌≡◌ {A = ℕ} 0 1 = cc in omega arith)

-- a line that is not read is refusal 2
pub refused_group_is_2 : (s : List ℕ) (n : ℕ) → read_group s ≡ refused n → n ≡ 2
unfolding read_group
refused_group_is_2 s n h = only_2 _ n (is_group_spelling s (actor_of s) (guess_names (form_of s))) h

-- a line that is refused is the spelling of no group, whoever acts
pub refused_group_is_none : (s : List ℕ) → read_group s ≡ refused 2 → (actor : ℕ) (names : List ℕ) → is_domain actor ≡ true → is_group names ≡ true → Below32 names
    → s ≡ spell_group actor names → ⊥
refused_group_is_none s h actor names d g b is =
    let z : ◌≡◌ {A = ℕ} 0 1 = cc (ap read_group is, group_reads_back actor names d g b) in omega arith

-- two groups with one spelling are equal, and so are the domains that act
pub group_one_spelling : (x y : ℕ) (a b : List ℕ) → is_domain x ≡ true → is_domain y ≡ true → is_group a ≡ true → is_group b ≡ true → Below32 a → Below32 b
    → spell_group x a ≡ spell_group y b → (x ≡ y) × (a ≡ b)
group_one_spelling x y a b dx dy ga gb ba bb h =
    let read : ◌≡◌ {A = Result (ℕ × List ℕ)} (value (x, a)) (value (y, b)) = sym (group_reads_back x a dx ga ba) ∙ ap read_group h ∙ group_reads_back y b dy gb bb in
    let same : ◌≡◌ {A = ℕ × List ℕ} (x, a) (y, b) = cc in
    (ap (λ (g : ℕ × List ℕ). g.0) same, ap (λ (g : ℕ × List ℕ). g.1) same)

-- the lines of a text that begins with a group's spelling are that and the lines of the rest
pub group_is_line : (actor : ℕ) (names t : List ℕ) → lines_of (spell_group actor names ++ t) ≡ spell_group actor names ∷ lines_of t
unfolding spell_group parts_of push class_of
group_is_line actor names = front_end (line "(drop" names (back actor)) (λ t. rw (numbers_end names (back actor) (back_ends actor) t)) actor

-- a text that reads as a group is a line with its newline
pub read_group_is_line : (s : List ℕ) (actor : ℕ) (names : List ℕ) → read_group s ≡ value (actor, names) → (t : List ℕ) → lines_of (s ++ t) ≡ s ∷ lines_of t
read_group_is_line s actor names h t = rw (read_group_is_spelling s actor names h).3 (group_is_line actor names t)

-- the line of one name is that of a drop
pub one_name : (actor x : ℕ) → spell_group actor (x ∷ []) ≡ spell actor (Drop (record { 0 = x }))
unfolding spell_group spell form
one_name actor x = refl

one_group : (x : ℕ) → is_group (x ∷ []) ≡ true
unfolding is_group rises_strictly rises_above
one_group x = refl

-- and that of two or more is no event's
pub group_is_no_event : (k : Spelling) (actor : ℕ) (names : List ℕ) → 2 ≤ length names → is_domain actor ≡ true → is_group names ≡ true → Below32 names
    → read_event k (spell_group actor names) ≡ refused 2
unfolding read_event has_spelling
group_is_no_event k actor names h d g b = rw (actor_found actor names d, form_found actor names d, is) (go (is_domain actor) (same s (spell actor (Drop name))) refl)
  where
    s : List ℕ
    s = spell_group actor names

    f : List ℕ
    f = line "(drop" names (back actor)

    name : Name
    name = name_of (after_space f)

    both : ℕ × Event
    both = (actor, Drop name)

    is : guess k actor f ≡ Drop name
    is = guess_drop k actor f (eqb-false 100 99 refl) (eqb-false 100 98 refl) (eqb-false 100 114 refl) (eqb-false 100 119 refl)

    go : (x y : Bool) → same s (spell actor (Drop name)) ≡ y → cond (x && y) (value both) (refused 2) ≡ refused 2
    go true true e =
        let x = name.0 in
        let one = group_one_spelling actor actor names (x ∷ []) d d g (one_group x) b (number_of_small (after_space f), tt) (same_true s (spell actor (Drop name)) e ∙ sym (one_name actor x)) in
        absurd (omega (arith, ap length one.1))
    go true false e = refl
    go false y e = refl
