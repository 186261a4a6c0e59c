-- The theorems about event lines: what is written reads back to the same domain and event, a line that is read is the spelling of what was
-- read, and two events never share a spelling. Each is of one of the two spellings and of the events that have a spelling in it.
-- Assumes nothing.
use mathlib.Core.Path.{◌≡◌, refl, sym, ap, ap₂, ◌∙◌}
use mathlib.Core.Bool.{Bool, true, false, cond, ◌&&◌}
use mathlib.Core.List.{List}
use Prim.Native.Nat.{ℕ, ◌^◌, ◌<◌}
use native.Mathlib.Omega.{arith}
use lib.ListN.{take}
use Rattle.model.specs.declared.Event.{Event}
use Rattle.model.specs.Table.{is_domain}
use Rattle.model.proofs.Offered.{clash}
use Rattle.text.specs.declared.spelling.Spelling.{Spelling}
use Rattle.text.specs.Result.{Result, value, refused}
use Rattle.text.specs.Event.{form, spell, has_spelling, InRange}
use Rattle.text.specs.Write.{write_event}
use Rattle.text.specs.Read.{same, actor_of, form_of, is_spelling, guess, read_event}
use Rattle.text.proofs.Laws.Terms.{spelled_domain, spelled_below}
use Rattle.text.proofs.Laws.Acting.{actor_back, form_back}
use Rattle.text.proofs.Laws.Range.{guess_in_range}
use Rattle.text.proofs.Laws.Read.{same_refl, same_true}
use Rattle.text.proofs.Laws.Write.{wrote}
use Rattle.text.proofs.Laws.Guess.{guess_spell, form_other}

-- the domain and the form of a spelling are found again
module _ (k : Spelling) (actor : ℕ) (e : Event) (h : has_spelling k actor e ≡ true) where
  small : actor < 2 ^ 32
  small = omega (arith, spelled_below k actor e h)

  actor_found : actor_of (spell actor e) ≡ actor
  unfolding spell
  actor_found = actor_back actor small (form actor e) (form_other actor e)

  pub form_found : form_of (spell actor e) ≡ form actor e
  unfolding spell
  form_found = form_back actor small (form actor e) (form_other actor e)

-- the spelling of an event by a domain reads as that domain and that event
pub spelling_reads_back : (k : Spelling) (actor : ℕ) (e : Event) → has_spelling k actor e ≡ true → InRange e → read_event k (spell actor e) ≡ value (actor, e)
unfolding read_event
spelling_reads_back k actor e h b = rw (actor_found k actor e h, form_found k actor e h, guess_spell k actor e h b, h, same_refl (spell actor e))

-- the line that was written reads back to the same domain and event
pub written_reads_back : (k : Spelling) (actor : ℕ) (e : Event) → InRange e → (out : List ℕ) (n : ℕ) → (write_event k actor e out).answer ≡ value n
    → read_event k (take n (write_event k actor e out).buffer) ≡ value (actor, e)
unfolding write_event
written_reads_back k actor e b out n h =
    let w = wrote n (record { answer = sym h; buffer = refl }) refl in
    ap (read_event k) w.front ∙ spelling_reads_back k actor e w.was b

-- a line that is read is the spelling of what was read, and no number of that is above the limit
pub read_is_spelling : (k : Spelling) (s : List ℕ) (actor : ℕ) (e : Event) → read_event k s ≡ value (actor, e)
    → (has_spelling k actor e ≡ true) × InRange e × (s ≡ spell actor e)
unfolding read_event
read_is_spelling k s actor e h = go (has_spelling k by found) (same s (spell by found)) refl refl h
  where
    by : ℕ
    by = actor_of s

    found : Event
    found = guess k by (form_of s)

    both : ℕ × Event
    both = (by, found)

    go : (x y : Bool) → has_spelling k by found ≡ x → same s (spell by found) ≡ y
        → cond (x && y) (value both) (refused 2) ≡ value (actor, e) → (has_spelling k actor e ≡ true) × InRange e × (s ≡ spell actor e)
    go true true p q h =
        let read : both ≡ (actor, e) = cc in
        let same_actor : by ≡ actor = ap (λ (a : ℕ × Event). a.0) read in
        let is : found ≡ e = ap (λ (a : ℕ × Event). a.1) read in
        (ap₂ (has_spelling k) (sym same_actor) (sym is) ∙ p, rw is at (guess_in_range k by (spelled_below k by found p) (form_of s)), same_true s (spell by found) q ∙ ap₂ spell same_actor is)
    go true false p q h = absurd (let z : ◌≡◌ {A = ℕ} 0 1 = cc in omega arith)
    go false y p q h = absurd (let z : ◌≡◌ {A = ℕ} 0 1 = cc in omega arith)

pub only_2 : {A : Type 0} (x : A) (n : ℕ) (t : Bool) → cond t (value x) (refused 2) ≡ refused n → n ≡ 2
only_2 x n true h = absurd (let z : ◌≡◌ {A = ℕ} 0 1 = cc in omega arith)
only_2 x n false h = cc

-- a line that is not read is refusal 2
pub refused_is_2 : (k : Spelling) (s : List ℕ) (n : ℕ) → read_event k s ≡ refused n → n ≡ 2
unfolding read_event
refused_is_2 k s n h = only_2 _ n (is_spelling k s (actor_of s) (guess k (actor_of s) (form_of s))) h

-- a line that is refused is the spelling of no event, whoever acts
pub refused_is_none : (k : Spelling) (s : List ℕ) → read_event k s ≡ refused 2 → (actor : ℕ) (e : Event) → has_spelling k actor e ≡ true → InRange e
    → s ≡ spell actor e → ⊥
refused_is_none k s h actor e he be is = let z : ◌≡◌ {A = ℕ} 0 1 = cc (ap (read_event k) is, spelling_reads_back k actor e he be) in omega arith

-- two events with one spelling are equal, and so are the domains that act
pub one_spelling : (k : Spelling) (a b : ℕ) (d e : Event) → has_spelling k a d ≡ true → has_spelling k b e ≡ true → InRange d → InRange e
    → spell a d ≡ spell b e → (a ≡ b) × (d ≡ e)
one_spelling k a b d e ha hb ra rb h =
    let read : ◌≡◌ {A = Result (ℕ × Event)} (value (a, d)) (value (b, e)) = sym (spelling_reads_back k a d ha ra) ∙ ap (read_event k) h ∙ spelling_reads_back k b e hb rb in
    let same : ◌≡◌ {A = ℕ × Event} (a, d) (b, e) = cc in
    (ap (λ (x : ℕ × Event). x.0) same, ap (λ (x : ℕ × Event). x.1) same)

-- a line by no domain is read as nothing
pub no_domain_no_line : (k : Spelling) (s : List ℕ) → is_domain (actor_of s) ≡ false → read_event k s ≡ refused 2
unfolding read_event
no_domain_no_line k s h = go (has_spelling k by found) refl
  where
    by : ℕ
    by = actor_of s

    found : Event
    found = guess k by (form_of s)

    both : ℕ × Event
    both = (by, found)

    go : (x : Bool) → has_spelling k by found ≡ x → cond (x && same s (spell by found)) (value both) (refused 2) ≡ refused 2
    go true p = clash (spelled_domain k by found p) h
    go false p = refl
