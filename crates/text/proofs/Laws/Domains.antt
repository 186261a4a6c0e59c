-- Card 10: "A line `(as 3 (read 2 0 8))` says who acts; domain 0, and only it, acts without." The line of a domain from 1 on is that of domain 0,
-- inside `(as D ` and a bracket, of names that are dropped together and of card 11's marks and backs too; an event by no domain has no line.
-- "a 64-bit mask of holders, given by the maker at creation or borrowing and including itself, written last as 16 digits [..]; a mask of the maker alone
-- is left out". Lines that differ in the mask alone differ in these digits alone, or in the space before them and them; and a create or borrow with a
-- mask without its maker has no line.
-- Assumes nothing.
use Rattle.std.specs.Prelude.{Option}
use mathlib.Core.Path.{◌≡◌, refl, ap, ◌∙◌}
use mathlib.Core.Bool.{true, false}
use mathlib.Core.List.{List, [], ◌∷◌, ◌++◌, append_assoc}
use Prim.Native.Nat.{ℕ, ◌^◌, ◌≤◌, ◌<◌}
use native.Mathlib.Omega.{arith}
use borrow.Author.Tests.{eq-eqb, ne_eqb, ltb-true}
use Rattle.model.proofs.Offered.{clash}
use Rattle.model.specs.Bits.{has_bit}
use Rattle.model.specs.declared.Name.{Name}
use Rattle.model.specs.declared.Span.{Span}
use Rattle.model.specs.declared.Terms.{Terms}
use Rattle.model.specs.declared.Event.{Event}
use Rattle.model.specs.declared.Event.TheVariants.{Create, Borrow, Read, Write, Drop}
use Rattle.text.specs.Result.{value, refused}
use Rattle.text.specs.Decimal.{decimal}
use Rattle.text.specs.Mask.{hex, mask_word}
use Rattle.text.specs.Event.{bytes, spaced, line, right_word, kind_word, fresh_word, front, back, span_numbers, written_numbers, form, spell}
use Rattle.text.specs.Write.{write_event}
use Rattle.text.specs.Read.{read_event}
use Rattle.text.specs.Group.{spell_group, read_group}
use Rattle.text.specs.State.{spell_slot, mark_word, back_word, spell_mark, spell_back}
use Rattle.text.specs.declared.spelling.Spelling.{Spelling}
use Rattle.text.proofs.Laws.Terms.{root_terms_lem, child_terms_lem, spelled_below}
use Rattle.text.proofs.Laws.OneSpelling.{read_is_spelling}
use Rattle.text.proofs.Laws.GroupLine.{read_group_is_spelling}
use Rattle.text.proofs.Laws.Rights.{held, unspelled, root_read, child_read}

-- ---- who acts

-- the line that domain 0 has of one event, and that another domain has of another: one form in both
pub record Acts (actor : ℕ) (own others : List ℕ) : Type 0 where
  pub inner : List ℕ
  pub plain : own ≡ inner ++ bytes ")\n"
  pub acting : others ≡ bytes "(as " ++ (decimal actor ++ (bytes " " ++ (inner ++ bytes "))\n")))

module _ (actor : ℕ) (some : 0 < actor) where
  -- what stands around a form
  before : front actor ≡ bytes "(as " ++ (decimal actor ++ bytes " ")
  before = rw (ne_eqb actor 0 (λ e. omega arith))

  behind : back actor ≡ bytes "))\n"
  behind = rw (ne_eqb actor 0 (λ e. omega arith))

  -- two lines of a word, numbers and words
  acts : {own others : List ℕ} (word numbers words : List ℕ) → own ≡ word ++ (numbers ++ (words ++ bytes ")\n"))
      → others ≡ front actor ++ (word ++ (numbers ++ (words ++ back actor))) → Acts actor own others
  acts word numbers words mine theirs =
      let end = bytes "))\n" in
      let form = word ++ (numbers ++ (words ++ end)) in
      let cut : form ≡ (word ++ (numbers ++ words)) ++ end = simp append_assoc in
      record {
        inner = word ++ (numbers ++ words);
        plain = mine ∙ simp append_assoc;
        acting = theirs ∙ rw (before, behind) (ap (λ (l : List ℕ). bytes "(as " ++ l) (append_assoc (decimal actor) (bytes " ") form ∙ ap (λ (l : List ℕ). decimal actor ++ (32 ∷ l)) cut));
      }

  pub read_acts : (n : Name) (s : Span) → Acts actor (spell 0 (Read n s)) (spell actor (Read n s))
  unfolding spell form
  read_acts n s = acts (bytes "(read") (spaced (n.0 ∷ span_numbers s)) [] refl refl

  pub write_acts : (n : Name) (s : Span) → Acts actor (spell 0 (Write n s)) (spell actor (Write n s))
  unfolding spell form
  write_acts n s = acts (bytes "(write") (spaced (n.0 ∷ span_numbers s)) [] refl refl

  pub drop_acts : (n : Name) → Acts actor (spell 0 (Drop n)) (spell actor (Drop n))
  unfolding spell form
  drop_acts n = acts (bytes "(drop") (spaced (n.0 ∷ [])) [] refl refl

  pub group_acts : (names : List ℕ) → Acts actor (spell_group 0 names) (spell_group actor names)
  unfolding spell_group
  group_acts names = acts (bytes "(drop") (spaced names) [] refl refl

  pub mark_acts : (k : ℕ) → Acts actor (spell_mark 0 k) (spell_mark actor k)
  unfolding spell_slot
  mark_acts k = acts mark_word (spaced (k ∷ [])) [] refl refl

  pub back_acts : (k : ℕ) → Acts actor (spell_back 0 k) (spell_back actor k)
  unfolding spell_slot
  back_acts k = acts back_word (spaced (k ∷ [])) [] refl refl

  -- creates and borrows with masks that are spelled alike
  module _ (w : Option Name) (s : Span) (right kind fresh mine theirs : ℕ) (alike : mask_word actor theirs ≡ mask_word 0 mine) where
    words : List ℕ
    words = right_word right ++ (kind_word kind ++ (fresh_word fresh ++ mask_word 0 mine))

    joined : (last : List ℕ) → right_word right ++ (kind_word kind ++ (fresh_word fresh ++ (mask_word 0 mine ++ last))) ≡ words ++ last
    unfolding words
    joined last = simp append_assoc

    joined_theirs : (last : List ℕ) → right_word right ++ (kind_word kind ++ (fresh_word fresh ++ (mask_word actor theirs ++ last))) ≡ words ++ last
    joined_theirs last = ap (λ (m : List ℕ). right_word right ++ (kind_word kind ++ (fresh_word fresh ++ (m ++ last)))) alike ∙ joined last

    pub create_acts : Acts actor (spell 0 (Create w s (held right kind fresh mine))) (spell actor (Create w s (held right kind fresh theirs)))
    unfolding spell form
    create_acts =
        let numbers = spaced (written_numbers w ++ span_numbers s) in
        acts (bytes "(create") numbers words
        (ap (λ (l : List ℕ). bytes "(create" ++ (numbers ++ l)) (joined (bytes ")\n")))
        (ap (λ (l : List ℕ). front actor ++ (bytes "(create" ++ (numbers ++ l))) (joined_theirs (back actor)))

    pub borrow_acts : (n : Name) → Acts actor (spell 0 (Borrow w n s (held right kind fresh mine))) (spell actor (Borrow w n s (held right kind fresh theirs)))
    unfolding spell form
    borrow_acts n =
        let numbers = spaced (written_numbers w ++ (n.0 ∷ span_numbers s)) in
        acts (bytes "(borrow") numbers words
        (ap (λ (l : List ℕ). bytes "(borrow" ++ (numbers ++ l)) (joined (bytes ")\n")))
        (ap (λ (l : List ℕ). front actor ++ (bytes "(borrow" ++ (numbers ++ l))) (joined_theirs (back actor)))

-- "A domain above 63 [..] is 2 in an event": whatever it asks for has no line.
module _ (actor : ℕ) where
  pub no_domain_written : (k : Spelling) (e : Event) → 63 < actor → (out : List ℕ) → write_event k actor e out ≡ record { answer = refused 2; buffer = out }
  no_domain_written k e h = unspelled k actor e (λ t. omega (arith, spelled_below k actor e t))

  pub no_domain_never_read : (k : Spelling) (e : Event) (line : List ℕ) → read_event k line ≡ value (actor, e) → actor ≤ 63
  no_domain_never_read k e line h = omega (arith, spelled_below k actor e (read_is_spelling k line actor e h).0)

  pub no_domain_no_group : (names line : List ℕ) → read_group line ≡ value (actor, names) → actor ≤ 63
  no_domain_no_group names line h = omega (arith, ltb-true actor 64 (read_group_is_spelling line actor names h).0)

-- ---- masks of holders

-- the mask of the maker alone is left out, and any other is written
pub alone_left_out : (maker : ℕ) → mask_word maker (2 ^ maker) ≡ []
alone_left_out maker = rw (eq-eqb (2 ^ maker) (2 ^ maker) refl)

pub other_written : (maker mask : ℕ) → (mask ≡ 2 ^ maker → ⊥) → mask_word maker mask ≡ 32 ∷ hex 16 mask
other_written maker mask h = rw (ne_eqb mask (2 ^ maker) h)

-- the lines of an event by a domain with each mask
pub record EndInMask (actor : ℕ) (event : ℕ → Event) : Type 0 where
  pub start : List ℕ
  pub alone : spell actor (event (2 ^ actor)) ≡ start ++ back actor
  pub shared : (mask : ℕ) → (mask ≡ 2 ^ actor → ⊥) → spell actor (event mask) ≡ start ++ (bytes " " ++ (hex 16 mask ++ back actor))

-- a line that is cut before the mask, which is m
module _ (actor : ℕ) (event : ℕ → Event) (start : List ℕ) (cut : (mask : ℕ) → spell actor (event mask) ≡ start ++ (mask_word actor mask ++ back actor)) where
  ends_in_mask : EndInMask actor event
  ends_in_mask =
      record {
        start = start;
        alone = cut (2 ^ actor) ∙ ap (λ (m : List ℕ). start ++ (m ++ back actor)) (alone_left_out actor);
        shared = λ mask h. cut mask ∙ ap (λ (m : List ℕ). start ++ (m ++ back actor)) (other_written actor mask h);
      }

module _ (actor : ℕ) (w : Option Name) (s : Span) (right : ℕ) where
  -- what stands before the mask
  until : (word numbers kind fresh last : List ℕ)
      → front actor ++ (word ++ (numbers ++ (right_word right ++ (kind ++ (fresh ++ last))))) ≡ (front actor ++ (word ++ (numbers ++ (right_word right ++ (kind ++ fresh))))) ++ last
  until word numbers kind fresh last = simp append_assoc

  pub create_ends_in_mask : (kind fresh : ℕ) → EndInMask actor (λ holders. Create w s (held right kind fresh holders))
  unfolding spell form
  create_ends_in_mask kind fresh =
      let numbers = spaced (written_numbers w ++ span_numbers s) in
      ends_in_mask actor (λ holders. Create w s (held right kind fresh holders)) (front actor ++ (bytes "(create" ++ (numbers ++ (right_word right ++ (kind_word kind ++ fresh_word fresh)))))
      (λ mask. until (bytes "(create") numbers (kind_word kind) (fresh_word fresh) (mask_word actor mask ++ back actor))

  pub borrow_ends_in_mask : (n : Name) (kind fresh : ℕ) → EndInMask actor (λ holders. Borrow w n s (held right kind fresh holders))
  unfolding spell form
  borrow_ends_in_mask n kind fresh =
      let numbers = spaced (written_numbers w ++ (n.0 ∷ span_numbers s)) in
      ends_in_mask actor (λ holders. Borrow w n s (held right kind fresh holders)) (front actor ++ (bytes "(borrow" ++ (numbers ++ (right_word right ++ (kind_word kind ++ fresh_word fresh)))))
      (λ mask. until (bytes "(borrow") numbers (kind_word kind) (fresh_word fresh) (mask_word actor mask ++ back actor))

-- So does a line that is read as one of them.
module _ (k : Spelling) (line : List ℕ) (actor : ℕ) (event : ℕ → Event) (ends : EndInMask actor event) where
  pub alone_read : read_event k line ≡ value (actor, event (2 ^ actor)) → line ≡ ends.start ++ back actor
  alone_read h = (read_is_spelling k line actor (event (2 ^ actor)) h).2 ∙ ends.alone

  pub shared_read : (mask : ℕ) → (mask ≡ 2 ^ actor → ⊥) → read_event k line ≡ value (actor, event mask) → line ≡ ends.start ++ (bytes " " ++ (hex 16 mask ++ back actor))
  shared_read mask other h = (read_is_spelling k line actor (event mask) h).2 ∙ ends.shared mask other

-- "or a mask without its maker, is 2 in an event": it has no line.
module _ (k : Spelling) (actor : ℕ) (w : Option Name) (s : Span) (r : Terms) (none : has_bit r.holders actor ≡ false) where
  pub create_without_maker : (out : List ℕ) → write_event k actor (Create w s r) out ≡ record { answer = refused 2; buffer = out }
  create_without_maker = unspelled k actor (Create w s r) (λ t. clash (root_terms_lem k actor w s r t).holder none)

  pub borrow_without_maker : (n : Name) (out : List ℕ) → write_event k actor (Borrow w n s r) out ≡ record { answer = refused 2; buffer = out }
  borrow_without_maker n = unspelled k actor (Borrow w n s r) (λ t. clash (child_terms_lem k actor w s r n t).holder none)

module _ (k : Spelling) (actor : ℕ) (w : Option Name) (s : Span) (r : Terms) (line : List ℕ) where
  pub create_has_maker : read_event k line ≡ value (actor, Create w s r) → has_bit r.holders actor ≡ true
  create_has_maker h = (root_read k actor w s r line h).holder

  pub borrow_has_maker : (n : Name) → read_event k line ≡ value (actor, Borrow w n s r) → has_bit r.holders actor ≡ true
  borrow_has_maker n h = (child_read k actor w n s r line h).holder
