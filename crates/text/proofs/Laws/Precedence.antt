-- Document 01, "Eleven ways to be turned down", and cards 5, 10 and 11: the number that a writer gives is the first of its refusals, in order of
-- precedence, that applies. Its condition holds, none that comes before it does, and the buffer is left as it was.
-- Assumes nothing.
use mathlib.Core.Path.{◌≡◌, refl}
use mathlib.Core.Logic.{◌⊎◌, inl, inr}
use mathlib.Core.Bool.{Bool, true, false, not, cond}
use mathlib.Core.List.{List, [], ◌∷◌}
use Prim.Native.Nat.{ℕ, suc, ◌<◌}
use native.Mathlib.Omega.{arith}
use lib.Dec.{leb}
use lib.ListN.{length}
use borrow.Author.Tests.{leb-true, leb-false, lt-ltb, le-ltb}
use Rattle.model.specs.Lists.{first}
use Rattle.model.specs.Refusals.{place}
use Rattle.model.proofs.Offered.{test, listed, rises_from, first_holds, first_lowest}
use Rattle.model.specs.declared.Event.{Event}
use Rattle.model.specs.Table.{is_domain}
use Rattle.model.specs.Requests.{is_group}
use Rattle.text.specs.Result.{refusal_of}
use Rattle.text.specs.Event.{spell, has_spelling}
use Rattle.text.specs.Write.{written, stored, too_long, write_event, write_refusals}
use Rattle.text.specs.Group.{spell_group, write_group, write_group_refusals}
use Rattle.text.specs.State.{slot_spelled, spell_slot, write_slot, write_slot_refusals}
use Rattle.text.specs.declared.spelling.Spelling.{Spelling}

-- a text that is written, or longer than the buffer
long_given : (s out : List ℕ) → refusal_of (written true s out) ≡ cond (too_long s out) 11 0
unfolding written
long_given s out = go (test (leb (length s) (length out)))
  where
    go : (leb (length s) (length out) ≡ true) ⊎ (leb (length s) (length out) ≡ false) → refusal_of (written true s out) ≡ cond (too_long s out) 11 0
    go (inl t) = rw (t, le-ltb (length out) (length s) (leb-true (length s) (length out) t))
    go (inr f) = rw (f, lt-ltb (length out) (length s) (leb-false (length s) (length out) f))

long_untouched : (s out : List ℕ) (j : ℕ) → refusal_of (written true s out) ≡ suc j → stored true s out ≡ out
unfolding written stored
long_untouched s out j h = go (test (leb (length s) (length out)))
  where
    go : (leb (length s) (length out) ≡ true) ⊎ (leb (length s) (length out) ≡ false) → stored true s out ≡ out
    go (inl t) = let never : ◌≡◌ {A = ℕ} 0 (suc j) = rw t at h in absurd (omega arith)
    go (inr f) = rw f

-- a text that is none, or is written, or is longer than the buffer
text_given : (spelled : Bool) (s out : List ℕ) → refusal_of (written spelled s out) ≡ first ((2, not spelled) ∷ (11, too_long s out) ∷ [])
unfolding written
text_given true s out = long_given s out
text_given false s out = refl

text_untouched : (spelled : Bool) (s out : List ℕ) (j : ℕ) → refusal_of (written spelled s out) ≡ suc j → stored spelled s out ≡ out
unfolding written stored
text_untouched true s out j h = long_untouched s out j h
text_untouched false s out j h = refl

-- ---- the writer of events

module _ (k : Spelling) (actor : ℕ) (e : Event) (out : List ℕ) where
  pub event_given : refusal_of (write_event k actor e out).answer ≡ first (write_refusals k actor e out)
  unfolding write_event write_refusals
  event_given = text_given (has_spelling k actor e) (spell actor e) out

  pub event_rising : rises_from 0 (write_refusals k actor e out) ≡ true
  unfolding write_refusals
  event_rising = refl

  pub event_given_holds : (j : ℕ) → refusal_of (write_event k actor e out).answer ≡ suc j → listed (suc j) (write_refusals k actor e out) ≡ true
  event_given_holds j h = first_holds (write_refusals k actor e out) 0 j event_rising (rw event_given at h)

  pub event_given_first : (j : ℕ) → place j < place (refusal_of (write_event k actor e out).answer) → listed j (write_refusals k actor e out) ≡ false
  event_given_first j l = first_lowest (write_refusals k actor e out) 0 j event_rising (rw event_given at l)

  pub event_untouched : (j : ℕ) → refusal_of (write_event k actor e out).answer ≡ suc j → (write_event k actor e out).buffer ≡ out
  unfolding write_event
  event_untouched j h = text_untouched (has_spelling k actor e) (spell actor e) out j h

-- ---- the writer of groups

module _ (actor : ℕ) (names out : List ℕ) where
  pub group_given : refusal_of (write_group actor names out).answer ≡ first (write_group_refusals actor names out)
  unfolding write_group write_group_refusals
  group_given = go (test (is_group names))
    where
      go : (is_group names ≡ true) ⊎ (is_group names ≡ false) → refusal_of (write_group actor names out).answer ≡ first (write_group_refusals actor names out)
      go (inl t) = rw t (text_given (is_domain actor) (spell_group actor names) out)
      go (inr f) = rw f

  pub group_rising : rises_from 0 (write_group_refusals actor names out) ≡ true
  unfolding write_group_refusals
  group_rising = refl

  pub group_given_holds : (j : ℕ) → refusal_of (write_group actor names out).answer ≡ suc j → listed (suc j) (write_group_refusals actor names out) ≡ true
  group_given_holds j h = first_holds (write_group_refusals actor names out) 0 j group_rising (rw group_given at h)

  pub group_given_first : (j : ℕ) → place j < place (refusal_of (write_group actor names out).answer) → listed j (write_group_refusals actor names out) ≡ false
  group_given_first j l = first_lowest (write_group_refusals actor names out) 0 j group_rising (rw group_given at l)

  pub group_untouched : (j : ℕ) → refusal_of (write_group actor names out).answer ≡ suc j → (write_group actor names out).buffer ≡ out
  unfolding write_group
  group_untouched j h = go (test (is_group names))
    where
      go : (is_group names ≡ true) ⊎ (is_group names ≡ false) → (write_group actor names out).buffer ≡ out
      go (inl t) = rw t (text_untouched (is_domain actor) (spell_group actor names) out j (rw t at h))
      go (inr f) = rw f

-- ---- the writers of marks and backs, with the word of either

module _ (word : List ℕ) (actor k : ℕ) (out : List ℕ) where
  pub slot_given : refusal_of (write_slot word actor k out).answer ≡ first (write_slot_refusals word actor k out)
  unfolding write_slot write_slot_refusals
  slot_given = text_given (slot_spelled actor k) (spell_slot word actor k) out

  pub slot_rising : rises_from 0 (write_slot_refusals word actor k out) ≡ true
  unfolding write_slot_refusals
  slot_rising = refl

  pub slot_given_holds : (j : ℕ) → refusal_of (write_slot word actor k out).answer ≡ suc j → listed (suc j) (write_slot_refusals word actor k out) ≡ true
  slot_given_holds j h = first_holds (write_slot_refusals word actor k out) 0 j slot_rising (rw slot_given at h)

  pub slot_given_first : (j : ℕ) → place j < place (refusal_of (write_slot word actor k out).answer) → listed j (write_slot_refusals word actor k out) ≡ false
  slot_given_first j l = first_lowest (write_slot_refusals word actor k out) 0 j slot_rising (rw slot_given at l)

  pub slot_untouched : (j : ℕ) → refusal_of (write_slot word actor k out).answer ≡ suc j → (write_slot word actor k out).buffer ≡ out
  unfolding write_slot
  slot_untouched j h = text_untouched (slot_spelled actor k) (spell_slot word actor k) out j h
