-- The names given to clients, and the list of those that may live: how a client's name is found, and what both are when a name is given.
-- Assumes nothing.
use mathlib.Core.Path.{◌≡◌, refl, sym, ap, ◌∙◌}
use mathlib.Core.Logic.{◌⊎◌, inl, inr}
use mathlib.Core.Bool.{Bool, true, false, cond}
use mathlib.Core.List.{List, [], ◌∷◌, ◌++◌}
use Prim.Native.Nat.{ℕ, zero, suc, ◌+◌, ◌≤◌, ◌<◌}
use native.Mathlib.Omega.{arith}
use lib.Dec.{eqb, ltb, leb}
use lib.ListN.{length, get_or, set, length-append, length-set, get_or-append, get_or-eq_default}
use lib.Seq.{get_or-append_seam, get_or-set_same, get_or-set_other}
use borrow.Author.Tests.{eqb-true, eq-eqb, eqb-false, ne_eqb, ltb-true, ltb-false, leb-true, leb-false, lt-ltb}
use Rattle.model.specs.declared.Cap.{Cap}
use Rattle.model.specs.Lists.{any}
use Rattle.model.specs.Table.{named}
use Rattle.model.proofs.Offered.{test, clash, and_both}
use Rattle.table.specs.Rows.{name_at, before, Filled}
use Rattle.table.proofs.Offered.{last, none_named, place_of}
use Rattle.sizes.specs.Clients.{known, give}
use Rattle.sizes.specs.Names.{Given, Counted, is_given, key_of, Among, Listed, Keyed, Keys, KeyFound, Kept}

-- ---- a list of names

-- what is there stands inside
inside : (names : List ℕ) (k : ℕ) → 0 < get_or names k 0 → k < length names
inside names k p = go (test (ltb k (length names)))
  where
    go : (ltb k (length names) ≡ true) ⊎ (ltb k (length names) ≡ false) → k < length names
    go (inl t) = ltb-true k (length names) t
    go (inr f) = absurd (omega (arith, get_or-eq_default names 0 (ltb-false k (length names) f)))

-- so is a name that is called
pub known_inside : (names : List ℕ) (a : ℕ) → 0 < known names a → (0 < a) × (a ≤ length names)
known_inside names zero p = absurd (omega arith)
known_inside names (suc k) p = (omega arith, inside names k p)

known_more : (names : List ℕ) (x a : ℕ) → 0 < known names a → known (names ++ (x ∷ [])) a ≡ known names a
known_more names x zero p = absurd (omega arith)
known_more names x (suc k) p = get_or-append names (x ∷ []) 0 k (inside names k p)

-- what was not given is 0, and what was given is a name
pub known_none : (names : List ℕ) (a : ℕ) → is_given (length names) a ≡ false → known names a ≡ 0
known_none names zero h = refl
known_none names (suc k) h = get_or-eq_default names 0 (omega (arith, leb-false (suc k) (length names) (rw (lt-ltb 0 (suc k) (omega arith)) at h)))

module _ {given : ℕ → List ℕ} {issued : ℕ} (g : Given given issued) where
  pub known_some : (client a : ℕ) → is_given (length (given client)) a ≡ true → 0 < known (given client) a
  known_some client zero h = clash h refl
  known_some client (suc k) h = g.positive client k (leb-true (suc k) (length (given client)) (and_both (ltb 0 (suc k)) (leb (suc k) (length (given client))) h).1)

  pub known_most : (client a : ℕ) → known (given client) a ≤ issued
  known_most client zero = omega arith
  known_most client (suc k) = g.most client k

  -- a name is called by one client, and by one number
  known_once : (x y c d : ℕ) → 0 < known (given c) x → known (given c) x ≡ known (given d) y → (c ≡ d) × (x ≡ y)
  known_once zero y c d s e = absurd (omega arith)
  known_once (suc x) zero c d s e = absurd (omega arith)
  known_once (suc x) (suc y) c d s e =
      let w = g.once c d x y (inside (given c) x s) (inside (given d) y (omega arith)) e in
      (w.0, ap suc w.1)

-- ---- a client's name is looked for

keys_apart : (c d a b : ℕ) → a < 1048576 → b < 1048576 → key_of c a ≡ key_of d b → (c ≡ d) × (a ≡ b)
keys_apart c d a b l m e = (omega arith, omega arith)

module _ {given : ℕ → List ℕ} {names keys : List ℕ} {used : ℕ} (ks : Keys given names keys used) (client a r : ℕ) (low : a < 1048576) (f : KeyFound used keys (key_of client a) r) where
  -- the name beside the key is the one that the client means
  pub beside_known : r < used → get_or names r 0 ≡ known (given client) a
  beside_known l =
      let k = ks.each r l in
      let w = keys_apart k.client client k.local a k.low low (sym k.key_is ∙ f.here l) in
      sym k.name_is ∙ (λ j. known (given (w.0 j)) (w.1 j))

  -- where there is none, a name that the client was given has ended
  pub missing_ended : {T : List Cap} {live issued : ℕ} → Given given issued → Listed T live names used → used ≤ r → 0 < known (given client) a → any (named (known (given client) a)) (before T live) ≡ false
  missing_ended {T} {live} g listed l p = none_named T live (known (given client) a) there
    where
      there : (i : ℕ) → i < live → name_at T i ≡ known (given client) a → ⊥
      there i m e =
          let among = listed.living i m in
          let k = ks.each among.place among.inside in
          let same : known (given k.client) k.local ≡ known (given client) a = k.name_is ∙ among.is ∙ e in
          let w = known_once g k.local a k.client client (omega (arith, same)) same in
          f.none l among.place among.inside (k.key_is ∙ (λ j. key_of (w.0 j) (w.1 j)))

-- ---- a name is given

module _ (given : ℕ → List ℕ) (client : ℕ) where
  -- the others stay
  known_given : (new c a : ℕ) → 0 < known (given c) a → known (give client new given c) a ≡ known (given c) a
  known_given zero c a p = refl
  known_given (suc x) c a p = go (eqb c client)
    where
      go : (b : Bool) → known (cond b (given c ++ (suc x ∷ [])) (given c)) a ≡ known (given c) a
      go true = known_more (given c) (suc x) a p
      go false = refl

  -- the client calls it by the next number
  known_new : (x : ℕ) → known (give client (suc x) given client) (suc (length (given client))) ≡ suc x
  known_new x = rw (eq-eqb client client refl) (get_or-append_seam (given client) (suc x) [] 0)

  module _ (i : ℕ) where
    abbrev given' : ℕ → List ℕ
    given' = give client (suc i) given

    record Old (c a : ℕ) : Type 0 where
      within : a < length (given c)
      same : get_or (given' c) a 0 ≡ get_or (given c) a 0

    record New (c a : ℕ) : Type 0 where
      owner : c ≡ client
      final : a ≡ length (given client)
      same : get_or (given' c) a 0 ≡ suc i

    old_new : (c a : ℕ) → a < length (given' c) → Old c a ⊎ New c a
    old_new c a l = go (test (eqb c client))
      where
        go : (eqb c client ≡ true) ⊎ (eqb c client ≡ false) → Old c a ⊎ New c a
        go (inr f) = inl record { within = rw f at l; same = rw f }
        go (inl t) = more (test (ltb a (length (given c))))
          where
            more : (ltb a (length (given c)) ≡ true) ⊎ (ltb a (length (given c)) ≡ false) → Old c a ⊎ New c a
            more (inl y) = let w = ltb-true a (length (given c)) y in inl record { within = w; same = rw t (get_or-append (given c) (suc i ∷ []) 0 a w) }
            more (inr n) =
                let w = ltb-false a (length (given c)) n in
                let k : a < length (given c ++ (suc i ∷ [])) = rw t at l in
                let e : a ≡ length (given c) = omega (arith, length-append (given c) (suc i ∷ [])) in
                inr record { owner = eqb-true c client t; final = e ∙ ap (λ (d : ℕ). length (given d)) (eqb-true c client t); same = rw (t, e) (get_or-append_seam (given c) (suc i) [] 0) }

    -- how many each was given then
    pub length_given : (c : ℕ) → length (given' c) ≡ cond (eqb c client) (length (given c) + 1) (length (given c))
    length_given c = go (eqb c client)
      where
        go : (b : Bool) → length (cond b (given c ++ (suc i ∷ [])) (given c)) ≡ cond b (length (given c) + 1) (length (given c))
        go true = length-append (given c) (suc i ∷ [])
        go false = refl

    -- names are still given once, and issued
    pub given_new : Given given i → Given given' (suc i)
    given_new g = record { positive = positive; most = most; few = few; once = once }
      where
        positive : (c a : ℕ) → a < length (given' c) → 0 < get_or (given' c) a 0
        positive c a l = go (old_new c a l)
          where
            go : Old c a ⊎ New c a → 0 < get_or (given' c) a 0
            go (inl o) = omega (arith, o.same, g.positive c a o.within)
            go (inr n) = omega (arith, n.same)

        most : (c a : ℕ) → get_or (given' c) a 0 ≤ suc i
        most c a = go (test (ltb a (length (given' c))))
          where
            of : Old c a ⊎ New c a → get_or (given' c) a 0 ≤ suc i
            of (inl o) = omega (arith, o.same, g.most c a)
            of (inr n) = omega (arith, n.same)

            go : (ltb a (length (given' c)) ≡ true) ⊎ (ltb a (length (given' c)) ≡ false) → get_or (given' c) a 0 ≤ suc i
            go (inl t) = of (old_new c a (ltb-true a (length (given' c)) t))
            go (inr f) = omega (arith, get_or-eq_default (given' c) 0 (ltb-false a (length (given' c)) f))

        few : (c : ℕ) → length (given' c) ≤ suc i
        few c = go (eqb c client)
          where
            go : (b : Bool) → length (cond b (given c ++ (suc i ∷ [])) (given c)) ≤ suc i
            go true = omega (arith, length-append (given c) (suc i ∷ []), g.few c)
            go false = omega (arith, g.few c)

        once : (c d a b : ℕ) → a < length (given' c) → b < length (given' d) → get_or (given' c) a 0 ≡ get_or (given' d) b 0 → (c ≡ d) × (a ≡ b)
        once c d a b l m e = go (old_new c a l) (old_new d b m)
          where
            go : Old c a ⊎ New c a → Old d b ⊎ New d b → (c ≡ d) × (a ≡ b)
            go (inl o) (inl p) = g.once c d a b o.within p.within (sym o.same ∙ e ∙ p.same)
            go (inl o) (inr p) = absurd (omega (arith, o.same, p.same, g.most c a))
            go (inr o) (inl p) = absurd (omega (arith, o.same, p.same, g.most d b))
            go (inr o) (inr p) = (o.owner ∙ sym p.owner, o.final ∙ sym p.final)

-- ---- the list then

-- the rows after an event, of which all but the new one were there before
abbrev Left : List Cap → ℕ → List Cap → ℕ → ℕ → Type 0
Left T live U left new = (j : ℕ) → j < left → (name_at U j ≡ new) ⊎ (any (named (name_at U j)) (before T live) ≡ true)

module _ {T : List Cap} {live : ℕ} {names : List ℕ} {used : ℕ} (listed : Listed T live names used) (U : List Cap) (left : ℕ) where
  among_before : (j : ℕ) → any (named (name_at U j)) (before T live) ≡ true → Among names used (name_at U j)
  among_before j h =
      let p = place_of T live (name_at U j) h in
      let a = listed.living p.0 p.1.0 in
      record { place = a.place; inside = a.inside; is = a.is ∙ p.1.1 }

  -- no name is new
  pub listed_same : Filled U left → Left T live U left 0 → Listed U left names used
  listed_same filled names_left = record { fits = listed.fits; room = listed.room; rising = listed.rising; living = λ j l. go j l (names_left j l) }
    where
      go : (j : ℕ) → j < left → (name_at U j ≡ 0) ⊎ (any (named (name_at U j)) (before T live) ≡ true) → Among names used (name_at U j)
      go j l (inl z) = absurd (omega (arith, filled j l))
      go j l (inr h) = among_before j h

  -- one is, above all others
  module _ (new : ℕ) (room : used < 2048) (above : (i : ℕ) → i < used → get_or names i 0 < new) where
    abbrev names' : List ℕ
    names' = set names used new

    at_end : get_or names' used 0 ≡ new
    at_end = get_or-set_same names used new 0 (omega (arith, listed.room))

    before_end : (i : ℕ) → i < used → get_or names' i 0 ≡ get_or names i 0
    before_end i l = get_or-set_other names used i new 0 (λ (e : i ≡ used). omega arith)

    pub listed_new : Left T live U left new → Listed U left names' (used + 1)
    listed_new names_left = record { fits = omega arith; room = length-set names used new ∙ listed.room; rising = rising; living = λ j l. living j (names_left j l) }
      where
        rising : (i j : ℕ) → i < j → j < used + 1 → get_or names' i 0 < get_or names' j 0
        rising i j l m = go (last j used m)
          where
            go : (j < used) ⊎ (j ≡ used) → get_or names' i 0 < get_or names' j 0
            go (inl w) = omega (arith, before_end i (omega arith), before_end j w, listed.rising i j l w)
            go (inr e) = omega (arith, before_end i (omega arith), ap (λ (k : ℕ). get_or names' k 0) e, at_end, above i (omega arith))

        living : (j : ℕ) → (name_at U j ≡ new) ⊎ (any (named (name_at U j)) (before T live) ≡ true) → Among names' (used + 1) (name_at U j)
        living j (inl e) = record { place = used; inside = omega arith; is = at_end ∙ sym e }
        living j (inr h) =
            let a = among_before j h in
            record { place = a.place; inside = omega (arith, a.inside); is = before_end a.place a.inside ∙ a.is }

-- the keys are those of the names, also when one more is given
module _ {given : ℕ → List ℕ} {names keys : List ℕ} {used issued : ℕ} (g : Given given issued) (ks : Keys given names keys used) where
  pub keyed_below : (i : ℕ) → i < used → get_or names i 0 < suc issued
  keyed_below i l = let k = ks.each i l in omega (arith, k.name_is, known_most g k.client k.local)

  module _ (client : ℕ) (low : issued < 1048575) (room : used < 2048) (long : length names ≡ 2048) where
    abbrev key : ℕ
    key = key_of client (length (given client) + 1)

    pub keys_new : Keys (give client (suc issued) given) (set names used (suc issued)) (set keys used key) (used + 1)
    keys_new = record { room = length-set keys used key ∙ ks.room; each = λ i l. go i (last i used l) }
      where
        go : (i : ℕ) → (i < used) ⊎ (i ≡ used) → Keyed (give client (suc issued) given) (get_or (set names used (suc issued)) i 0) (get_or (set keys used key) i 0)
        go i (inl w) =
            let k = ks.each i w in
            let far : i ≡ used → ⊥ = λ (e : i ≡ used). omega arith in
            rw (get_or-set_other names used i (suc issued) 0 far, get_or-set_other keys used i key 0 far)
            record { client = k.client; local = k.local; low = k.low; some = k.some; key_is = k.key_is; name_is = known_given given client (suc issued) k.client k.local (omega (arith, k.name_is, k.some)) ∙ k.name_is }
        go i (inr e) =
            let next : length (given client) + 1 ≡ suc (length (given client)) = omega arith in
            rw (e, get_or-set_same names used (suc issued) 0 (omega arith), get_or-set_same keys used key 0 (omega (arith, ks.room)))
            record { client = client; local = length (given client) + 1; low = omega (arith, g.few client); some = omega arith; key_is = refl; name_is = ap (known (give client (suc issued) given client)) next ∙ known_new given client issued }

-- so are the counts
pub counted_new : (given : ℕ → List ℕ) (counts : List ℕ) (client issued : ℕ) → client < 8 → Counted given counts → Counted (give (suc client) (suc issued) given) (set counts client (get_or counts client 0 + 1))
counted_new given counts client issued l c = record { all_clients = length-set counts client (get_or counts client 0 + 1) ∙ c.all_clients; each = λ k m. length_given given (suc client) issued (suc k) ∙ go k m (test (eqb k client)) }
  where
    go : (k : ℕ) → k < 8 → (eqb k client ≡ true) ⊎ (eqb k client ≡ false) → cond (eqb (suc k) (suc client)) (length (given (suc k)) + 1) (length (given (suc k))) ≡ get_or (set counts client (get_or counts client 0 + 1)) k 0
    go k m (inl t) =
        let e = eqb-true k client t in
        rw (eq-eqb (suc k) (suc client) (ap suc e), e) (ap (λ (n : ℕ). n + 1) (c.each client l) ∙ sym (get_or-set_same counts client (get_or counts client 0 + 1) 0 (omega (arith, c.all_clients))))
    go k m (inr f) =
        let n = eqb-false k client f in
        rw (ne_eqb (suc k) (suc client) (λ (e : suc k ≡ suc client). n (omega arith))) (c.each k m ∙ sym (get_or-set_other counts client k (get_or counts client 0 + 1) 0 n))

-- what is kept of a list has its keys
pub keys_kept : {given : ℕ → List ℕ} {T : List Cap} {live used r : ℕ} {names keys names' keys' : List ℕ} → Keys given names keys used → Kept T live names keys used names' keys' r → Keys given names' keys' r
keys_kept {given} ks kept = record {
  room = kept.long;
  each = λ i l.
      let f = kept.old i l in
      let k = ks.each f.place f.inside in
      record { client = k.client; local = k.local; low = k.low; some = omega (arith, k.some, f.name_is); key_is = sym f.key_is ∙ k.key_is; name_is = k.name_is ∙ f.name_is };
}
