-- Laws of `read_form` and `read_run`, one for `read_form`, and one for each way of the loop of `read_run`: what the callee read is what the definition's call gives.
-- Assumes nothing.
use mathlib.Core.Path.{◌≡◌, refl, sym, ap, ap₂, ◌∙◌}
use mathlib.Core.Bool.{Bool, true, false, ◌&&◌}
use mathlib.Core.List.{List, [], ◌∷◌}
use Prim.Native.Nat.{ℕ, zero, suc, ◌+◌, ◌-◌, ◌*◌, ◌≤◌, ◌<◌}
use native.Mathlib.Omega.{arith}
use lib.Dec.{leb, ltb, eqb}
use lib.ListN.{length, get_or, drop, length-drop, drop_of_length-le}
use lib.Seq.{drop-drop}
use borrow.Author.Tests.{leb-true, leb-false, ltb-true, eqb-true}
use Rattle.model.proofs.Offered.{and_both}
use Rattle.text.specs.Class.{space}
use Rattle.text.specs.Line.{through}
use Rattle.text.specs.Event.{fresh_word}
use Rattle.model.specs.declared.Cap.{Cap}
use Rattle.listing.specs.Forms.{Reading, name_text, start_text, length_text, kind_length, mark_of, maker_text, children_text, row_of, follows, child_follows, read_form, read_run}
use Rattle.listing.specs.Stored.{Reads}

-- ---- a part of a text that reaches to its end, by how many bytes it has

-- the last bytes, as many as are left behind the first n, are what is behind the first n
pub last_drop : (n : ℕ) (s : List ℕ) → drop (length s - length (drop n s)) s ≡ drop n s
last_drop n s = go (leb n (length s)) refl
  where
    go : (t : Bool) → leb n (length s) ≡ t → drop (length s - length (drop n s)) s ≡ drop n s
    go true h =
        let e : length s - length (drop n s) ≡ n = omega (arith, leb-true n (length s) h, length-drop n s) in
        ap (λ (k : ℕ). drop k s) e
    go false h =
        let past : length s < n = leb-false n (length s) h in
        drop_of_length-le s {i = length s - length (drop n s)} (omega (arith, length-drop n s)) ∙ sym (drop_of_length-le s {i = n} (omega arith))

pub last_last : (n k : ℕ) (s : List ℕ) → k ≤ length (drop n s) → drop (length (drop n s) - k) (drop n s) ≡ drop (length s - k) s
last_last n k s h =
    let t = drop n s in
    let e : (length s - length t) + (length t - k) ≡ length s - k = omega (arith, length-drop n s) in
    ap (drop (length t - k)) (sym (last_drop n s)) ∙ drop-drop (length t - k) (length s - length t) s ∙ ap (λ (j : ℕ). drop j s) e

-- the last bytes of a text
abbrev pub tail : List ℕ → ℕ → List ℕ
tail s left = drop (length s - left) s

pub tail_length : (s : List ℕ) (left : ℕ) → left ≤ length s → length (tail s left) ≡ left
tail_length s left h = omega (arith, length-drop (length s - left) s)

-- behind one byte of them
pub tail_behind : (s : List ℕ) (left : ℕ) → left ≤ length s → {rest child : List ℕ} → rest ≡ tail s left → child ≡ drop 1 rest → length child ≡ left - 1
tail_behind s left inside {rest} e d = ap length d ∙ length-drop 1 rest ∙ ap (λ (t : List ℕ). length t - 1) e ∙ ap (λ (n : ℕ). n - 1) (tail_length s left inside)

-- a further part is a part of the whole
further : (s : List ℕ) {t : List ℕ} (m n : ℕ) → t ≡ drop m s → drop n t ≡ drop (m + n) s
further s m n e = ap (drop n) e ∙ drop-drop n m s

children_part : (s : List ℕ) → (m : ℕ) × (children_text s ≡ drop m s)
children_part s =
    let a : ℕ = 1 in
    let b = through space (name_text s) in
    let c = through space (start_text s) in
    let d = through space (length_text s) in
    let e = 3 + (kind_length s + length (fresh_word (mark_of s))) in
    let f = through space (maker_text s) in
    (a + b + c + d + e + f + 16, further s (a + b + c + d + e + f) 16 (further s (a + b + c + d + e) f (further s (a + b + c + d) e (further s (a + b + c) d (further s (a + b) c (further s a b refl))))))

pub children_short : (s : List ℕ) {t : List ℕ} → t ≡ children_text s → length t ≤ length s
children_short s e =
    let p = children_part s in
    omega (arith, ap length (e ∙ p.1), length-drop p.0 s)

-- the children are the last bytes of the text, as many as they have
pub children_left : (s : List ℕ) {t : List ℕ} → t ≡ children_text s → drop (length s - length t) s ≡ children_text s
children_left s e =
    let p = children_part s in
    ap (λ (l : List ℕ). drop (length s - length l) s) (e ∙ p.1) ∙ last_drop p.0 s ∙ sym p.1

pub nonempty : (s : List ℕ) → get_or s 0 0 ≡ 32 → 1 ≤ length s
nonempty [] h = absurd (omega arith)
nonempty (b ∷ s) h = omega arith

pub follows_parts : (s : List ℕ) (count depth : ℕ) → follows s count depth ≡ true → (depth < 64) × (count < 1024) × (1 ≤ length s)
follows_parts s count depth h =
    let p = and_both (ltb depth 64) (ltb count 1024 && eqb (get_or s 0 0) 32) h in
    let q = and_both (ltb count 1024) (eqb (get_or s 0 0) 32) p.1 in
    (ltb-true depth 64 p.0, ltb-true count 1024 q.0, nonempty s (eqb-true (get_or s 0 0) 32 q.1))

-- ---- the ways of the two readers

-- a form: its row is stored, its children are read as a run, and the closing bracket is passed
pub form_reads : (s : List ℕ) (acc : List Cap) (parent depth : ℕ) {children rest : List ℕ} {after : List Cap} {row : Cap} {left : ℕ} {stored : List Cap}
    → row ≡ row_of s parent depth → stored ≡ row ∷ acc → children ≡ children_text s
    → Reads (λ (k : ℕ). read_run k row.name.0 depth (record { rest = children; rows = stored })) (2 * length children) children left after
    → rest ≡ drop 1 (drop (length children - left) children)
    → Reads (λ (k : ℕ). read_form k parent depth (record { rest = s; rows = acc })) (2 * length s + 1) s (length rest) after
unfolding read_form
form_reads s acc parent depth {children} {rest} {after} {row} {left} {stored} er es ec r et = record { inside = inside; reads = reads }
  where
    part : (m : ℕ) × (children ≡ drop m s)
    part = ((children_part s).0, ec ∙ (children_part s).1)

    n : ℕ
    n = part.0 + (length children - left) + 1

    is_part : rest ≡ drop n s
    is_part = et ∙ further s (part.0 + (length children - left)) 1 (further s part.0 (length children - left) part.1)

    inside : length rest ≤ length s
    inside = omega (arith, ap length is_part, length-drop n s)

    shorter : length children ≤ length s
    shorter = children_short s ec

    same : Path Reading (record { rest = children; rows = stored }) (record { rest = children_text s; rows = row_of s parent depth ∷ acc })
    same = λ i. record { rest = ec i; rows = (es ∙ ap (λ (c : Cap). c ∷ acc) er) i }

    reads : (k : ℕ) → 2 * length s + 1 < k → read_form k parent depth (record { rest = s; rows = acc }) ≡ record { rest = drop (length s - length rest) s; rows = after }
    reads zero h = absurd (omega arith)
    reads (suc k) h =
        let read = ap₂ (λ (m : ℕ) (st : Reading). read_run k m depth st) (ap (λ (c : Cap). c.name.0) (sym er)) (sym same) ∙ r.reads k (omega (arith, shorter)) in
        let back : rest ≡ drop (length s - length rest) s = is_part ∙ sym (last_drop n s) ∙ ap (λ (l : List ℕ). drop (length s - length l) s) (sym is_part) in
        ap (λ (st : Reading). record { rest = drop 1 st.rest; rows = st.rows }) read
        ∙ (λ i. record { rest = (sym et ∙ back) i; rows = after })

-- a run goes on where a child follows, and else ends
pub run_on : (k p d : ℕ) (r : Reading) → child_follows d r ≡ true → read_run (suc k) p d r ≡ read_run k p d (read_form k p (d + 1) (record { rest = drop 1 r.rest; rows = r.rows }))
unfolding read_form
run_on k p d r h = rw h

pub run_off : (k p d : ℕ) (r : Reading) → child_follows d r ≡ false → read_run (suc k) p d r ≡ r
unfolding read_form
run_off k p d r h = rw h

-- a run in front of the text s: the last bytes are left to read, where these rows were read
pub record RunLeft (s : List ℕ) (acc : List Cap) (p d left : ℕ) (rows : List Cap) : Type 0 where
  pub inside : left ≤ length s
  pub same : (k : ℕ) → 2 * length s < k → (j : ℕ) × (2 * left < j) × (read_run j p d (record { rest = tail s left; rows = rows }) ≡ read_run k p d (record { rest = s; rows = acc }))

module _ (s : List ℕ) (acc : List Cap) (p d : ℕ) where
  pub run_begins : RunLeft s acc p d (length s) acc
  run_begins =
      let z : length s - length s ≡ 0 = omega arith in
      record { inside = omega arith; same = λ k h. (k, h, ap (λ (n : ℕ). read_run k p d (record { rest = drop n s; rows = acc })) z) }

  module _ {left : ℕ} {rows : List Cap} (l : RunLeft s acc p d left rows) where
    abbrev here : Reading
    here = record { rest = tail s left; rows = rows }

    -- a form more behind a space
    pub run_more : {rest child : List ℕ} {one : ℕ} {stored : List Cap} → child_follows d here ≡ true → 0 < left → rest ≡ tail s left → child ≡ drop 1 rest
        → Reads (λ (k : ℕ). read_form k p (d + 1) (record { rest = child; rows = rows })) (2 * length child + 1) child one stored
        → RunLeft s acc p d one stored
    run_more {rest} {child} {one} {stored} follow some er ec r = record { inside = omega (arith, r.inside, l.inside, child_length); same = λ k h. step (l.same k h).0 k (l.same k h).1 (l.same k h).2 }
      where
        ec' : child ≡ drop 1 (tail s left)
        ec' = ec ∙ ap (drop 1) er

        child_length : length child ≡ left - 1
        child_length = tail_behind s left l.inside er ec

        part : child ≡ drop ((length s - left) + 1) s
        part = ec' ∙ drop-drop 1 (length s - left) s

        back : drop (length child - one) child ≡ tail s one
        back = ap (λ (t : List ℕ). drop (length t - one) t) part ∙ last_last ((length s - left) + 1) one s (omega (arith, r.inside, ap length part))

        step : (j k : ℕ) → 2 * left < j → read_run j p d here ≡ read_run k p d (record { rest = s; rows = acc })
            → (i : ℕ) × (2 * one < i) × (read_run i p d (record { rest = tail s one; rows = stored }) ≡ read_run k p d (record { rest = s; rows = acc }))
        step zero k h e = absurd (omega arith)
        step (suc j) k h e =
            let formed : read_form j p (d + 1) (record { rest = drop 1 (tail s left); rows = rows }) ≡ record { rest = tail s one; rows = stored } =
            ap (λ (t : List ℕ). read_form j p (d + 1) (record { rest = t; rows = rows })) (sym ec')
            ∙ r.reads j (omega (arith, child_length))
            ∙ (λ i. record { rest = back i; rows = stored }) in
            (j, omega (arith, r.inside, child_length), sym (run_on j p d here follow ∙ ap (read_run j p d) formed) ∙ e)

    -- no form more
    pub run_ends : child_follows d here ≡ false → Reads (λ (k : ℕ). read_run k p d (record { rest = s; rows = acc })) (2 * length s) s left rows
    run_ends none = record { inside = l.inside; reads = λ k h. go (l.same k h).0 k (l.same k h).1 (l.same k h).2 }
      where
        go : (j k : ℕ) → 2 * left < j → read_run j p d here ≡ read_run k p d (record { rest = s; rows = acc }) → read_run k p d (record { rest = s; rows = acc }) ≡ here
        go zero k h e = absurd (omega arith)
        go (suc j) k h e = sym e ∙ run_off j p d here none
