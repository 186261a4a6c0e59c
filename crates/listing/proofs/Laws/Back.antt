-- What is written is read back: the forms of rows by rising name read as those rows, in the order of the listing.
-- Assumes nothing.
use mathlib.Core.Path.{◌≡◌, refl, sym, ap, ap₂, ◌∙◌, subst}
use mathlib.Core.Bool.{Bool, true, false, cond, ◌&&◌}
use mathlib.Core.Logic.{◌⊎◌, inl, inr, ⊎_elim}
use mathlib.Core.List.{List, [], ◌∷◌, ◌++◌, reverse_aux, append_assoc}
use Prim.Native.Nat.{ℕ, zero, suc, ◌+◌, ◌*◌, ◌^◌, ◌≤◌, ◌<◌}
use native.Mathlib.Omega.{arith}
use lib.Dec.{ltb, eqb}
use lib.ListN.{length, get_or, drop, length-append, length-reverse_aux}
use lib.Seq.{drop_at}
use borrow.Author.Tests.{lt-ltb, eqb-true}
use Rattle.model.specs.declared.Cap.{Cap}
use Rattle.model.specs.Table.{is_mark}
use Rattle.model.proofs.Offered.{All, All_append, test}
use Rattle.text.specs.Class.{class_of, newline}
use Rattle.text.specs.Line.{through, after_space}
use Rattle.text.specs.Decimal.{decimal, number_from}
use Rattle.text.specs.Mask.{hex, hex_of}
use Rattle.text.specs.Event.{bytes, spaced, right_word, kind_word, fresh_word}
use Rattle.text.specs.Read.{right_of, kind_of, fresh_at}
use Rattle.listing.specs.Listing.{holding, pieces, form, children, roots, issued_line, listed, form_length, total, forms_length}
use Rattle.listing.proofs.Laws.Sorted.{preorder}
use Rattle.listing.specs.Forms.{Reading, right_text, mark_of, maker_text, mask_text, children_text, row_of, child_follows, read_form, read_run, read_line, read_lines, guess_issued}
use Rattle.text.proofs.Offered.{digits, digit_at, decimal_width, Stops, digit_class, digit_small, plain_decimal, Low, low_decimal, low_no_kind, low_no_mark, hex_back, hex_low, length_hex, next, number_is, rights, marks, right_stops, right_back, kind_back, fresh_back}
use Rattle.listing.proofs.Laws.Listing.{length_form, length_children}
use Rattle.listing.proofs.Laws.Reading.{run_on, run_off}
use Rattle.listing.proofs.Laws.Roots.{goes_on, line_more}
use Rattle.listing.proofs.Laws.Nested.{Fields, Deeper, Nested}

-- ---- the maker and the mask

-- no kind and no mark is found in front of the text x
abbrev NoWord : List ℕ → Type 0
NoWord x = (kind_of (0 ∷ 0 ∷ x) ≡ 0) × (fresh_at x 2 ≡ 0)

-- the maker and the mask, in front of the text x, are taken for neither, since no letter above `f` is among them
module _ (maker mask : ℕ) (x : List ℕ) where
  abbrev masked : List ℕ
  masked = 32 ∷ (hex 16 mask ++ x)

  low : All Low (holding maker mask)
  unfolding spaced
  low = All_append Low (spaced (maker ∷ [])) (32 ∷ hex 16 mask) (omega arith, All_append Low (decimal maker) [] (low_decimal maker) tt) (omega arith, hex_low 16 mask)

  few : 4 ≤ length (holding maker mask)
  few = omega (arith, length-append (spaced (maker ∷ [])) (32 ∷ hex 16 mask), length_hex 16 mask)

  no_word : NoWord (spaced (maker ∷ []) ++ masked)
  no_word =
      let s = holding maker mask in
      subst NoWord (append_assoc (spaced (maker ∷ [])) (32 ∷ hex 16 mask) x) (low_no_kind s x low few, low_no_mark s x low few)

-- a mark is not taken for a kind
none_marked : (m : ℕ) (x : List ℕ) → is_mark m ≡ true → NoWord x → kind_of (0 ∷ 0 ∷ (fresh_word m ++ x)) ≡ 0
none_marked m x h none = ⊎_elim (λ zero. rw zero none.0) (λ one. rw one) (marks m h)

-- what stands behind the two letters of a right, the words of a kind and a mark, and a space
words_passed : (a b : ℕ) (kind mark x : List ℕ) → drop (3 + (length kind + length mark)) (a ∷ b ∷ (kind ++ (mark ++ (32 ∷ x)))) ≡ x
words_passed a b kind mark x =
    let w = (kind ++ mark) ++ (32 ∷ []) in
    let long : length (a ∷ b ∷ w) ≡ 3 + (length kind + length mark) = simp length-append (omega arith) in
    let whole : w ++ x ≡ kind ++ (mark ++ (32 ∷ x)) = simp append_assoc in
    ap (λ (l : List ℕ). drop (3 + (length kind + length mark)) (a ∷ b ∷ l)) (sym whole) ∙ drop_at (a ∷ b ∷ w) x (3 + (length kind + length mark)) long

-- ---- a form

-- the words behind a form's bracket, in front of the text x
module _ (c : Cap) (x : List ℕ) where
  -- from the mask on, and from the maker on
  abbrev last : List ℕ
  last = masked c.maker c.holders x

  abbrev held : List ℕ
  held = spaced (c.maker ∷ []) ++ last

  abbrev behind : List ℕ
  behind = right_word c.right ++ (kind_word c.kind ++ (fresh_word c.fresh ++ held))

  abbrev text : List ℕ
  text = decimal c.name.0 ++ (spaced (c.start.0 ∷ c.length ∷ []) ++ behind)

  module _ (f : Fields c) where
    none : NoWord held
    none = no_word c.maker c.holders x

    stop : Stops behind
    stop = right_stops c.right (kind_word c.kind ++ (fresh_word c.fresh ++ held))

    start_is : after_space text ≡ decimal c.start.0 ++ (spaced (c.length ∷ []) ++ behind)
    start_is = next behind stop (decimal c.name.0) (plain_decimal c.name.0) c.start.0 (c.length ∷ [])

    length_is : after_space (after_space text) ≡ decimal c.length ++ (spaced [] ++ behind)
    length_is = ap after_space start_is ∙ next behind stop (decimal c.start.0) (plain_decimal c.start.0) c.length []

    right_is : after_space (after_space (after_space text)) ≡ after_space behind
    unfolding spaced
    right_is = ap after_space length_is ∙ plain_decimal c.length behind

    kind_is : kind_of (right_text (40 ∷ text)) ≡ c.kind
    kind_is =
        ap kind_of right_is
        ∙ kind_back (fresh_word c.fresh ++ held) (none_marked c.fresh held f.fresh none) c.right c.kind f.right f.kind

    mark_is : mark_of (40 ∷ text) ≡ c.fresh
    mark_is =
        ap₂ (λ (w : List ℕ) (k : ℕ). fresh_at w (4 + length (kind_word k))) right_is kind_is
        ∙ fresh_back held none.1 c.fresh f.fresh c.right c.kind

    -- the maker behind them, the mask behind the maker, and then the text x
    abbrev words : ℕ
    words = 3 + (length (kind_word c.kind) + length (fresh_word c.fresh))

    inner_back : drop words (after_space behind) ≡ decimal c.maker ++ (spaced [] ++ last)
    unfolding spaced through class_of
    inner_back =
        let maker = (decimal c.maker ++ []) ++ last in
        let passed : (a b : ℕ) → drop words (a ∷ b ∷ (kind_word c.kind ++ (fresh_word c.fresh ++ (32 ∷ maker)))) ≡ maker = λ a b. words_passed a b (kind_word c.kind) (fresh_word c.fresh) maker in
        ⊎_elim (λ one. rw one (passed 114 111)) (λ two. rw two (passed 114 119)) (rights c.right f.right)
        ∙ append_assoc (decimal c.maker) [] last

    maker_is : maker_text (40 ∷ text) ≡ decimal c.maker ++ (spaced [] ++ last)
    maker_is = (λ i. drop (3 + (length (kind_word (kind_is i)) + length (fresh_word (mark_is i)))) (right_is i)) ∙ inner_back

    mask_is : mask_text (40 ∷ text) ≡ hex 16 c.holders ++ x
    unfolding spaced through class_of
    mask_is = ap after_space maker_is ∙ plain_decimal c.maker last

    last_stops : Stops last
    unfolding number_from class_of
    last_stops = λ v. refl

    row_back : row_of (40 ∷ text) c.parent.0 c.depth ≡ c
    row_back = λ i. record {
      name = record { 0 = number_is behind stop c.name.0 (c.start.0 ∷ c.length ∷ []) f.name refl i };
      parent = c.parent;
      start = record { 0 = number_is behind stop c.start.0 (c.length ∷ []) f.start start_is i };
      length = number_is behind stop c.length [] f.length length_is i;
      right = (ap right_of right_is ∙ right_back c.right (kind_word c.kind ++ (fresh_word c.fresh ++ held)) f.right) i;
      depth = c.depth;
      kind = kind_is i;
      fresh = mark_is i;
      maker = number_is last last_stops c.maker [] f.maker maker_is i;
      holders = (ap hex_of mask_is ∙ hex_back c.holders x f.holders) i;
    }

    children_back : children_text (40 ∷ text) ≡ x
    children_back = ap (drop 16) mask_is ∙ drop_at (hex 16 c.holders) x 16 (length_hex 16 c.holders)

    -- a form, read from its bracket on, where its run of children is read back
    form_back : (k : ℕ) (y : List ℕ) (acc after : List Cap) → read_run k c.name.0 c.depth (record { rest = x; rows = c ∷ acc }) ≡ record { rest = 41 ∷ y; rows = after }
        → read_form (suc k) c.parent.0 c.depth (record { rest = 40 ∷ text; rows = acc }) ≡ record { rest = y; rows = after }
    unfolding read_form
    form_back k y acc after back =
        ap (λ (r : Reading). record { rest = drop 1 r.rest; rows = r.rows })
        ((λ i. read_run k (row_back i).name.0 c.depth (record { rest = children_back i; rows = row_back i ∷ acc })) ∙ back)

-- a form's bytes, in front of the text t
form_spelled : (c : Cap) (inner t : List ℕ) → form c inner ++ t ≡ 40 ∷ text c (inner ++ (41 ∷ t))
unfolding form pieces
form_spelled c inner t = simp append_assoc

-- ---- a run

no_child : (u : List ℕ) (acc : List Cap) (d : ℕ) → get_or u 0 0 ≡ 41 → child_follows d (record { rest = u; rows = acc }) ≡ false
no_child u acc d h = rw h (go (ltb d 64) (ltb (length acc) 1024))
  where
    go : (a b : Bool) → (a && (b && false)) ≡ false
    go true true = refl
    go true false = refl
    go false b = refl

-- a form behind a space, and the run behind it
one_back : (c : Cap) (k p d : ℕ) (acc mid after : List Cap) (inner beside u : List ℕ) → Fields c → c.parent.0 ≡ p → c.depth ≡ d + 1 → d < 64 → length acc < 1024
    → read_run k c.name.0 c.depth (record { rest = inner ++ (41 ∷ (beside ++ u)); rows = c ∷ acc }) ≡ record { rest = 41 ∷ (beside ++ u); rows = mid }
    → read_run (suc k) p d (record { rest = beside ++ u; rows = mid }) ≡ record { rest = u; rows = after }
    → read_run (suc (suc k)) p d (record { rest = (32 ∷ (form c inner ++ beside)) ++ u; rows = acc }) ≡ record { rest = u; rows = after }
one_back c k p d acc mid after inner beside u f ep ed deep room one more =
    let spelled : (form c inner ++ beside) ++ u ≡ 40 ∷ text c (inner ++ (41 ∷ (beside ++ u))) = append_assoc (form c inner) beside u ∙ form_spelled c inner (beside ++ u) in
    let r : Reading = record { rest = (32 ∷ (form c inner ++ beside)) ++ u; rows = acc } in
    let follow : child_follows d r ≡ true = rw (lt-ltb d 64 deep, lt-ltb (length acc) 1024 room) in
    let formed = form_back c (inner ++ (41 ∷ (beside ++ u))) f k (beside ++ u) acc mid one in
    let read : read_form (suc k) p (d + 1) (record { rest = (form c inner ++ beside) ++ u; rows = acc }) ≡ record { rest = beside ++ u; rows = mid } =
    (λ i. read_form (suc k) (sym ep i) (sym ed i) (record { rest = spelled i; rows = acc })) ∙ formed in
    run_on (suc k) p d r follow ∙ ap (read_run (suc k) p d) read ∙ more

aux_append : (a b r : List Cap) → reverse_aux (a ++ b) r ≡ reverse_aux b (reverse_aux a r)
aux_append [] b r = refl
aux_append (x ∷ a) b r = aux_append a b (x ∷ r)

pub run_back : (rows : List Cap) → Nested rows → All Fields rows → (k p d : ℕ) (acc : List Cap) (u : List ℕ) → All (Deeper p d) rows → 1 + 2 * length (preorder p rows) ≤ k → length acc + length (preorder p rows) ≤ 1024
    → get_or u 0 0 ≡ 41 → read_run k p d (record { rest = children p rows ++ u; rows = acc }) ≡ record { rest = u; rows = reverse_aux (preorder p rows) acc }
unfolding children preorder
run_back [] ne fs zero p d acc u good h len end = absurd (omega arith)
run_back [] ne fs (suc k) p d acc u good h len end = run_off k p d (record { rest = u; rows = acc }) (no_child u acc d end)
run_back (c ∷ rows) ne fs k p d acc u good h len end =
    go (test (eqb c.parent.0 p)) k (λ k p d acc u. run_back rows ne.1 fs.1 k p d acc u) h len
  where
    n : ℕ
    n = c.name.0

    a : List Cap
    a = preorder n rows

    b : List Cap
    b = preorder p rows

    count : length (c ∷ (a ++ b)) ≡ suc (length a + length b)
    count = ap suc (length-append a b)

    IH : Type 0
    IH = (k p d : ℕ) (acc : List Cap) (u : List ℕ) → All (Deeper p d) rows → 1 + 2 * length (preorder p rows) ≤ k → length acc + length (preorder p rows) ≤ 1024
        → get_or u 0 0 ≡ 41 → read_run k p d (record { rest = children p rows ++ u; rows = acc }) ≡ record { rest = u; rows = reverse_aux (preorder p rows) acc }

    yes : c.parent.0 ≡ p → (k : ℕ) → IH → 1 + 2 * length (c ∷ (a ++ b)) ≤ k → length acc + length (c ∷ (a ++ b)) ≤ 1024
        → read_run k p d (record { rest = (32 ∷ (form c (children n rows) ++ children p rows)) ++ u; rows = acc }) ≡ record { rest = u; rows = reverse_aux (c ∷ (a ++ b)) acc }
    yes e zero ih h len = absurd (omega arith)
    yes e (suc zero) ih h len = absurd (omega (arith, count))
    yes e (suc (suc k)) ih h len =
        let own = good.0 e in
        let mid : List Cap = reverse_aux a (c ∷ acc) in
        let long : length mid ≡ length a + suc (length acc) = length-reverse_aux a (c ∷ acc) in
        let one = ih k n c.depth (c ∷ acc) (41 ∷ (children p rows ++ u)) ne.0 (omega (arith, count)) (omega (arith, count)) refl in
        let more = ih (suc k) p d mid u good.1 (omega (arith, count)) (omega (arith, count, long)) end in
        one_back c k p d acc mid (reverse_aux b mid) (children n rows) (children p rows) u fs.0 e own.0 own.1 (omega (arith, count)) one more
        ∙ (λ i. record { rest = u; rows = sym (aux_append a b (c ∷ acc)) i })

    go : (eqb c.parent.0 p ≡ true) ⊎ (eqb c.parent.0 p ≡ false) → (k : ℕ) → IH
        → 1 + 2 * length (cond (eqb c.parent.0 p) (c ∷ (a ++ b)) b) ≤ k → length acc + length (cond (eqb c.parent.0 p) (c ∷ (a ++ b)) b) ≤ 1024
        → read_run k p d (record { rest = cond (eqb c.parent.0 p) (32 ∷ (form c (children n rows) ++ children p rows)) (children p rows) ++ u; rows = acc })
        ≡ record { rest = u; rows = reverse_aux (cond (eqb c.parent.0 p) (c ∷ (a ++ b)) b) acc }
    go (inl t) k ih h len = rw t (yes (eqb-true c.parent.0 p t) k ih (rw t at h) (rw t at len))
    go (inr f) k ih h len = rw f (ih k p d acc u good.1 (rw f at h) (rw f at len) end)

-- ---- the lines of the roots

forms_long : (l : List Cap) → length l ≤ forms_length l
unfolding total form_length
forms_long [] = omega arith
forms_long (c ∷ l) = omega (arith, forms_long l)

no_line : (k : ℕ) (acc : List Cap) → read_lines k (record { rest = []; rows = acc }) ≡ acc
unfolding read_lines
no_line zero acc = refl
no_line (suc k) acc = refl

-- a root's line
line_back : (c : Cap) (acc mid : List Cap) (inner after : List ℕ) → Fields c → c.parent.0 ≡ 0 → c.depth ≡ 1
    → ((k : ℕ) → 2 * length inner < k → read_run k c.name.0 c.depth (record { rest = inner ++ (41 ∷ (10 ∷ after)); rows = c ∷ acc }) ≡ record { rest = 41 ∷ (10 ∷ after); rows = mid })
    → read_line (record { rest = form c inner ++ (10 ∷ after); rows = acc }) ≡ record { rest = after; rows = mid }
line_back c acc mid inner after f ep ed one =
    let s = form c inner ++ (10 ∷ after) in
    let long : length inner ≤ length s = omega (arith, length-append (form c inner) (10 ∷ after), length_form c inner) in
    let formed = form_back c (inner ++ (41 ∷ (10 ∷ after))) f (2 * length s + 1) (10 ∷ after) acc mid (one (2 * length s + 1) (omega arith)) in
    let fuel : 2 * length s + 2 ≡ suc (2 * length s + 1) = omega arith in
    ap (λ (r : Reading). record { rest = drop 1 r.rest; rows = r.rows })
    ((λ i. read_form (fuel i) (sym ep i) (sym ed i) (record { rest = form_spelled c inner (10 ∷ after) i; rows = acc })) ∙ formed)

pub lines_back : (rows : List Cap) → Nested rows → All Fields rows → All (λ x. x.parent.0 ≡ 0 → x.depth ≡ 1) rows → (k : ℕ) (acc : List Cap) → length (preorder 0 rows) ≤ k → length acc + length (preorder 0 rows) ≤ 1024
    → read_lines k (record { rest = roots rows; rows = acc }) ≡ reverse_aux (preorder 0 rows) acc
unfolding roots preorder
lines_back [] ne fs ds k acc h len = no_line k acc
lines_back (c ∷ rows) ne fs ds k acc h len = go (test (eqb c.parent.0 0)) k (λ k acc. lines_back rows ne.1 fs.1 ds.1 k acc) h len
  where
    n : ℕ
    n = c.name.0

    a : List Cap
    a = preorder n rows

    b : List Cap
    b = preorder 0 rows

    count : length (c ∷ (a ++ b)) ≡ suc (length a + length b)
    count = ap suc (length-append a b)

    IH : Type 0
    IH = (k : ℕ) (acc : List Cap) → length (preorder 0 rows) ≤ k → length acc + length (preorder 0 rows) ≤ 1024 → read_lines k (record { rest = roots rows; rows = acc }) ≡ reverse_aux (preorder 0 rows) acc

    yes : c.parent.0 ≡ 0 → (k : ℕ) → IH → length (c ∷ (a ++ b)) ≤ k → length acc + length (c ∷ (a ++ b)) ≤ 1024
        → read_lines k (record { rest = form c (children n rows) ++ (10 ∷ roots rows); rows = acc }) ≡ reverse_aux (c ∷ (a ++ b)) acc
    yes e zero ih h len = absurd (omega (arith, count))
    yes e (suc k) ih h len =
        let mid : List Cap = reverse_aux a (c ∷ acc) in
        let long : length mid ≡ length a + suc (length acc) = length-reverse_aux a (c ∷ acc) in
        let short : length a ≤ length (children n rows) = omega (arith, length_children n rows, forms_long a) in
        let one = line_back c acc mid (children n rows) (roots rows) fs.0 e (ds.0 e) (λ j big. run_back rows ne.1 fs.1 j n c.depth (c ∷ acc) (41 ∷ (10 ∷ roots rows)) ne.0 (omega arith) (omega (arith, count)) refl) in
        let start : Reading = record { rest = form c (children n rows) ++ (10 ∷ roots rows); rows = acc } in
        let some : 0 < length (form c (children n rows) ++ (10 ∷ roots rows)) = omega (arith, length-append (form c (children n rows)) (10 ∷ roots rows)) in
        line_more k start (goes_on start some (omega (arith, count)))
        ∙ ap (read_lines k) one
        ∙ ih k mid (omega (arith, count)) (omega (arith, count, long))
        ∙ sym (aux_append a b (c ∷ acc))

    go : (eqb c.parent.0 0 ≡ true) ⊎ (eqb c.parent.0 0 ≡ false) → (k : ℕ) → IH
        → length (cond (eqb c.parent.0 0) (c ∷ (a ++ b)) b) ≤ k → length acc + length (cond (eqb c.parent.0 0) (c ∷ (a ++ b)) b) ≤ 1024
        → read_lines k (record { rest = cond (eqb c.parent.0 0) (form c (children n rows) ++ (10 ∷ roots rows)) (roots rows); rows = acc })
        ≡ reverse_aux (cond (eqb c.parent.0 0) (c ∷ (a ++ b)) b) acc
    go (inl t) k ih h len = rw t (yes (eqb-true c.parent.0 0 t) k ih (rw t at h) (rw t at len))
    go (inr f) k ih h len = rw f (ih k acc (rw f at h) (rw f at len))

-- ---- the issued number and the lines behind it

abbrev after_line : List ℕ → List ℕ
after_line s = drop (through newline s) s

line_digits : (n k : ℕ) (t : List ℕ) → after_line (digits 10 n k ++ t) ≡ after_line t
unfolding digits through
line_digits n zero t = refl
line_digits n (suc k) t = rw (digit_class (digit_at 10 n k) (digit_small n k)) (line_digits n k t)

line_decimal : (n : ℕ) (t : List ℕ) → after_line (decimal n ++ t) ≡ after_line t
line_decimal n t =
    let r = decimal_width n in
    rw r.2 (line_digits n (suc r.0) t)

issued_spelled : (issued : ℕ) (t : List ℕ) → issued_line issued ++ t ≡ bytes "(issued" ++ (spaced (issued ∷ []) ++ (bytes ")\n" ++ t))
issued_spelled issued t = simp append_assoc

pub lines_behind : (issued : ℕ) (t : List ℕ) → after_line (issued_line issued ++ t) ≡ t
unfolding spaced through class_of
lines_behind issued t = ap after_line (issued_spelled issued t) ∙ ap after_line (append_assoc (decimal issued) [] (bytes ")\n" ++ t)) ∙ line_decimal issued (bytes ")\n" ++ t)

pub issued_back : (rows : List Cap) (issued : ℕ) → issued < 2 ^ 32 → guess_issued (listed rows issued) ≡ issued
unfolding listed through class_of number_from
issued_back rows issued h =
    let e = bytes ")\n" ++ roots rows in
    number_is e (λ v. refl) issued [] h (ap after_space (issued_spelled issued (roots rows)) ∙ next e (λ v. refl) (bytes "(issued") (λ t. refl) issued [])
