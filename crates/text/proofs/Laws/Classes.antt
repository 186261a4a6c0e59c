-- Document 01, "The bracket text": "Each of the 256 byte values has a class in a fixed table: 1 digit, 2 lower-case letter, 3 space, 4 opening
-- bracket, 5 closing bracket, 6 newline, 0 any other." What `class_of` gives, worded three times more and computed: by the bytes that the
-- grammar uses, by how many bytes have each class, and by the runs of bytes in order.
-- Assumes nothing.
use mathlib.Core.Path.{◌≡◌, refl}
use mathlib.Core.Bool.{Bool, true}
use mathlib.Core.List.{List, [], ◌∷◌, ◌++◌, map}
use Prim.Native.Nat.{ℕ}
use Prim.Native.String.{String}
use lib.Dec.{eqb}
use lib.ListN.{length, replicate}
use Rattle.model.specs.Lists.{filter, all}
use Rattle.text.specs.Class.{class_of}
use Rattle.text.specs.Event.{bytes}
use Rattle.text.proofs.Laws.Table.{values}

-- every byte of a text has this class
abbrev pub have_class : ℕ → String → Bool
have_class c text = all (λ b. eqb (class_of b) c) (bytes text)

-- the 256 byte values
abbrev pub byte_values : List ℕ
byte_values = values (λ b. b) 0 256

-- how many of them have this class
abbrev pub how_many : ℕ → ℕ
how_many c = length (filter (λ b. eqb (class_of b) c) byte_values)

-- ---- the bytes of the grammar by name

pub digits : have_class 1 "0123456789" ≡ true
unfolding class_of
digits = refl

pub letters : have_class 2 "abcdefghijklmnopqrstuvwxyz" ≡ true
unfolding class_of
letters = refl

pub marks : (have_class 3 " " ≡ true) × (have_class 4 "(" ≡ true) × (have_class 5 ")" ≡ true) × (have_class 6 "\n" ≡ true)
unfolding class_of
marks = (refl, refl, refl, refl)

-- the words of events, of rights, of card 1's first line, of listings, and of what capcheck prints
pub words : all (have_class 2) ("create" ∷ "borrow" ∷ "read" ∷ "write" ∷ "drop" ∷ "ro" ∷ "rw" ∷ "trace" ∷ "issued" ∷ "allowed" ∷ "refused" ∷ "long" ∷ []) ≡ true
unfolding class_of
words = refl

-- ---- how many bytes have each class, from 0 to 6

pub counts : map how_many (0 ∷ 1 ∷ 2 ∷ 3 ∷ 4 ∷ 5 ∷ 6 ∷ []) ≡ 216 ∷ 10 ∷ 26 ∷ 1 ∷ 1 ∷ 1 ∷ 1 ∷ []
unfolding class_of
counts = refl

-- ---- the whole table, in runs

pub runs : map class_of byte_values
    ≡ replicate 10 0
    ++ (6 ∷ [])
    ++ replicate 21 0
    ++ (3 ∷ [])
    ++ replicate 7 0
    ++ (4 ∷ 5 ∷ [])
    ++ replicate 6 0
    ++ replicate 10 1
    ++ replicate 39 0
    ++ replicate 26 2
    ++ replicate 133 0
unfolding class_of
runs = refl
