-- `text::pieces::put_line` meets its contract: three pieces put one behind the other are the line.
-- Assumes nothing.
use mathlib.Core.Path.{◌≡◌}
use mathlib.Core.List.{List, ◌++◌}
use Prim.Native.Nat.{ℕ, ◌+◌}
use native.Mathlib.Omega.{arith}
use lib.ListN.{length, length-append}
use Rattle.text.specs.Event.{bytes, spaced}
use Rattle.text.proofs.Laws.Put.{put_length, put_three}
use Rattle.text.proofs.pieces.put_line.Goals as goal

-- the line has as many bytes as its three pieces
parts : (word numbers : List ℕ) → length (word ++ (spaced numbers ++ bytes ")\n")) ≡ length word + length (spaced numbers) + 2
parts word numbers = simp length-append (omega arith)

pub put_bytes-past_word-requires : goal.put_bytes-past_word-requires
put_bytes-past_word-requires c =
    let a = c.args in
    omega (arith, parts a.word.now a.numbers.now)

pub put_numbers-past_numbers-requires : goal.put_numbers-past_numbers-requires
put_numbers-past_numbers-requires c =
    let a = c.args in
    omega (arith, parts a.word.now a.numbers.now, c.put_bytes-past_word.ensures.moved, put_length c.put_bytes-past_word.ensures)

pub put_bytes-requires : goal.put_bytes-requires
put_bytes-requires c =
    let a = c.args in
    omega (arith, parts a.word.now a.numbers.now, c.put_numbers-past_numbers.ensures.moved, put_length c.put_numbers-past_numbers.ensures, c.put_bytes-past_word.ensures.moved, put_length c.put_bytes-past_word.ensures)

pub returns : goal.returns
returns c =
    put_three c.put_bytes-past_word.ensures c.put_numbers-past_numbers.ensures c.put_bytes.ensures
