-- `text::write::put_start` meets its contract: three pieces put one behind the other are the start of a line.
-- Assumes nothing.
use mathlib.Core.Path.{◌≡◌}
use mathlib.Core.List.{List, ◌++◌}
use Prim.Native.Nat.{ℕ, ◌+◌}
use native.Mathlib.Omega.{arith}
use lib.ListN.{length, length-append}
use Rattle.text.specs.Event.{spaced, front}
use Rattle.text.proofs.Laws.Put.{put_length, put_three}
use Rattle.text.proofs.write.put_start.Goals as goal

-- the start has as many bytes as its three pieces
parts : (actor : ℕ) (word numbers : List ℕ) → length (front actor ++ (word ++ spaced numbers)) ≡ length (front actor) + length word + length (spaced numbers)
parts actor word numbers = simp length-append (omega arith)

pub put_front-past_front-requires : goal.put_front-past_front-requires
put_front-past_front-requires c =
    let a = c.args in
    omega (arith, parts a.actor a.word.now a.numbers.now)

pub put_bytes-past_word-requires : goal.put_bytes-past_word-requires
put_bytes-past_word-requires c =
    let a = c.args in
    omega (arith, parts a.actor a.word.now a.numbers.now, c.put_front-past_front.ensures.moved, put_length c.put_front-past_front.ensures)

pub put_numbers-requires : goal.put_numbers-requires
put_numbers-requires c =
    let a = c.args in
    omega (arith, parts a.actor a.word.now a.numbers.now, c.put_bytes-past_word.ensures.moved, put_length c.put_bytes-past_word.ensures, c.put_front-past_front.ensures.moved, put_length c.put_front-past_front.ensures)

pub returns : goal.returns
returns c =
    put_three c.put_front-past_front.ensures c.put_bytes-past_word.ensures c.put_numbers.ensures
