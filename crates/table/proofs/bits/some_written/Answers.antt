-- `some_written` meets its contract.
-- Assumes nothing.
use Rattle.std.proofs.Common.{rules, ◌∙◌, ◌≡◌, ℕ, Bool, refl, ◌-◌, ◌/◌, ◌%◌, get_or}
use borrow.Author.Tests.{tests}
use Rattle.std.specs.List.{list_all, range_with_len}
use Rattle.std.proofs.lemmas.Iterator.{YieldsList-from_range}
use Rattle.std.proofs.lemmas.Iterator.Search.{all_from_yields_List}
use Rattle.model.specs.Bits.{has_bit, bit_at}
use Rattle.table.proofs.Laws.Bits.{all_in_turn}
use Rattle.table.proofs.bits.some_written.Goals as goal

pub returns : goal.returns
unfolding bit_at
returns c =
    let test : ℕ → Bool = λ a. has_bit (get_or c.args.bits.now (a / 8) 0) (a % 8) in
    let n = c.args.to - c.args.from in
    let e : c.all.result ≡ list_all test (range_with_len c.args.from n) = all_from_yields_List test _ _ c.all.result c.all.ensures.ran (YieldsList-from_range c.args.from c.args.to n refl refl) (λ x b q k. search (rules, tests)) in
    e ∙ all_in_turn test c.args.from n
