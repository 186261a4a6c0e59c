use Rattle.std.proofs.Common.{◌≡◌, ◌+◌, ◌<◌, ◌≤◌, ℕ, suc, List, ◌++◌, arith, ap, ◌∙◌}
use lib.ListN.{length, get_or, set, take, drop, drop_of_length-le}
use Rattle.std.proofs.lemmas.List.{append-nil, take_all}
use lib.Seq.{paste-suc}
use Rattle.text.proofs.pieces.copy_over.Goals as goal

copied_more : {X : Type 0} (to from : List X) (i : ℕ) (x : X) → i < length to → i < length from → set (take i from ++ drop i to) i (get_or from i x) ≡ take (i + 1) from ++ drop (i + 1) to
copied_more to from i x fits there =
    let here : 0 + i ≡ i = omega arith in
    let next : 0 + suc i ≡ suc i = omega arith in
    let more : i + 1 ≡ suc i = omega arith in
    let room : 0 + i < length to = omega (arith, fits) in
    rw more (rw (here, next) at (paste-suc to 0 from i x room there))

pub loop-i-preserved : goal.loop-i-preserved
loop-i-preserved g c =
    let x = c.index-from-i.result in
    ap (λ xs. set xs c.loop-i.i x) c.loop-i.invariant
    ∙ ap (set (take c.loop-i.i c.args.from.now ++ drop c.loop-i.i c.args.to.now) c.loop-i.i) c.index-from-i.is
    ∙ copied_more c.args.to.now c.args.from.now c.loop-i.i x (omega (arith, c.requires, c.loop-i-test.true)) c.loop-i-test.true

pub returns : goal.returns
returns g c =
    let from = c.args.from.now in
    let long : length c.args.to.now ≤ c.loop-i.i = omega (arith, c.requires, c.loop-i-test.false) in
    let past = drop_of_length-le c.args.to.now long in
    c.loop-i.invariant ∙ rw (take_all c.loop-i.i from c.loop-i-test.false, past) (append-nil from)
