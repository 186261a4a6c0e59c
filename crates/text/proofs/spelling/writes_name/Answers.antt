-- `text::spelling::writes_name` meets its contract: a new name is written exactly where there is one.
-- Assumes nothing.
use Rattle.std.specs.Prelude.{◌≡◌, Bool, not, Option, None, Some, is_some}
use mathlib.Core.Path.{refl, sym, ◌∙◌}
use borrow.Author.Tests.{not-true, not-false}
use Rattle.model.specs.declared.Name.{Name}
use Rattle.text.specs.declared.spelling.Spelling.TheVariants.{Plain, Named}
use Rattle.text.specs.Event.{writes_name}
use Rattle.text.proofs.spelling.writes_name.Goals as goal

plainly : (new : Option Name) (b : Bool) → is_some new ≡ not b → b ≡ writes_name Plain new
unfolding writes_name
plainly None b e = not-false b (sym e)
plainly (Some x) b e = not-true b (sym e)

named : (new : Option Name) → is_some new ≡ writes_name Named new
unfolding writes_name
named None = refl
named (Some x) = refl

pub returns-in-Plain : goal.returns-in-Plain
returns-in-Plain c = rw c.in-Plain.is (plainly c.args.new c.is_none.result c.is_none.ensures)

pub returns-in-Named : goal.returns-in-Named
returns-in-Named c = rw c.in-Named.is (c.is_some.ensures ∙ named c.args.new)
