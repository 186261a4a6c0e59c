-- `text::read::from_name` meets its contract.
-- Assumes nothing.
use Rattle.text.proofs.read.from_name.Goals as goal

pub returns-in-Named : goal.returns-in-Named
returns-in-Named c = rw c.in-Named.is c.after_space.ensures
