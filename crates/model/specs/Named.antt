-- Card 1, "names written out": requests with their right names, and without names. Names dropped together make none.
-- Assumes nothing.
use Rattle.std.specs.Prelude.{ℕ, suc, List, [], ◌∷◌, None, Some}
use Rattle.model.specs.declared.Event.TheVariants.{Create, Borrow, Read, Write, Drop}
use Rattle.model.specs.Requests.{Request, Single, Group, Mark, Back}
use Rattle.model.specs.Effects.{issued_after}

-- a request that writes no name
unfoldable pub unnamed : Request → Request
unnamed (Single by (Create w s r)) = Single by (Create None s r)
unnamed (Single by (Borrow w u s r)) = Single by (Borrow None u s r)
unnamed (Single by (Read u s)) = Single by (Read u s)
unnamed (Single by (Write u s)) = Single by (Write u s)
unnamed (Single by (Drop u)) = Single by (Drop u)
unnamed (Group by names) = Group by names
unnamed (Mark by k) = Mark by k
unnamed (Back by k) = Back by k

-- the same that writes the right name, "the issued number plus one", when so many names have been issued
unfoldable pub rightly_named : ℕ → Request → Request
rightly_named issued (Single by (Create w s r)) = Single by (Create (Some (record { 0 = suc issued })) s r)
rightly_named issued (Single by (Borrow w u s r)) = Single by (Borrow (Some (record { 0 = suc issued })) u s r)
rightly_named issued (Single by (Read u s)) = Single by (Read u s)
rightly_named issued (Single by (Write u s)) = Single by (Write u s)
rightly_named issued (Single by (Drop u)) = Single by (Drop u)
rightly_named issued (Group by names) = Group by names
rightly_named issued (Mark by k) = Mark by k
rightly_named issued (Back by k) = Back by k

-- requests in turn with their right names, where each before the next is allowed
unfoldable pub all_rightly_named : ℕ → List Request → List Request
all_rightly_named issued [] = []
all_rightly_named issued (q ∷ qs) = rightly_named issued q ∷ all_rightly_named (issued_after issued q) qs
