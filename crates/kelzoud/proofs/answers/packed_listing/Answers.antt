-- `kelzoud::answers::packed_listing` meets its contract: each case by its number and its value.
-- Assumes nothing.
use Rattle.std.specs.Prelude.{ℕ, Result}
use Rattle.model.specs.declared.Refusal.{Refusal}
use mathlib.Core.Path.{◌∙◌, sym, ap}
use Rattle.listing.specs.ReadInto.{listing_answer}
use Rattle.kelzoud.specs.Interface.{packed_read}
use Rattle.kelzoud.proofs.answers.packed_listing.Goals as goal

pub returns-in-Ok : goal.returns-in-Ok
returns-in-Ok c = c.pack.ensures ∙ ap (λ (a : Result ℕ Refusal). packed_read (listing_answer a)) (sym c.in-Ok.is)

pub returns-in-Err : goal.returns-in-Err
returns-in-Err c = c.pack_refusal.ensures ∙ ap (λ (a : Result ℕ Refusal). packed_read (listing_answer a)) (sym c.in-Err.is)
