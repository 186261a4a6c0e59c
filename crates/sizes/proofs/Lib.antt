-- The laws that the proofs of several functions cite, and the theorems about the definitions.
mod Laws
