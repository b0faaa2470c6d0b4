-- proofs.Chain    how many handlers a chain may call
-- proofs.Numbers  a state and its number
-- proofs.Unique   no second answer satisfies a promise
pub mod Chain
pub mod Numbers
pub mod Unique
