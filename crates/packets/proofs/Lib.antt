-- proofs.Laws         what has to be shown for each way through a function
-- proofs.Unique       no second answer satisfies a promise
-- proofs.Computing    what cases compute with
pub mod Laws
pub mod Unique
pub mod Computing
