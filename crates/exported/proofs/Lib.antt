-- proofs.Unique       no second answer satisfies a promise
-- proofs.Computing    what cases compute with
-- proofs.Cases        the cases of specs/Cases.antt hold
pub mod Unique
pub mod Computing
pub mod Cases
