-- proofs.Laws         what each way through a function owes
-- proofs.Unique       no second answer satisfies the contract of `act`
-- proofs.Telling      what a command step is told decides what it offers, and nothing else
-- proofs.Computing    what cases compute with
-- proofs.Cases        the cases of specs/Cases.antt hold
pub mod Laws
pub mod Unique
pub mod Telling
pub mod Computing
pub mod Cases
