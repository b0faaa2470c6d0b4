-- proofs.Laws         what each way through a function owes
-- proofs.After        what holds after an event, for the loop over all of them
-- proofs.Loop         how far the loop has come, and what each of its ways owes
-- proofs.Prints       one line is written for each event of a good file
-- proofs.Unique       no second answer satisfies a contract
-- proofs.Computing    what cases compute with
-- proofs.Cases        the cases of specs/Cases.antt hold
pub mod Laws
pub mod After
pub mod Loop
pub mod Prints
pub mod Unique
pub mod Computing
pub mod Cases
