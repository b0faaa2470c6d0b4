-- proofs.Laws         what has to be shown for each way through a function
-- proofs.Unique       no contract has a second answer
-- proofs.After        what is true after each call: laws for callers
-- proofs.Bounds       what a call leaves and answers is in bounds: laws for callers that keep it in bytes
-- proofs.Room         what `try_write_data_all` says to be missing, and the call made again with more room
-- proofs.Telling      what the command step is told matters exactly for READ (16) and WRITE (16)
-- proofs.Computing    what cases compute with
-- proofs.Cases        the cases of specs/Cases.antt hold
pub mod Laws
pub mod Unique
pub mod After
pub mod Bounds
pub mod Room
pub mod Telling
pub mod Computing
pub mod Cases
