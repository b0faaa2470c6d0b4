-- proofs.Types       the plain types of the calls here
-- proofs.Promises    what the law is given for each call
-- proofs.Unique      no contract has a second answer
pub mod Types
pub mod Promises
pub mod Unique
