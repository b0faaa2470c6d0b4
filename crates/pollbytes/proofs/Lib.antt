-- proofs.Short     a poll that goes the short way is 01's poll
-- proofs.Unique    no second answer satisfies the promise
pub mod Short
pub mod Unique
