-- proofs.Round     a poll through the whole ring
-- proofs.Unique    no second answer satisfies the promise
pub mod Round
pub mod Unique
