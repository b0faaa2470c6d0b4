-- proofs.Ways      what each way through a call owes
-- proofs.Unique    no second answer satisfies a promise
pub mod Ways
pub mod Unique
