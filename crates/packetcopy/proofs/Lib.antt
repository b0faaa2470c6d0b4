-- proofs.Sizes      what each way through the function owes, by the packet size
-- proofs.Unique     no second answer satisfies the promise
pub mod Sizes
pub mod Unique
