-- proofs.Front        what stands at the front of some bytes
-- proofs.Lists        lists of events
-- proofs.Walked       the walk from event to event
-- proofs.Judged       the trailer and the verdict
-- proofs.Yields       a good file's events are read at their offsets, and are its only ones
-- proofs.Unique       no second answer satisfies a contract
-- proofs.Computing    what cases compute with
-- proofs.Cases        the cases of specs/Cases.antt hold
pub mod Front
pub mod Lists
pub mod Walked
pub mod Judged
pub mod Yields
pub mod Unique
pub mod Computing
pub mod Cases
