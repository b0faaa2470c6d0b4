-- proofs.Entering    the poll that sends the status is 01's poll
-- proofs.Going       polls in the middle of a transfer are 01's polls
-- proofs.Unique      no second answer satisfies a promise
pub mod Entering
pub mod Going
pub mod Unique
