-- proofs.Opening      what has to be shown for each way through opening
-- proofs.Acting       what has to be shown for each way through an act
-- proofs.Same         to open, decide and act is the poll of document 01
-- proofs.Polling      what has to be shown for each way through a poll
-- proofs.Unique       no second answer satisfies a promise
-- proofs.Keeping      what no poll changes: a whole record stays whole, sizes and lengths stay; what is missing
-- proofs.After        what is unread, left and sent after each way in which a poll can end
-- proofs.Room         a poll that lacked room, made again with more
-- proofs.Computing    what cases compute with
-- proofs.Cases        the cases of specs/Cases.antt hold
pub mod Opening
pub mod Acting
pub mod Same
pub mod Polling
pub mod Unique
pub mod Keeping
pub mod After
pub mod Room
pub mod Computing
pub mod Cases
