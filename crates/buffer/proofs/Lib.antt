-- These laws belong to no single function. The proofs here and those of the crates above use them.
--     Kept            each call keeps the number of bytes, and sound marks
--     Room, Unread    how much fits; what is unread after each call
--     Ways            what each way through a function owes
--     Chunks          a copy in chunks is one overlay
--     Unique          no contract has a second answer
--     Computing       what cases compute with
--     Cases           the cases of specs/Cases.antt hold
pub mod Kept
pub mod Room
pub mod Unread
pub mod Ways
pub mod Chunks
pub mod Unique
pub mod Computing
pub mod Cases
