-- These are laws for the proofs of every crate.
--     Bools, Seq    tests and lists
--     UpTo          every number up to a given one
--     Overlay       a list laid over a part of another, and the loops that do it
--     Field         numbers in bytes: one law for each fact, at every width
--     Bits          bits of one byte, in the same way
--     Tiled         fields that leave no gap decide a message
--     Case          how a table of cases is shown to hold; tables can be joined
--     Wrong         a table with a wrong case does not hold
--     Only          what it means that a contract has no second answer
--     Unique        no contract of this crate has one
--     Computing     what cases compute with
--     Cases         the cases of specs/Cases.antt hold
pub mod Bools
pub mod Seq
pub mod UpTo
pub mod Overlay
pub mod Field
pub mod Bits
pub mod Tiled
pub mod Case
pub mod Wrong
pub mod Only
pub mod Unique
pub mod Computing
pub mod Cases
