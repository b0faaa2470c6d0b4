-- These laws belong to no single function. The proofs here and those of the crates above use them.
--     Csw, Cbw     the status and the wrapper
--     Numbers      a direction and its number, a status and its number
--     Judged       the verdict
--     Reserved     reserved bits: what they do to the verdict, and that the parser does not see them
--     Unique       no contract has a second answer
--     Computing    what cases compute with
--     Cases        the cases of specs/Cases.antt hold
pub mod Csw
pub mod Cbw
pub mod Numbers
pub mod Judged
pub mod Reserved
pub mod Unique
pub mod Computing
pub mod Cases
