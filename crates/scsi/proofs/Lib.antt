-- These laws belong to no single function.
--     Laws         the table's rule, once for any table; and which blocks are known
--     Telling      what is told matters exactly for READ (16) and WRITE (16)
--     Six          a command as six numbers: the plain entry is the one that is told 1
--     Unique       no contract has a second answer
--     Computing    what cases compute with
--     Cases        the cases of specs/Cases.antt hold
pub mod Laws
pub mod Telling
pub mod Six
pub mod Unique
pub mod Computing
pub mod Cases
