-- proofs.Lending    what follows from the test whether the bytes that a call is lent are a record
-- proofs.Parts      a result determines each of its parts
-- proofs.Upper      bits 32 to 63 of a result
-- proofs.Reading    what a caller reads off a result is what was put into it
-- proofs.Cases      the cases of specs/Cases.antt hold
-- proofs.Unique     no second answer satisfies a promise
pub mod Lending
pub mod Parts
pub mod Upper
pub mod Reading
pub mod Cases
pub mod Unique
