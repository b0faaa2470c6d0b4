-- proofs.Laws         what a creation tells its caller
-- proofs.Wholly       what follows for a whole record; the test says whether a record is whole
-- proofs.Narrow       the numbers of a device that its record has four bytes for
-- proofs.Unique       no second answer satisfies a promise
-- proofs.Computing    what cases compute with
-- proofs.Cases        the cases of specs/Cases.antt hold
pub mod Laws
pub mod Wholly
pub mod Narrow
pub mod Unique
pub mod Computing
pub mod Cases
