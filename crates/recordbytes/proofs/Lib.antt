-- proofs.Reading      what has to be shown for each way through a function that reads
-- proofs.Storing      what storing one number leaves
-- proofs.Stored       what storing many leaves
-- proofs.Parts        the parts of a device
-- proofs.RoundTrip    what was stored is read back
-- proofs.Held         what bytes hold is in bounds, and a whole device with numbers in bounds is stored and read back
-- proofs.Unique       no second answer satisfies a promise
-- proofs.Computing    what cases compute with
-- proofs.Cases        the cases of specs/Cases.antt hold
pub mod Reading
pub mod Storing
pub mod Stored
pub mod Parts
pub mod RoundTrip
pub mod Held
pub mod Unique
pub mod Computing
pub mod Cases
