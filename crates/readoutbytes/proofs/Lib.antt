-- proofs.Held       what a memory holds, and goes on holding
-- proofs.Same       the simulation
-- proofs.Refused    a call that cannot be made changes nothing
-- proofs.Logs       a log of exported calls is a history
-- proofs.Demand     demand 3 and request 7 for them
-- proofs.Created    what `souk_create` leaves
-- proofs.Called     demand 3 and request 7, from the contracts of the calls
-- proofs.Realised   demand 3 is not empty here, and all that it supposes is needed
-- proofs.Reckoned   the same of request 7
-- proofs.Computing  what cases compute with
-- proofs.Cases      the cases of specs/Cases.antt hold
pub mod Held
pub mod Same
pub mod Refused
pub mod Logs
pub mod Demand
pub mod Created
pub mod Called
pub mod Realised
pub mod Reckoned
pub mod Computing
pub mod Cases
