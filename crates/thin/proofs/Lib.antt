-- proofs.Data      what a thin call asks of the plain types that it names
-- proofs.Frame     a list of locals as one item: allocated, given arguments, freed
-- proofs.Passed    the parameters that a thin call passes on, as the machine sees them
-- proofs.Thin      a thin call over a lent record, walked through once for every such call
-- proofs.Law       the law: a thin call meets its contract if the core by value meets its own
-- proofs.Lender    the other way: a record held by value is lent to a thin call, and taken back
pub mod Data
pub mod Frame
pub mod Passed
pub mod Thin
pub mod Law
pub mod Lender
