-- Laws that belong to no single function, for the proofs here and for those of the crates above.
--     Decimal      decimal text: its digits give the number, and the first is no 0
--     Text         texts put one after the other, how long each is, and that a line fits
--     Ways         what each way through a function owes
--     Unique       no second answer satisfies the contract of `put_line`
--     Computing    what cases compute with
--     Cases        the cases of specs/Cases.antt hold
pub mod Decimal
pub mod Text
pub mod Ways
pub mod Unique
pub mod Computing
pub mod Cases
