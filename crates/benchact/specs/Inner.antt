-- What only inner functions promise or require: no public contract and no public theorem rests on it (checks/believed).
--     Act    an act's result, read from what the calls by value return
pub mod Act
