-- What only inner functions promise or require: no public contract and no public theorem rests on it (checks/believed).
--     Short    what the short way promises
pub mod Short
