-- What only inner functions promise or require: no public contract and no public theorem rests on it (checks/believed).
--     Data    what a read or a write stores in the record
pub mod Data
