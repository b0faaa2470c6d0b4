-- What only inner functions promise or require: no public contract and no public theorem rests on it (checks/believed).
--     Poll    what a poll through the ring stores in the record
pub mod Poll
