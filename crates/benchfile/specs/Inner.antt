-- What only inner functions promise or require: no public contract and no public theorem rests on it (checks/believed).
--     Walk    what the walk over the events counts
--     File    an event that stands whole at an offset
pub mod Walk
pub mod File
