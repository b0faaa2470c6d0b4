-- What only inner functions promise or require: no public contract and no public theorem rests on it (checks/believed).
--     Line    the room that a line takes
pub mod Line
