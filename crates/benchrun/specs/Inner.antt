-- What only inner functions promise or require: no public contract and no public theorem rests on it (checks/believed).
--     Run    the room that a run needs
pub mod Run
