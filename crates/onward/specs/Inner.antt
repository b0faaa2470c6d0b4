-- What only inner functions promise or require: no public contract and no public theorem rests on it (checks/believed).
--     Onward    of which polls a read-out is made, and what they leave
pub mod Onward
