-- These definitions stand only in what inner functions promise or require: no public contract and no public theorem rests on them
-- (checks/believed).
--     Phases    a poll as the code does it: open, decide, act
pub mod Phases
