-- These definitions stand only in what inner functions promise or require: no public contract and no public theorem rests on them
-- (checks/believed).
--     Packets    what the functions for one packet promise
pub mod Packets
