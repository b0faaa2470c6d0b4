-- These definitions stand only in what inner functions promise or require: no public contract and no public theorem rests on them
-- (checks/believed).
--     Returned    what the code of a call returns, case by case
pub mod Returned
