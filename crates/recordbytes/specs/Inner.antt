-- These definitions stand only in what inner functions promise or require: no public contract and no public theorem rests on them
-- (checks/believed).
--     Storable    which devices have their place in 56 bytes
--     Record      a wrapper from its two stored parts
pub mod Storable
pub mod Record
