-- These definitions are only for inner functions: no public contract and no public theorem rests on them (checks/believed).
--     Buffer    sound marks as a fact
pub mod Buffer
