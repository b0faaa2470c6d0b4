-- These definitions are only for inner functions: no public contract and no public theorem rests on them (checks/believed).
--     Buffer    an answer of the buffer as numbers
pub mod Buffer
