-- These definitions are only for inner functions: no public contract and no public theorem rests on them (checks/believed).
--     Decoding    the shortest length by opcode
--     Numbers     the number of a refusal
pub mod Decoding
pub mod Numbers
