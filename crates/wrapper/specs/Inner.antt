-- These definitions are only for inner functions: no public contract and no public theorem rests on them (checks/believed).
--     Wrapper    a wrapper's head without its block
pub mod Wrapper
