-- These definitions stand only in what inner functions promise or require: no public contract and no public theorem rests on them
-- (checks/believed).
--     Ring    to which act a poll comes, handler by handler, and the row of each act
pub mod Ring
