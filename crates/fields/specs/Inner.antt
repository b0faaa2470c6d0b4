-- These definitions are only for inner functions: no public contract and no public theorem rests on them (checks/believed).
--     Field    the places of a table's fields
pub mod Field
