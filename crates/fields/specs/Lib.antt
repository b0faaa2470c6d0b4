-- The specifications of all crates are written with these definitions.
--     Overlay    a list laid over a part of another: every write
--     Field      numbers in bytes: the fields of the public standards' tables
--     Case       a table of cases under one statement
--     Cases      cases of the fields
--     Inner      what only inner functions need
pub mod Overlay
pub mod Field
pub mod Case
pub mod Cases
pub mod Inner
