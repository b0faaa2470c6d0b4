-- What a reader of the theorems over exported calls must believe, beside those over calls by value.
--     Calls      the exported calls, what firmware keeps between them, and what it reads of each
--     Created    where a history starts
--     Logs       calls that were made one after the other, as a history
--     Demand     demand 3 and request 7, in what the calls return and in the record's bytes
--     Cases      document 01's cases of demand 3 as calls of firmware
pub mod Calls
pub mod Created
pub mod Logs
pub mod Demand
pub mod Cases
