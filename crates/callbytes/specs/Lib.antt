-- What a caller of these calls over a record of bytes must believe.
--     Calls    what creation, the status and the calls of the bus return, and what they leave
pub mod Calls
