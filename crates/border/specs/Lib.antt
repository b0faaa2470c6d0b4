-- What a reader must believe about the calls on a record of bytes, in addition to the calls by value.
--     Word      a result of several parts in one number
--     Record    the record that a call is lent
--     Cases     what a caller reads off a result, computed
pub mod Word
pub mod Record
pub mod Cases
