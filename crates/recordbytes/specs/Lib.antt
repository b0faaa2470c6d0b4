-- What a reader must believe about the record as bytes.
--     Layout    where each field of the record stands
--     Record    what bytes hold, whether they are a record at all, and what storing a device leaves of them
--     Cases     cases of layout, reading and storing
--     Inner     what only inner functions need
pub mod Layout
pub mod Record
pub mod Cases
pub mod Inner
