-- What a reader must believe about the calls between polls, in document 01's words.
--     Checks     the state that a call works in, and its buffer
--     Status     `set_status`
--     Data       `read_data`, `write_data` and `try_write_data_all`
--     Bus        reset and control requests
--     Command    the command shown, and the command step
--     Telling    what it changes to tell the command step that extended addressing is on
--     Cases      cases, computed
--     Inner      what only inner functions need
pub mod Checks
pub mod Status
pub mod Data
pub mod Bus
pub mod Command
pub mod Telling
pub mod Cases
pub mod Inner
