-- What a reader must believe about the device record.
--     Device   the record, and its changes
--     Create   creation: its rules in order, and a new device
--     Broken   "Broken means: ..", rule by rule
--     Cases    document 01's cases of creation, and each way to be broken
pub mod Device
pub mod Create
pub mod Broken
pub mod Cases
