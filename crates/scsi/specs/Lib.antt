-- A reader of the decoder has to believe these definitions: document 01, section Decoding.
--     Commands    the standards' fields of each command
--     Decoding    the table of opcodes and shortest lengths, and what a block decodes to
--     Telling     what it changes to be told that extended addressing is on
--     Numbers     a command as six numbers, for callers in C and Rust
--     Cases       document 01's cases, and ours
--     Inner       what only inner functions need
pub mod Commands
pub mod Decoding
pub mod Telling
pub mod Numbers
pub mod Cases
pub mod Inner
