-- A reader of the answers has to believe these definitions.
--     Answers    document 01's numbers for what endpoints and calls answer
pub mod Answers
