-- What a reader of 01's starred cases must believe.
--     Starred    the one table, and the one statement about it
pub mod Starred
