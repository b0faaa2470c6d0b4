-- These laws belong to no single function.
--     Laws         what is missing with an answer
--     Unique       no second answer satisfies a promise; a number determines its answer
--     Legible      what a result word can show of an answer and of the count beside it
--     Computing    what cases compute with
pub mod Laws
pub mod Unique
pub mod Legible
pub mod Computing
