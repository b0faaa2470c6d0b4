-- What a reader of `bench`'s lines must believe, in document 01's words.
--     Line     the text of a line
--     Cases    cases, computed
--     Inner    what only inner functions need
pub mod Line
pub mod Cases
pub mod Inner
