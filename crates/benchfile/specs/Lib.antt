-- What a reader of the bench file must believe, in document 01's words.
--     Event    one event: its fields, the rules for its kind, and what stands at an offset
--     File     a good file and its events; the verdict
--     Cases    cases, computed; the parts of two good files
--     Inner    what only inner functions need
pub mod Event
pub mod File
pub mod Cases
pub mod Inner
