-- What a reader of an event as a call must believe, in document 01's words.
--     Act      the call that each kind of event stands for
--     Telling  what a command step's body changes
--     Cases    what a command step offers, computed
--     Inner    what only inner functions need
pub mod Act
pub mod Telling
pub mod Cases
pub mod Inner
