-- What a reader of a run of a bench file must believe, in document 01's words.
--     Run       how each event is a call and gives a line
--     Turns     the turns of a run, and what each hands to C's write
--     Output    what is printed for a file
--     Cases     01's listing, computed
--     Inner     what only inner functions need
pub mod Run
pub mod Turns
pub mod Output
pub mod Cases
pub mod Inner
