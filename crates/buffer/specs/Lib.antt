-- A reader of the buffer has to believe these definitions. They follow document 01's order.
--     Buffer    a buffer, and what each call does to one with sound marks
--     Calls     what each public call answers and leaves, for any marks
--     Cases     cases with their values
--     Inner     what only inner functions need
pub mod Buffer
pub mod Calls
pub mod Cases
pub mod Inner
