-- What a reader must believe about the states.
--     States    document 01's numbers of the states, and where a valid wrapper leads
--     Inner     what only inner functions need
pub mod States
pub mod Inner
