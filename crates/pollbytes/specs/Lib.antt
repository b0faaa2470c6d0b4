-- No reader needs these definitions to believe a poll: they tell how the code's short way goes.
--     Inner    what only inner functions need
pub mod Inner
