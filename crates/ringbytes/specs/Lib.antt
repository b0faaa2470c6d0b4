-- What a caller of a poll over a record of bytes must believe.
--     Poll     what a poll returns, and what it leaves in the record and in both buffers
--     Inner    what only inner functions need
pub mod Poll
pub mod Inner
