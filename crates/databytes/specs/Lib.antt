-- What a caller of reading and writing over a record of bytes must believe.
--     Data     what a read or a write returns, and what it leaves
--     Inner    what only inner functions need
pub mod Data
pub mod Inner
