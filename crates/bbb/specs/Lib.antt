-- What a reader must believe about a poll, in document 01's words.
--     Poll     a poll, state by state
--     Room     a poll that lacked room, made again with more
--     Cases    document 01's cases of polls, and ours
--     Inner    what only inner functions need
pub mod Poll
pub mod Room
pub mod Cases
pub mod Inner
