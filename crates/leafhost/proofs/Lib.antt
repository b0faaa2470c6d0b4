-- These laws belong to no single call.
--     BufferWays    what each way through a call of the buffer owes
--     Unique        no contract has a second answer
pub mod BufferWays
pub mod Unique
