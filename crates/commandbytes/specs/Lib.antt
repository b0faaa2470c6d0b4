-- What a caller of these calls over a record of bytes must believe.
--     Command    the command shown, and the command step
pub mod Command
