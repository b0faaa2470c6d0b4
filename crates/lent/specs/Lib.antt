-- What a reader must believe about the lent calls, besides the definitions of `bbb` and `calls`.
--     Lent    the result of a call over a lent record
pub mod Lent
