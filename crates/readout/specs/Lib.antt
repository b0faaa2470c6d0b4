-- What a reader of demand 3 must believe.
--     History    the calls as events, and what a history of them leaves and shows
--     Demand     the mission's third demand: what is supposed, and what is promised
--     Account    document 02, request 7: what the firmware put in since a wrapper to the host, and how much of it is unread
--     Cases      document 01's cases of it, and cases of ours
pub mod History
pub mod Demand
pub mod Account
pub mod Cases
