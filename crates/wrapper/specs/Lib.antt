-- A reader of the wrapper and the status has to believe these definitions.
--     Counters    the count left on the wire, and the residue
--     Status      BOT's table of the status (CSW), its status byte, and the 13 bytes
--     Wrapper     BOT's table of the wrapper (CBW), which wrappers are valid, and what a valid one says
--     Verdict     BOT's verdict on one received message
--     Cases       document 01's cases, and ours
--     Inner       what only inner functions need
pub mod Counters
pub mod Status
pub mod Wrapper
pub mod Verdict
pub mod Cases
pub mod Inner
