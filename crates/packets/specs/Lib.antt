-- What a reader must believe about one packet.
--     Packets    one packet read or sent, and what is written into the buffer before it is sent
--     Inner      what only inner functions need
pub mod Packets
pub mod Inner
