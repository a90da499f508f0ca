-- The statements as they stood while a packet's data was always one section, word for word: for `At300` to hold against those of today, and for nothing
-- else. What the sections did not change is cited. Refusal 6 had no number then; it is 0 here.
-- Assumes nothing.
pub mod Demand3
pub mod Examine
pub mod Makers
pub mod OneAnswer
pub mod Packet
pub mod Reader
pub mod Writer
