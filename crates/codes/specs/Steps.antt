-- What functions answer on the way. Nothing here is a statement of the document, and nothing here needs belief.
-- Assumes nothing.
pub mod BitBuffer
pub mod EightBytes
pub mod Laid
pub mod Measure
pub mod Passed
pub mod Pending
pub mod Sending
pub mod Size
pub mod Summed
pub mod Taken
pub mod Words
