-- What functions answer on the way. Nothing here is a statement of the document, and nothing here needs belief.
-- Assumes nothing.
pub mod Reading
pub mod Taken
