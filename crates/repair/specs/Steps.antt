-- What functions answer on the way. Nothing here is a statement of the document, and nothing needs belief.
-- Assumes nothing.
pub mod Repair
