-- What the exported functions write into the buffers that C lends.
pub mod Stored
pub mod Reading
pub mod Moving
