-- An index of things by a key: what it is, and how it is made.
pub mod Index
