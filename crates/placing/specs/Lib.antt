-- Placing: the call's promise, the tables over places, and what a search leaves.
pub mod Placing
pub mod Words
pub mod Labels
pub mod Priced
pub mod Listed
pub mod Paths
pub mod TightRows
pub mod Choices
pub mod Bids
pub mod Assigning
pub mod Sample
