-- Nodes that each take a slot, none taken twice: placings, and which is the first.
pub mod Rows
pub mod First
pub mod Prices
