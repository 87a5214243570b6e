-- What holds of placings, for any crate.
pub mod Counts
pub mod Shifts
pub mod Firsts
pub mod Sums
pub mod Duality
