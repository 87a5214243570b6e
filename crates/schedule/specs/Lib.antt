-- Document 01, "Sweeps": the two lists, and what writing one of them answers and leaves.
pub mod Sweep
pub mod Written
pub mod Writing
pub mod Sample
