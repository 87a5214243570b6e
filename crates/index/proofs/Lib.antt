-- Laws of an index, and of making it. `Indexed` is for other crates.
pub mod Lists
pub mod Filling
pub mod Indexed
