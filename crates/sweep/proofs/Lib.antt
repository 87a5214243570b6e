-- Laws of the program.
pub mod SweepLaws
