-- What the program prints.
pub mod Ascii
pub mod Decimal
pub mod Lines
pub mod Numbers
pub mod Output
pub mod Program
pub mod TextLines
pub mod Writing
pub mod Sample
