-- What the program writes.
pub mod Swept
