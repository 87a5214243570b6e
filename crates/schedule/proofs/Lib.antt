-- Laws of the sweeps, and of writing them.
pub mod Agrees
pub mod WritingLaws
pub mod RowLaws
pub mod NumberLaws
pub mod CountLaws
pub mod Lengths
pub mod LabelLaws
pub mod SpotLaws
pub mod IndexedSheet
pub mod Written
pub mod Legal
