-- Laws of what is printed.
pub mod DecimalLaws
pub mod WritingLaws
pub mod RefusalLaws
pub mod ReportLaws
pub mod NumberedLaws
pub mod Outputs
pub mod ProgramLaws
pub mod Printed
pub mod TextLineLaws
pub mod GapZero
pub mod WrongTurns
