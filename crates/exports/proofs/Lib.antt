-- Laws of the exported functions.
pub mod StoreLaws
pub mod ReadLaws
pub mod ShowLaws
pub mod AnswerLaws
