-- What the contracts of the code that moves costs cite besides the rules.
pub mod Lent
pub mod Bounds
pub mod LabelMessage
pub mod Incumbent
pub mod Clash
pub mod EdgeMessage
pub mod Indexes
pub mod Rounded
pub mod RoundRecord
pub mod Answers
pub mod EdgeRecord
pub mod Lows
pub mod Records
pub mod Joints
pub mod Step
pub mod State
pub mod Turn
