pub mod Counts
pub mod OneEnd
pub mod Verdicts
