pub mod PackingLaws
pub mod Taken
pub mod Unreads
pub mod Written
