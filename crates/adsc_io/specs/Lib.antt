pub mod Causes
pub mod Inputs
pub mod Limits
pub mod Lines
pub mod Memory
pub mod Readers
pub mod Writes
pub mod Standard
