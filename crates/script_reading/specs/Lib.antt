pub mod Passing
pub mod Readable
