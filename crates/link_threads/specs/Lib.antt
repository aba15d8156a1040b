pub mod Interleavings
pub mod Passes
pub mod Seats
pub mod Turns
