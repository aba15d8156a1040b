pub mod Making
pub mod Progress
pub mod Running
pub mod Seen
pub mod Showing
pub mod Statuses
pub mod Words
