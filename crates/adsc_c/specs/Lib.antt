pub mod Statuses
pub mod Uplinks
pub mod Envelopes
