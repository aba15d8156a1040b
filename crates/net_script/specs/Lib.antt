pub mod Fields
pub mod Letters
pub mod Bytes
pub mod Counts
pub mod Addresses
pub mod Forms
pub mod Lines
pub mod Faults
