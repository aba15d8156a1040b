pub mod Codes
pub mod Encodings
pub mod Faults
pub mod Items
pub mod ItemView
pub mod Reading
pub mod Refusals
