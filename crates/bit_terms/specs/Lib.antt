pub mod Bits
pub mod Octets
pub mod Reading
pub mod Signed
