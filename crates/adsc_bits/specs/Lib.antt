pub mod Packing
pub mod Padding
