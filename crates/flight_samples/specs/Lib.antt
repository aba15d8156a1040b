pub mod Decimals
pub mod Columns
pub mod Samples
pub mod SampleText
