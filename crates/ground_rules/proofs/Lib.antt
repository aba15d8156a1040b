pub mod Asking
pub mod Quiet
