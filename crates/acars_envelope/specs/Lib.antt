pub mod Names
pub mod Check
pub mod Register
pub mod Bodies
pub mod Texts
pub mod Faults
