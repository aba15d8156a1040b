pub mod Calls
pub mod Modes
pub mod LinkCalls
