-- Worked scripts: what happens in a few short scripts, whoever the aircraft is and whatever its first sample.
pub mod Words
pub mod Heads
pub mod Confirmed
pub mod Written
pub mod Lines
pub mod BadLines
pub mod Bursts
pub mod NotAllowed
pub mod Reuse
