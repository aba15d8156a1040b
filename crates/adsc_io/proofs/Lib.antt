pub mod LineEndLaws
pub mod Joined
pub mod LimitLaws
pub mod LinesLaws
pub mod MemoryLemmas
pub mod OneLine
pub mod ReaderLaws
