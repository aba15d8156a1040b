pub mod GroundLineLaws
pub mod WatchLaws
