pub mod BitsLaws
pub mod OctetsLaws
pub mod SignedLaws
pub mod ReadingLaws
