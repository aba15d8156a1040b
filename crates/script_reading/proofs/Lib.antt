pub mod PassingLaws
pub mod ReadableLaws
pub mod TextLaws
