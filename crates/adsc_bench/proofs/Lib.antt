pub mod BenchLaws
pub mod ListLemmas
pub mod MakingLaws
pub mod OneShownText
pub mod OptionLemmas
pub mod RunningLaws
pub mod ShowingLaws
pub mod WordsLaws
