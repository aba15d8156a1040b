pub mod TextLaws
pub mod EachEnvelope
pub mod EachUplink
pub mod EachAnswer
pub mod EachText
