pub mod AircraftLaws
pub mod CountLaws
pub mod GroundLaws
pub mod LineLaws
pub mod OneText
pub mod ShownLaws
pub mod UplinkLaws
