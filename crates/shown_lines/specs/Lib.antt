pub mod Fields
pub mod LogonTexts
pub mod Meanings
pub mod Shown
pub mod Texts
pub mod UplinkTexts
