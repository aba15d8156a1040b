pub mod Basic
pub mod BasicView
pub mod Fields
pub mod GroupView
pub mod Groups
pub mod Tables
