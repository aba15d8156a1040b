pub mod AuditEnds
pub mod AuditText
pub mod Conforming
pub mod Laws
pub mod LogReadings
pub mod Logs
pub mod SameTexts
