pub mod BasicLaws
pub mod FieldsLaws
pub mod FieldsRead
pub mod FitLaws
pub mod GroupLaws
pub mod WritingLaws
pub mod SameValues
