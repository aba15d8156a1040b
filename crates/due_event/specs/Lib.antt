pub mod RuleTerms
pub mod Triggers
pub mod Watches
