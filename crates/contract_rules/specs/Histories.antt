-- Worked histories: for each, the entries in the order in which they came, and what is due on a link at each entry.
pub mod Words
pub mod Links
pub mod Contracts
pub mod Reports
pub mod Events
pub mod Emergency
