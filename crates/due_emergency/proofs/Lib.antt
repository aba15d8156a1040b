pub mod CallSteps
pub mod LinkCallsLaws
