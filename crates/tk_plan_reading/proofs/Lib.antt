pub mod TableRows
pub mod Values
pub mod PlanFromNodes
pub mod PlanLawSteps
