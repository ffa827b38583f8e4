pub mod Explain
pub mod PlanText
pub mod Accepted
