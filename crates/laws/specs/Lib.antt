pub mod Language
pub mod Texts
pub mod Examples
pub mod Costs
pub mod Histories
