pub mod Bounds
pub mod Stacks
pub mod State
pub mod Outcomes
