pub mod Faults
pub mod Faulted
pub mod Measuring
pub mod Evaluating
pub mod LimitLaws
pub mod Reach
