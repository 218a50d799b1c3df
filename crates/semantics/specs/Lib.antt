pub mod Eval
pub mod Needs
pub mod Laws
pub mod Limits
pub mod Joins
pub mod Measured
pub mod Evaluated
