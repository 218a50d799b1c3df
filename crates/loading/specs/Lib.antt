pub mod Failures
pub mod Loading
