pub mod Cuts
pub mod LineCuts
pub mod Errors
pub mod Counts
pub mod Left
