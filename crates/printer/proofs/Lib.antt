pub mod ReadsBack
pub mod Putting
pub mod PutStatements
pub mod Rewrites
