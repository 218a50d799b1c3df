pub mod Written
pub mod HeaderBack
pub mod ScriptBack
