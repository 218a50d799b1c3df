pub mod Inputs
pub mod ScriptLines
