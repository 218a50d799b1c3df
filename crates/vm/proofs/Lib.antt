pub mod StackLaws
pub mod CodeLaws
pub mod RunLaws
pub mod EndLaws
pub mod Plain
pub mod Meaning
pub mod Past
