pub mod Writes
pub mod StoryLaws
pub mod Holds
pub mod Histories
pub mod Cells
pub mod Shape
pub mod Parts
pub mod Outcome
mod Examples
