pub mod Device
pub mod Story
pub mod History
pub mod Night
pub mod Entry
pub mod Commit
