pub mod Loads
pub mod Mapped
