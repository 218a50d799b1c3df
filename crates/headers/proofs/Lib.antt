pub mod HeaderLines
pub mod Mapped
