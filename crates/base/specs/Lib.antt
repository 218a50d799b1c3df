pub mod Stores
pub mod Words
pub mod Delays
pub mod Ops
pub mod Rooms
pub mod Refusals
pub mod Texts
pub mod Numerals
