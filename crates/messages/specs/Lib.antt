pub mod MessageText
pub mod Messages
