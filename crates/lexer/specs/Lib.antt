pub mod Token
pub mod Text
pub mod Pairs
pub mod Piece
pub mod Walk
pub mod Outcome
pub mod Laws
