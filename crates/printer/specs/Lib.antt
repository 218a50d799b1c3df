pub mod Printed
pub mod Reprints
