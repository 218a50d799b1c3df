pub mod Listings
pub mod Measuring
