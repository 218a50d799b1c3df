pub mod ListingText
pub mod Listing
