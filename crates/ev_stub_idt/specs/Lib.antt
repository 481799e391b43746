pub mod Listings
pub mod Position
