pub mod Appends
pub mod Fronts
pub mod Listings
pub mod Refused
pub mod Stepped
mod Placed
mod Strode
pub mod Taken
mod TakenRecords
