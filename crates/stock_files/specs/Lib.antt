pub mod Repairs
pub mod Statuses
pub mod Stores
