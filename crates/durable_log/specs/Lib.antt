pub mod Appending
pub mod Machines
pub mod Recovering
pub mod Runs
pub mod Standing
