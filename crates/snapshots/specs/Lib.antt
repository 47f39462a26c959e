pub mod Numbers
pub mod Resumed
pub mod Resuming
pub mod RowLaws
pub mod Saved
pub mod Snapshots
