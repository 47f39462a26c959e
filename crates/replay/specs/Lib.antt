pub mod Recovered
pub mod RecoveryLaws
pub mod Replays
pub mod RunLaws
pub mod Stepping
