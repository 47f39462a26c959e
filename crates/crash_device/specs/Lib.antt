pub mod Crashing
pub mod Files
pub mod Memory
pub mod MomentLaws
pub mod Moments
pub mod Past
