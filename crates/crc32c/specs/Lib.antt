pub mod Crc
pub mod CrcLaws
pub mod Linear
pub mod Bursts
