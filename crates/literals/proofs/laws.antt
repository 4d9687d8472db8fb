pub mod Chunks
pub mod Known
pub mod Limits
pub mod Holding
pub mod Scarce
