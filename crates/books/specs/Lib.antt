pub mod Format
pub mod Faults
pub mod Part
pub mod Tested
pub mod Examples
pub mod Inner
