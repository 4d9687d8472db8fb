pub mod Inner
pub mod Proved
