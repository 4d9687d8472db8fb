pub mod Told
pub mod Demand1
pub mod Demand2
pub mod Determined
pub mod Demand3
