pub mod Cursors
pub mod Pages
pub mod Promise
pub mod Inner
pub mod Proved
