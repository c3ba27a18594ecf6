pub mod Counts
pub mod Files
pub mod Layout
pub mod Names
