pub mod Cells
pub mod EightRows
pub mod Elements
pub mod Vectors
