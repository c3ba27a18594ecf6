pub mod Columns
pub mod Column
pub mod Eights
pub mod Eight
