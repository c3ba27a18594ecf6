pub mod Column
pub mod Image
pub mod Resolved
pub mod Texts
pub mod View
pub mod Window
pub mod Words
