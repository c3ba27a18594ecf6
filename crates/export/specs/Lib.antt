pub mod Faults
pub mod Compared
pub mod Texts
pub mod Exported
