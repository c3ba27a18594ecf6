mod Windows
pub mod Faults
mod Words
mod TextRows
mod Decisions
mod TextOrder
mod Fronts
