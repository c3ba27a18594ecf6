pub mod Orders
pub mod Packed
pub mod BitLaws
pub mod Collections
pub mod FixedRows
