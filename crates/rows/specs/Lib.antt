pub mod Row
pub mod Operators
pub mod Bits
pub mod Collected
pub mod Laws
