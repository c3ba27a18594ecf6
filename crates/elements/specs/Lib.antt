pub mod Kinds
pub mod Keys
pub mod KeyLaws
pub mod Decimals
pub mod Readings
pub mod Reading
pub mod TotalOrder
