pub mod TotalOrders
pub mod KeyForms
pub mod LittleEndian
