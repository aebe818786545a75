pub mod Machines
pub mod Order
pub mod PageParts
pub mod RunParts
