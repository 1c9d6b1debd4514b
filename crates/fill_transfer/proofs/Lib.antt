pub mod AfterParts
pub mod Held
pub mod Light
pub mod Row
