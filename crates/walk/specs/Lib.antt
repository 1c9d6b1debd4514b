pub mod Bodies
pub mod Contract
