pub mod Resuming
pub mod Lending
