pub mod Capabilities
pub mod Types
pub mod Signatures
pub mod Derivation
pub mod Bodies
pub mod Safety
pub mod EitherOrder
pub mod Known
