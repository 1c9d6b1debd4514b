pub mod Erasure
pub mod Listed
pub mod SafeText
pub mod EitherOrderText
