pub mod Seed
pub mod Pair
pub mod Line
pub mod Made
