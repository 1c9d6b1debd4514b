pub mod Items
pub mod Outcomes
pub mod Structure
pub mod Trees
