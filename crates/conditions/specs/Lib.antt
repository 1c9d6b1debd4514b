pub mod Outcome
pub mod Relation
pub mod Agreement
pub mod SheetOutcomes
