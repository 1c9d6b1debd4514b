pub mod SheetLaws
pub mod WholeLaws
pub mod Found
pub mod LoopSteps
pub mod Stores
pub mod Loops
