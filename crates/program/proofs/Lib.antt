pub mod StepLoop
pub mod Sheets
pub mod Found
