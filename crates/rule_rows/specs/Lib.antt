pub mod Table
pub mod StepView
