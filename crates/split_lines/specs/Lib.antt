pub mod RowLines
pub mod RowAnswers
pub mod TypeLines
pub mod TypeAnswers
