pub mod NumeralLines
pub mod MapLaws
pub mod SignatureLaws
pub mod TypeLaws
pub mod RowFields
pub mod RowLaws
