pub mod Place
pub mod Buffer
