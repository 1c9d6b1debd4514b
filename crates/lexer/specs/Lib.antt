pub mod Views
pub mod Cursors
pub mod Numbers
