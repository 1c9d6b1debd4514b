-- Tables of pairs with their answers: those of document 01, then our edge rows, by what they try.
pub mod KnownPairs
pub mod Reasons
pub mod EdgeSheets
pub mod EdgeConditions
pub mod EdgeAgreement
pub mod EdgeNumbers
pub mod EdgeStart
pub mod EdgeSemaphores
pub mod EdgeSpawns
pub mod EdgeLocks
pub mod EdgeFreelock
pub mod EdgeRwlocks
pub mod EdgeProcedures
