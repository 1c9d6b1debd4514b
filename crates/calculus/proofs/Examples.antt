-- What the programs of specs/Examples.antt and specs/ProcedureExamples.antt show: that the claim can fail, that the definitions run, and
-- that Figure 5 derives something.
pub mod Claims
pub mod Races
pub mod Runs
pub mod Halts
pub mod Derivations
pub mod PrintedLocks
pub mod Procedures
pub mod KeptTwice
pub mod ColourBook
pub mod Orders
pub mod NewSemaphore
pub mod Premises
