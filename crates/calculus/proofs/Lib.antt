-- Why Figure 5 gives the claim, from the bottom up: laws, the run-time typing, well-typed states, what a reduction keeps, and the theorem.
pub mod Laws
pub mod Typing
pub mod Substitution
pub mod Focus
pub mod Framing
pub mod Bodies
pub mod Pool
pub mod Invariant
pub mod Moving
pub mod Holds
pub mod Preservation
pub mod RaceFreedom
pub mod Halting
pub mod EitherOrder
pub mod Safety
pub mod Examples
