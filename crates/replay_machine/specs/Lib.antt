-- The machine in reading order: environments, the control of a thread, states and steps; then what every state keeps.
pub mod Environment
pub mod Control
pub mod State
pub mod Step
pub mod Scoped
pub mod Kept
pub mod Replay
pub mod Counted
