-- Request (xii) in reading order, with the calls of request (xiv): the lines of a trace, where a word stands, the run that they record, races in it, the answer, what is claimed of it; Examples has replays to try.
pub mod Trace
pub mod Paths
pub mod Run
pub mod LowestPair
pub mod Replay
pub mod Claim
pub mod Exact
pub mod Examples
