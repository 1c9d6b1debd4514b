pub mod LongReplays
