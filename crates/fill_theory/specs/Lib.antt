-- Request (viii) in reading order: a split with maps filled in, after-maps and the greatest of them, the answer. Found to GreatestMaps say how the greatest are found, which need not be read to know what is promised; Examples has tables to try.
pub mod Filled
pub mod AfterMaps
pub mod Answer
pub mod Found
pub mod Flow
pub mod FlowOf
pub mod Pass
pub mod GreatestMaps
pub mod Examples
