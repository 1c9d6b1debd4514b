-- Document 02, request (ii), in its own order: the draw, the pair of k readers, the pair of a seed.
pub mod Draw
pub mod Pair
