-- Lemmas of the ring.
pub mod Turns
pub mod Walks
pub mod Pairs
pub mod Rounds
pub mod Closing
pub mod Encircling
