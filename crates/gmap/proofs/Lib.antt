-- Lemmas that the crates above cite.
pub mod Pigeon
pub mod Looks
pub mod Orbits
pub mod Counting
pub mod Listing
pub mod Outcomes
pub mod Same
pub mod Acts
pub mod Frames
