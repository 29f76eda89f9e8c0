-- Lemmas, a file to a topic.
pub mod Entries
pub mod Listings
pub mod Readings
pub mod Plays
pub mod Scripts
