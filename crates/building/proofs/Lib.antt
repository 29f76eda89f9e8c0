-- Lemmas of join and part.
pub mod Sides
pub mod Cutting
pub mod Couples
pub mod Matching
pub mod Tying
pub mod Clearing
pub mod Ready
