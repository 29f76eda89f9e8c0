-- Lemmas of a split.
pub mod Opening
pub mod Places
pub mod Linking
pub mod Ending
pub mod Growing
pub mod Counts
pub mod Besides
