-- Lemmas of a removal.
pub mod Walks
pub mod Bridging
pub mod Cutting
pub mod Taking
pub mod Fronts
