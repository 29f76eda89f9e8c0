-- Lemmas of the search and of the questions on it.
pub mod Masks
pub mod Sets
pub mod Finding
pub mod Rising
pub mod Ranking
pub mod Marks
pub mod Labels
