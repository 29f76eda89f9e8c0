-- Lemmas, a file to a topic. Cuts serves the crates above too.
pub mod Cuts
mod Digits
mod Lines
mod Numbers
