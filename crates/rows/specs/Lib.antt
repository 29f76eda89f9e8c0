-- How rows hold a map: read Numbers first.
pub mod Numbers
pub mod Meaning
pub mod Changes
pub mod Law
