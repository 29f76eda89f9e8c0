-- The subject, a file to a topic: read Map first, then Outcome and Acts.
pub mod Map
pub mod Refusals
pub mod Outcome
pub mod Acts
pub mod Orbits
pub mod Listing
pub mod Asking
pub mod Rings
pub mod Building
pub mod Splitting
pub mod Removing
pub mod Laying
pub mod Layers
