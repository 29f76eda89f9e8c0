-- Calls and lists of calls, and what holds of every board that they leave.
pub mod Runs
pub mod Ties
pub mod Protection
pub mod Undoing
