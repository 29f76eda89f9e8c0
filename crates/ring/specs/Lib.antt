-- A ring on its way.
pub mod Round
