-- What the steps of a split need and leave.
pub mod Edges
pub mod Stages
