-- What the steps of a removal need and leave.
pub mod Crossing
pub mod Stages
