-- What the steps of a join and of a part need and leave.
pub mod Sides
pub mod Mates
pub mod Tying
