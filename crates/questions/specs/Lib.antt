-- Sets of switches, and the search of an orbit under them.
pub mod Via
pub mod Search
pub mod Marks
pub mod Ranks
pub mod Laws
