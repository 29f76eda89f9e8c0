-- How slips hold a map: read Links and Blocks first.
pub mod Links
pub mod Blocks
pub mod Meaning
pub mod Uses
pub mod Law
pub mod Ends
