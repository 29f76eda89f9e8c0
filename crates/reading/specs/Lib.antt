-- What a script says, a file to a topic: read Pieces first, then Number and Words.
pub mod Pieces
pub mod Number
pub mod Words
pub mod Counts
pub mod Requests
pub mod Openings
