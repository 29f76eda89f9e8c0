-- What a script prints, a file to a topic.
pub mod Printing
pub mod Replies
pub mod Answering
pub mod Transcript
