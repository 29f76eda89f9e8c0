-- Lemmas on a call and on a list of calls.
mod Performed
mod Runs
