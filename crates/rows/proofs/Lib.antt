-- The lemmas: where numbers stand, what rows hold, and what each change leaves.
mod Places
mod Keeps
mod Pairs
mod Slots
mod Exchange
mod Vacant
