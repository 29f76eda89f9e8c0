-- The lemmas: what records say, where they stand, what they hold, and what each change leaves.
mod Places
mod Full
mod Writes
mod Slots
mod Vacant
mod Sums
mod Usage
