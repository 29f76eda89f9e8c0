-- Each layer: how it answers and keeps the law of partners, how an act on it is one below, and what carries over.
mod Checks
mod Along
mod DualLaw
mod DualActs
mod ShiftActs
mod ShiftCarries
