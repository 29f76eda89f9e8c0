-- What carries over from a map to the layers above it.
pub mod Duals
pub mod Shifts
pub mod ShiftLaw
pub mod Shift
