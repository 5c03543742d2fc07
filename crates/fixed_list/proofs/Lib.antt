pub mod Shifts
pub mod Collecting
