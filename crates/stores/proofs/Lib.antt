pub mod Outcomes
pub mod PlainEdits
pub mod GapEdits
pub mod Backward
pub mod Rearranging
pub mod Windows
pub mod StoresTheorem
