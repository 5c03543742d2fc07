pub mod Masks
pub mod Runs
pub mod Moving
pub mod CascadesTheorem
pub mod Acting
pub mod Rows
