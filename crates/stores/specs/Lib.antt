pub mod Stores
pub mod Memory
pub mod MemoryFacts
pub mod Mounts
pub mod MountFacts
pub mod Laws
pub mod Held
