pub mod Policy
pub mod Policies
pub mod Keys
pub mod Listing
pub mod Sets
pub mod Prefixes
