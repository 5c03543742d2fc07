pub mod Triples
pub mod Facts
pub mod Policies
