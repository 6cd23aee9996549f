pub mod Steps
pub mod Routines
pub mod Bytes
pub mod Effects
pub mod Laws
