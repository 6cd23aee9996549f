pub mod Words
pub mod Immediates
pub mod Laws
pub mod Runs
