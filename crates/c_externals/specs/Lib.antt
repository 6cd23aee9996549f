pub mod Filing
pub mod Receiving
pub mod Settling
pub mod Signatures
