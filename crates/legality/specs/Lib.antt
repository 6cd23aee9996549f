pub mod InTypes
pub mod Holdings
pub mod Breaches
pub mod Firsts
pub mod Verdicts
pub mod Covered
mod Examples
