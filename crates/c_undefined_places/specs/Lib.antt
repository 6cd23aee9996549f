pub mod Placed
pub mod Laws
pub mod Verdicts
pub mod Covered
