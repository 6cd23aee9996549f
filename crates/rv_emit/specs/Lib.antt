pub mod Maps
pub mod Grounds
pub mod Fitting
pub mod Relation
pub mod Claims
