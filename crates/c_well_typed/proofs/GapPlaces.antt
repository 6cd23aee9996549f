pub mod Everywhere
pub mod PlacesOfUnits
pub mod PlacesOfGaps
