pub mod WellTyped
pub mod Laws
pub mod Within
pub mod CountableUnits
pub mod Moves
pub mod ProgramWeights
pub mod GapPlaces
pub mod Printable
