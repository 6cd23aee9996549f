pub mod Units
pub mod TypeLimits
pub mod FirstStops
pub mod FaultPlaces
