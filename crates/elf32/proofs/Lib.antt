pub mod Parts
pub mod ReadBack
pub mod Headers
pub mod Tests
pub mod Placed
