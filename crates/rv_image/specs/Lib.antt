pub mod Data
pub mod Images
