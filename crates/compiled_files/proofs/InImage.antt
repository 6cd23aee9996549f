pub mod Segments
pub mod Standing
pub mod Texts
pub mod Layouts
pub mod Functions
pub mod Building
pub mod Images
