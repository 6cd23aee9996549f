pub mod Front
pub mod Reaching
pub mod Places
pub mod LineTexts
pub mod ProgramFiles
pub mod RefusalPlaces
