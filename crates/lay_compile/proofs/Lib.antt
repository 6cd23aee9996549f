mod Steps
mod Next
mod Rounds
mod NoProgram
mod FaultPlaces
pub mod LineTexts
pub mod ProgramFiles
pub mod RefusalPlaces
pub mod Few
