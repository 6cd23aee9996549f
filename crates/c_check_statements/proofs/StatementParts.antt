pub mod Declared
pub mod LabelsInTurn
pub mod ArmsInTurn
