pub mod Contents
pub mod ChosenTables
pub mod Steps
pub mod Tables
pub mod Views
