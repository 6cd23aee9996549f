pub mod Inserting
pub mod Numbers
pub mod TagTables
pub mod Searching
