pub mod Untagged
pub mod Keys
pub mod Names
pub mod Tables
pub mod TagLists
