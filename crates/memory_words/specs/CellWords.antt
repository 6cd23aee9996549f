pub mod Fragments
pub mod Tables
pub mod Words
