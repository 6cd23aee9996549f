pub mod Adding
pub mod Renumbered
pub mod TypeKeys
