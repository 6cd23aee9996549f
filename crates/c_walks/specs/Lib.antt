pub mod NodeTypes
pub mod Redone
