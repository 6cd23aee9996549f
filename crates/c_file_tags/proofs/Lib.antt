mod Pushing
mod NextScopes
mod Folds
pub mod UntaggedStructs
