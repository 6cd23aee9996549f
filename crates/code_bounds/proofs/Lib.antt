mod Grows
mod Expressions
mod Nodes
mod Outs
mod Statements
mod Scoped
mod Weights
mod Asked
pub mod Routines
mod Functions
mod Typed
mod Lengths
mod Words
mod Frames
mod Texts
mod Programs
mod Images
pub mod Starts
mod SmallTypes
