pub mod TwoLists
pub mod Counts
pub mod Numbers
pub mod ArmsMade
pub mod BySort
pub mod FromBack
pub mod Shown
mod Blind
mod Base
mod Making
mod Values
mod Choices
mod Places
mod WaysCover
mod Assignments
mod Library
mod Calls
mod NodesCover
mod ScopesCover
mod StatementsCover
mod LoopsCover
mod Declarations
mod Switch
mod Control
mod FunctionsCover
mod Same
