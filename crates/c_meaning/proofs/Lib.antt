mod ExampleMemory
mod ExamplesOfPointerTypes
pub mod ShownWeights
pub mod ChangedBlocks
pub mod PointersKept
pub mod Closed
pub mod ClosedRuns
pub mod ClosedExpressions
pub mod ClosedStatements
pub mod ClosedCalls
pub mod Fuel
pub mod Longer
pub mod LongerRuns
pub mod Unlimited
pub mod Direct
