mod ExamplesOfValues
mod ExamplesOfFits
mod ExamplesOfTyped
pub mod RunCounts
