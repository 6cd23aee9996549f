mod Kept
mod Inserted
mod Tables
mod Standing
mod StepOrder
mod LargeFields
