mod First
mod Held
mod Kept
mod Uncovered
