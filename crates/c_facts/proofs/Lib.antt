mod Groups
mod Counts
