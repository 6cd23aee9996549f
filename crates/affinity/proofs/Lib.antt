mod Walked
mod Common
mod Kept
mod Own
mod Weighed
