pub mod Bodies
pub mod InTurn
