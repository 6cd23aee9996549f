pub mod Steps
pub mod RoomView
pub mod CountsView
