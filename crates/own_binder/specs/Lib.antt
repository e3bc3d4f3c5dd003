pub mod OneSheet
