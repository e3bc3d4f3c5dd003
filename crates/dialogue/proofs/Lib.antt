mod Reading
mod Talking
mod Telling
mod Ending
