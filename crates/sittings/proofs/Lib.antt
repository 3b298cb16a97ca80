mod Readings
mod Rooms
mod Turns
mod Words
