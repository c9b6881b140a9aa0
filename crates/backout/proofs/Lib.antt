mod Found
mod Steps
mod Undos
mod Leaving
