mod Prefixes
mod Among
mod Events
pub mod States
mod Steps
pub mod Facts
mod Seating
