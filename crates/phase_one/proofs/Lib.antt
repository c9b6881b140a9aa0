mod Found
mod Flushing
