mod Calm
mod ExampleVolume
mod Examples
mod Named
