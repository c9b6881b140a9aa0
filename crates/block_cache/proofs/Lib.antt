pub mod Rewritings
pub mod Stands
mod Orders
pub mod Pairing
pub mod FileRows
mod Freshly
mod Crowds
mod LabelReads
mod Attaching
mod Damages
mod Frames
mod Holdings
mod Entries
pub mod Draws
mod OtherReads
mod Nexts
pub mod OnePieces
mod Drawn
mod Drawing
mod Showing
mod Readings
pub mod Loads
mod Puts
mod Creating
mod Anew
mod Opening
pub mod Labelling
mod AtHome
mod Lowering
mod LowerCalls
pub mod Places
pub mod Caches
mod Calm
mod Rewritten
mod Mixing
mod Resting
pub mod Rests
mod Lowers
pub mod Shown
mod ShownSteps
mod Changing
