-- What the contracts of the recovery of a node cite.
pub mod Node
pub mod VolumeNode
pub mod VolumeRecovery
pub mod VolumeAnswers
pub mod VolumeLoop
pub mod VolumePrepared
pub mod Losing
pub mod Recovery
pub mod Stop
pub mod VolumeFormat
pub mod VolumeListing
pub mod MonitorDevice
