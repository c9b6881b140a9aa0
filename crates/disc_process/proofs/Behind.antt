-- What a step that only holds its key leaves of its block, and tells.
use Rattle.std.proofs.Common.{◌≡◌, refl}
use Rattle.keyed_file.specs.Block.{KeyedBlock}
use Rattle.tmf_model.specs.declared.script.Step.{Step}
use Rattle.tmf_model.specs.declared.transid.Transid.{Transid}
use Rattle.node_machine.specs.Parts.{DiscPart}
use Rattle.disc_process.specs.declared.found.Found.{Found}
use Rattle.disc_process.specs.declared.found.Found.TheVariants as found
use Rattle.disc_process.specs.Disc.{IsHolding, event_of, hold_event}
use Rattle.disc_process.specs.Write.{block_after}

-- the block is as it was
pub after_held : (s : DiscPart) (step : Step) (what : Found) (block : KeyedBlock) → IsHolding what → block ≡ block_after s step what block
after_held s step (found.Change before after) block h = absurd h
after_held s step (found.Value value) block h = refl
after_held s step (found.Refused reason) block h = refl
after_held s step found.Full block h = refl
after_held s step found.Crowded block h = absurd h

-- the event is that of what the step has come to
pub event_held : (s : DiscPart) (t : Transid) (step : Step) (what : Found) → IsHolding what → hold_event t step what ≡ event_of s t step what
event_held s t step (found.Change before after) h = absurd h
event_held s t step (found.Value value) h = refl
event_held s t step (found.Refused reason) h = refl
event_held s t step found.Full h = refl
event_held s t step found.Crowded h = absurd h
