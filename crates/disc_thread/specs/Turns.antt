-- One turn at a disc whose lock is held: what it makes of the disc, and why none is made.
use Rattle.std.specs.Prelude.{◌≡◌, ◌⊎◌, ◌<◌, ◌≤◌, ℕ, Bool, true, false, List, length}
use Rattle.chronicle.specs.Seats.{Sight, own_events}
use Rattle.node_machine.specs.declared.event.By.TheVariants as by
use Rattle.node_machine.specs.declared.event.Event.{Event}
use Rattle.node_machine.specs.Node.{node}
use Rattle.audit_writer.specs.declared.lock.FlushRefused.{FlushRefused}
use Rattle.block_cache.specs.Cache.{entry_at}
use Rattle.disc_process.specs.Blocks.{KeepsContents}
use Rattle.disc_process.specs.Disc.{DiscView, trail_events}
use Rattle.disc_process.specs.Draw.{HasDrawnBlock, IsClean, IsDrawRefusal, IsFirstDirty}
use Rattle.disc_process.specs.Draw as draw
use Rattle.disc_thread.specs.declared.drawing.Stopped.{Stopped}
use Rattle.disc_thread.specs.declared.drawing.Stopped.TheVariants.{Spent, Refused}

-- neither the disc nor its trail, of which these entries tell, has had as many events as the node allows
pub record IsBelow {D : Type 0} (disc : DiscView D) (seen : List (ℕ × Event)) : Type 0 where
  pub disc_events : length (own_events disc.seat) < disc.part.config.steps
  pub trail_events : length (trail_events disc.part seen) < disc.part.config.steps

-- one of the two has
abbrev pub IsSpent : {D : Type 0} → DiscView D → List (ℕ × Event) → Type 0
IsSpent disc seen = (disc.part.config.steps ≤ length (own_events disc.seat)) ⊎ (disc.part.config.steps ≤ length (trail_events disc.part seen))

-- The first block that was to be drawn is drawn. Neither part was spent before.
pub record HasDrawnFirst {D : Type 0} (old new : DiscView D) (seen : List (ℕ × Event)) : Type 0 where
  pub file : ℕ
  pub number : ℕ
  pub first : IsFirstDirty old file number
  pub below : IsBelow old seen
  pub drawn : HasDrawnBlock old new file number
  pub contents : KeepsContents old.blocks new.blocks file number

-- no block was to be drawn, and the disc is as it was
pub record HasNothing {D : Type 0} (old new : DiscView D) : Type 0 where
  pub clean : (f n : ℕ) → n < 256 → IsClean old.blocks f n
  pub same : new ≡ old

-- what a turn has made of the disc, whose answer says whether a block was to be drawn
abbrev pub HasTakenTurn : {D : Type 0} → DiscView D → DiscView D → List (ℕ × Event) → Bool → Type 0
HasTakenTurn old new seen true = HasDrawnFirst old new seen
HasTakenTurn old new seen false = HasNothing old new

-- The draw of the first block was refused, and it is as it was, or its draw is not begun anew, or it is under way. Neither part was spent before.
pub record IsDrawStopped {D : Type 0} (faults : D → ℕ) (old new : DiscView D) (seen : List (ℕ × Event)) (why : FlushRefused) : Type 0 where
  pub file : ℕ
  pub number : ℕ
  pub first : IsFirstDirty old file number
  pub below : IsBelow old seen
  pub stopped : draw.IsStopped (entry_at old.blocks.cache file number) (entry_at new.blocks.cache file number)
  pub contents : KeepsContents old.blocks new.blocks file number
  pub refused : IsDrawRefusal faults (by.Disc old.part.number) old new why

-- Why a turn was refused: a part is spent, and the disc is as it was; or the draw of the first block was.
abbrev pub IsStopped : {D : Type 0} → (D → ℕ) → DiscView D → DiscView D → List (ℕ × Event) → Stopped → Type 0
IsStopped faults old new seen Spent = IsSpent old seen × (new ≡ old)
IsStopped faults old new seen (Refused why) = IsDrawStopped faults old new seen why
