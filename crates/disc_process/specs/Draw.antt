-- What a draw says.
use Rattle.std.specs.Prelude.{◌≡◌, ◌⊎◌, ◌∷◌, ◌++◌, ◌+◌, ◌<◌, ◌≤◌, ℕ, Bool, true, false, List, [], Option, None, if◌then◌else◌, slice_get}
use Rattle.std.specs.List.{list_all}
use Rattle.std.specs.Option.{IsSome, option_map}
use mathlib.Core.List.{IsPrefix}
use Rattle.chronicle.specs.Seats.{Sight, HasGrown, own_events}
use Rattle.disk_model.specs.Held.{Rose}
use Rattle.node_machine.specs.declared.event.By.{By}
use Rattle.node_machine.specs.declared.event.DiscEvent.TheVariants as did
use Rattle.node_machine.specs.declared.event.Event.{Event}
use Rattle.node_machine.specs.declared.event.Event.TheVariants.{OfDisc}
use Rattle.tmf_model.specs.declared.transid.Transid.{Transid}
use Rattle.node_machine.specs.Made.{blocks_of, changes_left, has_released, holder, is_changing, next_position, volume_of}
use Rattle.node_machine.specs.Parts.{DiscPart}
use Rattle.node_machine.specs.Trail.{trail_of}
use Rattle.audit_writer.specs.declared.lock.FlushRefused.{FlushRefused}
use Rattle.audit_writer.specs.declared.lock.FlushRefused.TheVariants as refused
use Rattle.block_cache.specs.declared.frame.Frame.{Frame}
use Rattle.block_cache.specs.Blocks.{InCache, View}
use Rattle.block_cache.specs.Cache.{KeepsFrames, entry_at, frame_at, is_dirty, place_of, victim_of}
use Rattle.disc_process.specs.Blocks.{IsHeldUp, KeepsContents, dirty_in, ended_in, frame_giving_way, half_in, position_in}
use Rattle.audit_writer.specs.Locked.{HasFailed as HasTrailFailed}
use Rattle.disc_process.specs.Disc.{DiscView}
use Rattle.disc_process.specs.Seats.{IsLaterSeat}

-- the block is drawn up to its last change
pub record IsClean {D : Type 0} (blocks : View D) (f n : ℕ) : Type 0 where
  pub clean : dirty_in (entry_at blocks.cache f n) ≡ false
  pub whole : half_in (entry_at blocks.cache f n) ≡ false

-- the events of a draw: none where nothing is to be drawn
abbrev pub drawings : ℕ → ℕ → Option Frame → List Event
drawings f n entry = if dirty_in entry then OfDisc (did.Draw f n (position_in entry)) ∷ OfDisc (did.Drawn f n) ∷ [] else []

-- those of the end of a draw that is half done
abbrev pub endings : ℕ → ℕ → Option Frame → List Event
endings f n entry = if half_in entry then OfDisc (did.Drawn f n) ∷ [] else []

-- the block was drawn: it is clean, and the disc has had the events of the draw
pub record HasDrawnBlock {D : Type 0} (old new : DiscView D) (f n : ℕ) : Type 0 where
  pub clean : IsClean new.blocks f n
  pub events : own_events new.seat ≡ own_events old.seat ++ (endings f n (entry_at old.blocks.cache f n) ++ drawings f n (entry_at old.blocks.cache f n))

-- Where a draw was refused the block is as it was, or the draw that was half done has ended and no other is begun, or a draw of it is under way.
abbrev pub IsStopped : Option Frame → Option Frame → Type 0
IsStopped old new = IsHeldUp old new ⊎ ((half_in old ≡ true) × (new ≡ option_map ended_in old))

-- the block is one of the volume's, and the first, by files and then by numbers, that is to be drawn or whose draw is to be ended
pub record IsFirstDirty {D : Type 0} (disc : DiscView D) (f n : ℕ) : Type 0 where
  pub here : volume_of disc.part.config f ≡ disc.part.number
  pub within : n < blocks_of disc.part.config f
  pub dirty : InCache disc.blocks.cache f n (λ x. is_dirty x ≡ true)
  pub first : (g m : ℕ) → InCache disc.blocks.cache g m (λ x. is_dirty x ≡ true) → (f < g) ⊎ ((f ≡ g) × (n ≤ m))

-- whether the event is of a draw
abbrev pub is_draw : Event → Bool
is_draw (OfDisc (did.Draw f n position)) = true
is_draw (OfDisc (did.Drawn f n)) = true
is_draw _ = false

-- draws alone
abbrev pub AreDraws : List Event → Type 0
AreDraws events = list_all is_draw events ≡ true

-- the disc has had draws alone
pub record HasDrawn (v w : Sight Event) : Type 0 where
  pub drawn : List Event
  pub are : AreDraws drawn
  pub events : own_events w ≡ own_events v ++ drawn

-- Draws that make room for a block: this one is not in the cache, where no frame gives way. They are of one block, the least recently used one, which is to be
-- drawn, or whose draw is to be ended.
pub record MakeRoom {D : Type 0} (blocks : View D) (f n : ℕ) (events : List Event) : Type 0 where
  pub other_file : ℕ
  pub other_number : ℕ
  pub missing : entry_at blocks.cache f n ≡ None
  pub full : victim_of blocks.cache ≡ None
  pub oldest : frame_at blocks.cache (place_of other_file other_number) ≡ slice_get blocks.cache.order 0
  pub dirty : InCache blocks.cache other_file other_number (λ x. is_dirty x ≡ true)
  pub of_one : events ≡ endings other_file other_number (entry_at blocks.cache other_file other_number) ++ drawings other_file other_number (entry_at blocks.cache other_file other_number)

-- the block is in the cache, or some frame can give way for it with nothing to draw
abbrev pub HasRoom : {D : Type 0} → View D → ℕ → ℕ → Type 0
HasRoom blocks f n = entry_at blocks.cache f n ≡ None → IsSome (victim_of blocks.cache)

-- no draws, where there was room for the block; or such
abbrev pub AreForRoom : {D : Type 0} → View D → ℕ → ℕ → List Event → Type 0
AreForRoom blocks f n events = ((events ≡ []) × HasRoom blocks f n) ⊎ MakeRoom blocks f n events

-- Room was made for a block: it is in the cache, or a frame can give way for it with nothing to draw, and that is the one that had to give way. Each frame has the block that it had.
pub record HasWay {D : Type 0} (old new : View D) (f n : ℕ) : Type 0 where
  pub room : HasRoom new f n
  pub label : new.label ≡ old.label
  pub frames : KeepsFrames old.cache new.cache
  pub way : frame_giving_way new.cache ≡ frame_giving_way old.cache

-- the disc has had no events but such
pub record HasMadeRoom {D : Type 0} (blocks : View D) (f n : ℕ) (v w : Sight Event) : Type 0 where
  pub drawn : List Event
  pub room : AreForRoom blocks f n drawn
  pub events : own_events w ≡ own_events v ++ drawn

-- the disc has had a front of these events, and may have told a failure behind them
pub record HasBegun (by : By) (whole : List Event) (v w : Sight Event) : Type 0 where
  pub had : List Event
  pub front : IsPrefix had whole
  pub events : (own_events w ≡ own_events v ++ had) ⊎ (own_events w ≡ (own_events v ++ had) ++ OfDisc (did.Failed by) ∷ [])

-- the same of draws that make room for a block: so of one block's draw at most
pub record HasSoughtRoom {D : Type 0} (by : By) (blocks : View D) (f n : ℕ) (v w : Sight Event) : Type 0 where
  pub whole : List Event
  pub room : AreForRoom blocks f n whole
  pub begun : HasBegun by whole v w

-- the volume has failed in the last call, behind draws
pub record HasFailed {D : Type 0} (faults : D → ℕ) (by : By) (old new : DiscView D) (device : ℕ) : Type 0 where
  pub named : device ≡ 4 + old.part.number
  pub rose : Rose (faults old.blocks.device) (faults new.blocks.device)
  pub drawn : List Event
  pub are : AreDraws drawn
  pub events : own_events new.seat ≡ (own_events old.seat ++ drawn) ++ OfDisc (did.Failed by) ∷ []

-- the trail has failed for the caller, or the volume has
abbrev pub IsDrawRefusal : {D : Type 0} → (D → ℕ) → By → DiscView D → DiscView D → FlushRefused → Type 0
IsDrawRefusal faults by old new (refused.Failed device) =
    (HasTrailFailed (trail_of old.part.config old.part.number) by old.seat new.seat (refused.Failed device) × HasDrawn old.seat new.seat)
    ⊎ HasFailed faults by old new device
IsDrawRefusal faults by old new refused.NoMemory = HasDrawn old.seat new.seat

-- what draws leave of a disc's part as it was
pub record SameWork (s t : DiscPart) : Type 0 where
  pub config : t.config ≡ s.config
  pub number : t.number ≡ s.number
  pub base : t.base ≡ s.base
  pub next : next_position t ≡ next_position s
  pub holders : (f : ℕ) (k : List ℕ) → holder t.events f k ≡ holder s.events f k
  pub changing : (f : ℕ) (k : List ℕ) → is_changing t.events f k ≡ is_changing s.events f k
  pub left : (u : Transid) → changes_left t.events u ≡ changes_left s.events u
  pub released : (u : Transid) → has_released t.events u ≡ has_released s.events u

-- what each step of a draw keeps: the work of the part, the contents of the blocks, and what the seat had seen
pub record KeepsDraw {D : Type 0} (old new : DiscView D) (f n : ℕ) : Type 0 where
  pub work : SameWork old.part new.part
  pub contents : KeepsContents old.blocks new.blocks f n
  pub later_seat : IsLaterSeat old.seat new.seat

-- the disc has had no event, and its blocks are as before; its seat may have seen more
pub record HasOnlySeen {D : Type 0} (old new : DiscView D) : Type 0 where
  pub part : new.part ≡ old.part
  pub blocks : new.blocks ≡ old.blocks
  pub grown : HasGrown old.seat new.seat
