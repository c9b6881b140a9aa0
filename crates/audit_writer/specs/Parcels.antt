-- What discs hand in without the writer's lock, and the rule of the queue that it goes through.
use Rattle.std.specs.Prelude.{◌≡◌, ◌≢◌, ◌⊎◌, ◌==◌, ◌<◌, ◌≤◌, ◌+◌, ◌-◌, ◌^◌, ℕ, max, cond, List, [], ◌∷◌, ◌++◌, length, Option, Some, None, MatchBool, MatchOption}
use mathlib.Core.Option.{some}
use lib.ListN.{get_elem?}
use Rattle.atomic_table.specs.Seated.{TableId}
use Rattle.disk_model.specs.Held.{Rose}
use Rattle.chronicle.specs.Seats.{Sight, Knows}
use Rattle.trail_files.specs.declared.audit_record.AuditRecord.{AuditRecord}
use Rattle.trail_files.specs.declared.rules.Rules.{Rules}
use Rattle.node_machine.specs.declared.event.Event.{Event}
use Rattle.node_machine.specs.Parts.{PartState, Fact}
use Rattle.node_machine.specs.Parts.Fact.{Made, Durable}
use Rattle.node_machine.specs.Opening.{Found, VolumeFound, found_volume}
use Rattle.node_machine.specs.Trail.{trail_of}
use Rattle.trail_files.specs.AuditRecord.{audit_format}
use Rattle.trail_files.specs.Format.{AllValid}
use Rattle.node_machine.specs.Node.{node}
use Rattle.audit_writer.specs.Handing.{disc_of, last_of}
use Rattle.audit_writer.specs.Writer.{AreFrom}

-- the position of the first record
abbrev pub start_of : List AuditRecord → ℕ
start_of [] = 0
start_of (r ∷ rs) = r.position

-- The records are some that a disc of this trail has made in this run, one behind the other, and the seat knows that it has made them.
pub record AreMadeBehind (opening : List PartState) (found : Found) (rules : Rules) (trail : ℕ) (caller : Sight Event) (disc : ℕ) (records : List AuditRecord) : Type 0 where
  pub volume : VolumeFound
  pub volume_is : found_volume found disc ≡ Some volume
  pub own : trail_of found.config disc ≡ trail
  pub number : disc ≤ 8
  pub begins : 1 ≤ volume.next
  -- those in front of the records, the first ones of this run
  pub front : List AuditRecord
  pub positions : AreFrom volume.next disc (front ++ records)
  pub last : ℕ
  pub made : Knows node opening caller (Made disc last (front ++ records))
  pub valid : AllValid (audit_format rules) records
  pub small : volume.next + length front + length records ≤ 2 ^ 62

-- a parcel: a disc's records, a note, and a position of the disc up to which the note knows all to be durable
pub record Packed : Type 0 where
  pub note : Sight Event
  pub records : List AuditRecord
  pub before : ℕ

abbrev pub packed : Sight Event → List AuditRecord → ℕ → Packed
packed note records before = record { note = note; records = records; before = before }

-- A parcel has records that a disc of this trail has made, 4,096 at most; its note knows that, and that all up to the position is durable.
pub record IsParcel (opening : List PartState) (found : Found) (rules : Rules) (trail : ℕ) (p : Packed) : Type 0 where
  pub some : p.records ≢ []
  pub few : length p.records ≤ 4096
  pub made : AreMadeBehind opening found rules trail p.note (disc_of p.records) p.records
  pub durable : Knows node opening p.note (Durable (disc_of p.records) p.before)

-- the parcel goes on behind this position of its disc, or behind what its note knows to be durable, where that is further
abbrev pub Follows : ℕ → Packed → Type 0
Follows from p = start_of p.records ≡ max from p.before + 1

-- the disc's parcels lead from one position to the other, each behind the one before it
abbrev pub Leads : ℕ → ℕ → List Packed → ℕ → Type 0
Leads d from [] to = from ≡ to
Leads d from (p ∷ ps) to = MatchBool (d == disc_of p.records) (Follows from p × Leads d (last_of p.records) ps to) (Leads d from ps to)

-- of a disc, the position that the newest of these reaches; 0 where there is none
abbrev pub reached : List (ℕ × ℕ) → ℕ → ℕ
reached [] d = 0
reached (x ∷ xs) d = cond (d == x.0) x.1 (reached xs d)

-- these, and then the parcel
abbrev pub and_then : Packed → List (ℕ × ℕ) → List (ℕ × ℕ)
and_then p from = (disc_of p.records, last_of p.records) ∷ from

-- what a pass of the queue may do
pub record Sharing : Type 0 where
  -- the discs for which it may push, each with the last position that was pushed for it
  pub hands : List (ℕ × ℕ)
  -- where it may pop, the discs of what was popped, each with its last position, newest first
  pub popped : Option (List (ℕ × ℕ))
  -- discs, each with a position that was pushed for it, as the pass was told
  pub told : List (ℕ × ℕ)

-- for no disc was anything pushed
abbrev pub all_discs : List (ℕ × ℕ)
all_discs = (1, 0) ∷ (2, 0) ∷ (3, 0) ∷ (4, 0) ∷ (5, 0) ∷ (6, 0) ∷ (7, 0) ∷ (8, 0) ∷ []

abbrev pub all_rights : Sharing
all_rights = record { hands = all_discs; popped = Some []; told = [] }

-- the pass that pops
abbrev pub popping : List (ℕ × ℕ) → List (ℕ × ℕ) → Sharing
popping from told = record { hands = []; popped = Some from; told = told }

-- the pass of one disc
abbrev pub one_disc : ℕ → ℕ → Sharing
one_disc disc to = record { hands = (disc, to) ∷ []; popped = None; told = [] }

-- a pass that may do nothing and was told nothing
abbrev pub no_rights : Sharing
no_rights = record { hands = []; popped = None; told = [] }

-- a pass that knows how far another one has pushed
abbrev pub told_of : Sharing → Sharing
told_of v = record { hands = []; popped = None; told = v.hands }

-- a pass that knows what this one was told
abbrev pub heard_of : Sharing → Sharing
heard_of v = record { hands = []; popped = None; told = v.told }

-- what another pass was told, this one was told too
abbrev pub with_told : Sharing → Sharing → Sharing
with_told v w = record v { told = w.told ++ v.told }

-- these without the disc
abbrev pub without : ℕ → List (ℕ × ℕ) → List (ℕ × ℕ)
without disc [] = []
without disc (x ∷ xs) = cond (x.0 == disc) (without disc xs) (x ∷ without disc xs)

abbrev pub without_pops : Sharing → Sharing
without_pops v = record { hands = v.hands; popped = None; told = v.told }

abbrev pub pops_of : Sharing → Sharing
pops_of v = record { hands = []; popped = v.popped; told = [] }

abbrev pub without_disc : ℕ → Sharing → Sharing
without_disc disc v = record { hands = without disc v.hands; popped = v.popped; told = v.told }

-- it stands among these
abbrev pub Has : List (ℕ × ℕ) → ℕ × ℕ → Type 0
Has [] x = ⊥
Has (y ∷ ys) x = (y ≡ x) ⊎ Has ys x

-- The parcels of each disc lead from what was popped to what was pushed. One pass at most may pop, and one push for each disc.
pub record IsRuled (parcels : List Packed) (views : List Sharing) : Type 0 where
  pub pushed : ℕ → ℕ
  pub popped : List (ℕ × ℕ)
  pub popper : ℕ
  pub pushers : ℕ → ℕ
  pub leads : (d : ℕ) → Leads d (reached popped d) parcels (pushed d)
  pub pops : (port : ℕ) (v : Sharing) (from : List (ℕ × ℕ)) → get_elem? views port ≡ some v → v.popped ≡ Some from → (port ≡ popper) × (from ≡ popped)
  pub pushes : (port : ℕ) (v : Sharing) (x : ℕ × ℕ) → get_elem? views port ≡ some v → Has v.hands x → (port ≡ pushers x.0) × (x.1 ≡ pushed x.0)
  pub tells : (port : ℕ) (v : Sharing) (x : ℕ × ℕ) → get_elem? views port ≡ some v → Has v.told x → x.1 ≤ pushed x.0

-- a disc's pass has pushed one of its parcels
abbrev pub HasPushed : Sharing → Packed → Sharing → Type 0
HasPushed v p w = w ≡ one_disc (disc_of p.records) (last_of p.records)

-- the pass is of the parcel's disc alone, and the parcel goes on behind what it has pushed
abbrev pub MayFollow : Sharing → Packed → Type 0
MayFollow v p = (to : ℕ) × (v ≡ one_disc (disc_of p.records) to) × Follows to p × (to ≤ last_of p.records)

-- the parcel was popped, which goes on behind those of its disc that were popped
abbrev pub HasPopped : Sharing → Packed → Sharing → Type 0
HasPopped v p w = MatchOption v.popped ⊥ (λ from. Follows (reached from (disc_of p.records)) p × (w ≡ popping (and_then p from) v.told))

-- all that the pass was told was popped
abbrev pub IsAllPopped : Sharing → Type 0
IsAllPopped v = (from : List (ℕ × ℕ)) → v.popped ≡ Some from → (x : ℕ × ℕ) → Has v.told x → x.1 ≤ reached from x.0

-- what a pass learns of an empty queue
abbrev pub EmptyTells : Sharing → List Packed → Type 0
EmptyTells v parcels = parcels ≡ [] → IsAllPopped v

-- stands where a queue has no name
abbrev pub no_queue : TableId
no_queue = record { words = 0; slots = 0; views_name = 0; atom = 0; block = 0; offset = 0; slot_names = [] }

-- what a disc's pass is seen as: its queue, the disc, the last position that it has pushed, 0 where it has pushed none, and how often it has found the
-- queue full, as far as 64 bits count
pub record Holding : Type 0 where
  pub queue : TableId
  pub disc : ℕ
  pub pushed : ℕ
  pub fulls : ℕ

-- one that has never found it full
abbrev pub holding : TableId → ℕ → ℕ → Holding
holding queue disc pushed = record { queue = queue; disc = disc; pushed = pushed; fulls = 0 }

-- it has pushed up to this position
abbrev pub has_pushed_to : ℕ → Holding → Holding
has_pushed_to to h = record h { pushed = to }

-- how far it has pushed, as a receipt tells it
abbrev pub told_by : Holding → Holding
told_by h = holding h.queue h.disc h.pushed

-- a push has found the queue full, and has pushed nothing
pub record WasFull (v w : Holding) : Type 0 where
  pub queue : w.queue ≡ v.queue
  pub disc : w.disc ≡ v.disc
  pub pushed : w.pushed ≡ v.pushed
  pub rose : Rose v.fulls w.fulls

-- all that was pushed up to the receipt's position is durable, where these facts are known; a receipt of position 0 tells nothing
abbrev pub IsReached : (Fact → Type 0) → Holding → Type 0
IsReached known h = 0 < h.pushed → known (Durable h.disc h.pushed)

-- the writer's end of a queue: which queue it is, its pass, how often its writer has turned to it for a parcel, and how many of its pops found none,
-- as far as 64 bits count
pub record QueueEnd : Type 0 where
  pub queue : TableId
  pub pass : Sharing
  pub turns : ℕ
  pub misses : ℕ

-- an end to which nobody has turned
abbrev pub queue_end : TableId → Sharing → QueueEnd
queue_end queue pass = record { queue = queue; pass = pass; turns = 0; misses = 0 }

-- the same end with another pass
abbrev pub with_pass : Sharing → QueueEnd → QueueEnd
with_pass pass e = record e { pass = pass }

-- it was told that the disc's parcels were pushed up to this position
abbrev pub has_heard : ℕ → ℕ → QueueEnd → QueueEnd
has_heard disc to e = with_pass (with_told e.pass (told_of (one_disc disc to))) e

-- so many turns, and so many of them found none, as long as 64 bits count the turns; no more turns than that in any case
abbrev pub HasTurned : ℕ → ℕ → QueueEnd → QueueEnd → Type 0
HasTurned turns misses v w = (w.turns ≤ v.turns + turns) × (w.turns < 2 ^ 64 - 1 → (w.turns ≡ v.turns + turns) × (w.misses ≡ v.misses + misses))

-- just one pop found none, as long as 64 bits count the turns
abbrev pub HasMissed : QueueEnd → QueueEnd → Type 0
HasMissed v w = w.turns < 2 ^ 64 - 1 → w.misses ≡ v.misses + 1

-- it is of the same queue, and was told the same; turns may have been made
pub record IsSameEnd (v w : QueueEnd) : Type 0 where
  pub queue : w.queue ≡ v.queue
  pub told : w.pass.told ≡ v.pass.told

-- A disc's pass may push these records as one parcel: its disc has made them, as the seat knows, and they go on behind what the pass has
-- pushed, or behind what the seat knows to be durable, where that is further.
pub record MayPush (opening : List PartState) (found : Found) (rules : Rules) (trail : ℕ) (seat : Sight Event) (pass : Holding) (before : ℕ) (records : List AuditRecord) : Type 0 where
  pub some : records ≢ []
  pub few : length records ≤ 4096
  pub disc : disc_of records ≡ pass.disc
  pub made : AreMadeBehind opening found rules trail seat (disc_of records) records
  pub durable : Knows node opening seat (Durable (disc_of records) before)
  pub follows : start_of records ≡ max pass.pushed before + 1
