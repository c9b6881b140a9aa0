-- The copy of a block of a disc whose lock is held.
use Rattle.std.specs.Prelude.{IfSome, IsSome}
use Rattle.std.specs.Option.{MatchOption}
use Rattle.std.proofs.Common.{◌≡◌, ℕ, ◌+◌, ◌<◌, ◌≤◌, List, [], ◌++◌, Option, Some, None, refl, ap, sym, ◌∙◌, subst, arith, append-nil}
use mathlib.Core.List.{IsPrefix}
use Rattle.chronicle.specs.Seats.{Knows, own_events}
use Rattle.disk_model.specs.declared.disk.Disk as disk
use Rattle.tmf_model.specs.Config.{IsWithin}
use Rattle.tmf_model.specs.RecordMap.{RecordMap}
use Rattle.tmf_model.specs.declared.config.Config.{Config}
use Rattle.tmf_model.specs.declared.transid.Transid.{Transid}
use Rattle.trail_files.specs.Recovered.{after_last_of, records_on}
use Rattle.trail_files.specs.declared.audit_record.AuditRecord.{AuditRecord}
use Rattle.keyed_file.specs.Block.{KeyedBlock, value_at}
use Rattle.keyed_file.specs.BlockFormat.{is_at_home}
use Rattle.keyed_file.specs.Dump.{blocks_in_all}
use Rattle.keyed_file.specs.Volume.{files_on}
use Rattle.block_cache.specs.Blocks.{View}
use Rattle.node_machine.specs.declared.event.By.TheVariants.{Attempt}
use Rattle.node_machine.specs.Made.{blocks_of, home_block, made, map_of, next_position, values_after, volume_of}
use Rattle.node_machine.specs.Node.{node}
use Rattle.node_machine.specs.Opening.{Found, VolumeFound, disc_with, found_volume, opening_parts}
use Rattle.node_machine.specs.Parts.{DiscPart, DumpPart, Entry, Fact, PartState}
use Rattle.node_machine.specs.Parts.Fact.{Made}
use Rattle.node_machine.specs.Parts.PartState.{Worker, Disc, Trail, Monitor, Dump, Idle}
use Rattle.audit_writer.specs.declared.lock.FlushRefused.TheVariants as stopped
use Rattle.disc_process.specs.declared.refused.WriteRefused.{WriteRefused}
use Rattle.disc_process.specs.declared.refused.WriteRefused.TheVariants as refused
use Rattle.disc_process.specs.Copied.{HasCopied}
use Rattle.disc_process.specs.Disc.{DiscView, ToldBy as DiscToldBy}
use Rattle.disc_process.specs.Draw.{HasDrawn, HasSoughtRoom, SameWork}
use Rattle.disc_process.specs.Later.{IsLawful}
use Rattle.disc_process.specs.Write.{IsUnread}
use Rattle.disc_process.proofs.Drawing.{values_at_end}
use Rattle.disc_process.proofs.Drawn.{draws_then, refusal_more}
use Rattle.disc_process.proofs.Handing.{all_up_to}
use Rattle.disc_process.proofs.Rooms.{room_before, sought_before}
use Rattle.online_dump.specs.AtDisc.{HasOnlySeen}
use Rattle.online_dump.specs.Copies.{IsContentBehind, ToldBy, files_of}
use Rattle.online_dump.specs.Dumper.{AreCopied, Dumper, IsCopying, base_found, base_in, open_dump, open_in}
use Rattle.online_dump.specs.Dumping.{MayCopyNext}
use Rattle.online_dump.specs.Places.{StandsIn}
use Rattle.online_dump.specs.Seat.{IsDumpAt}
use Rattle.online_dump.specs.declared.copying.Copying.{Copying}
use Rattle.online_dump.proofs.AtDisc.{orderly_here, start_behind, was_found}
use Rattle.online_dump.proofs.Dumped.{of_current, open_is}
use Rattle.online_dump.proofs.Meetings.{same_open, same_part}
use Rattle.online_dump.proofs.Places.{there_block}

abbrev disc_config : PartState → Config → Config
disc_config (Disc s) other = s.config
disc_config (Worker s) other = other
disc_config (Trail s) other = other
disc_config (Monitor s) other = other
disc_config (Dump s) other = other
disc_config Idle other = other

abbrev disc_base : PartState → Option (List Entry)
disc_base (Disc s) = s.base
disc_base (Worker s) = None
disc_base (Trail s) = None
disc_base (Monitor s) = None
disc_base (Dump s) = None
disc_base Idle = None

config_with : (config : Config) (n : ℕ) (v : Option VolumeFound) → disc_config (disc_with config n v) config ≡ config
config_with config n None = refl
config_with config n (Some v) = refl

base_with : (config : Config) (n : ℕ) (v : Option VolumeFound) → disc_base (disc_with config n v) ≡ base_in v
base_with config n None = refl
base_with config n (Some v) = refl

module _ {D : Type 0} (kind : disk.Ghosts D) (opening : List PartState) (found : Found) (opens : opening ≡ opening_parts found) (disc : DiscView D) (lawful : IsLawful kind opening disc) where
  pub config_here : disc.part.config ≡ found.config
  config_here = sym (ap (λ (s : PartState). disc_config s found.config) (was_found kind opening found opens disc lawful)) ∙ config_with found.config disc.part.number (found_volume found disc.part.number)

  pub base_here : disc.part.base ≡ base_found found disc.part.number
  base_here = sym (ap disc_base (was_found kind opening found opens disc lawful)) ∙ base_with found.config disc.part.number (found_volume found disc.part.number)

-- THE COPY

-- a block that was not read behind a meeting
pub unread_met : {D : Type 0} (kind : disk.Ghosts D) (t : Transid) (f n : ℕ) (old mid new : DiscView D) → mid.part ≡ old.part → mid.blocks ≡ old.blocks → IsPrefix old.seat.seen mid.seat.seen → own_events mid.seat ≡ own_events old.seat
    → kind.faults mid.blocks.device ≤ kind.faults new.blocks.device → (e : WriteRefused) → IsUnread kind t f n mid new e → IsUnread kind t f n old new e
unread_met {D} kind t f n old mid new part blocks begins mine later e h = of e h where
  own : own_events mid.seat ≡ own_events old.seat ++ []
  own = mine ∙ sym (append-nil (own_events old.seat))

  less : kind.faults old.blocks.device ≤ kind.faults mid.blocks.device
  less = (let same = ap (λ (v : View D). kind.faults v.device) blocks in omega (arith, same))

  sought : HasSoughtRoom (Attempt t) mid.blocks f n mid.seat new.seat → HasSoughtRoom (Attempt t) old.blocks f n old.seat new.seat
  sought h = sought_before (Attempt t) old.blocks mid.blocks f n old.seat mid.seat new.seat blocks mine h

  of : (e : WriteRefused) → IsUnread kind t f n mid new e → IsUnread kind t f n old new e
  of refused.NoMemory h = (draws_then old.seat mid.seat new.seat [] refl own h.0, sought h.1)
  of (refused.Failed device) h = (
    refusal_more kind.faults (Attempt t) old mid new (stopped.Failed device) [] (ap (λ (s : DiscPart). s.config) part) (ap (λ (s : DiscPart). s.number) part) begins own refl less later h.0,
    sought h.1,
  )
  of (refused.Damaged device damage) h = (h.0 ∙ ap (λ (s : DiscPart). 4 + s.number) part, draws_then old.seat mid.seat new.seat [] refl own h.1, h.2, room_before old.blocks mid.blocks f n old.seat mid.seat new.seat blocks mine h.3)
  of (refused.Spent part_) h = absurd h
  of (refused.Busy holder_) h = absurd h
  of refused.Full h = absurd h
  of (refused.Refused reason) h = absurd h

pub draws_met : {D : Type 0} (old mid new : DiscView D) → own_events mid.seat ≡ own_events old.seat → HasDrawn mid.seat new.seat → HasDrawn old.seat new.seat
draws_met old mid new mine h = draws_then old.seat mid.seat new.seat [] refl (mine ∙ sym (append-nil (own_events old.seat))) h

module _ {D : Type 0} (kind : disk.Ghosts D) (opening : List PartState) (found : Found) (opens : opening ≡ opening_parts found) (new : DiscView D) (lawful : IsLawful kind opening new)
    (part : DumpPart) (number : new.part.number ≡ part.number) (config : part.config ≡ found.config) (within : IsWithin 1 8 part.number) where
  same_config : new.part.config ≡ part.config
  same_config = config_here kind opening found opens new lawful ∙ sym config

  values_here : (f n position : ℕ) (content : KeyedBlock) → position + 1 ≡ next_position new.part → (o : Option (List Entry))
      → DiscToldBy o (λ base. (k : List ℕ) → home_block new.part.config f k ≡ n → value_at content k ≡ values_after base new.part.events f k)
      → ToldBy o (λ map. IsContentBehind part.config map (made new.part.events) f n content)
  values_here f n position content last None h = tt
  values_here f n position content last (Some entries) h = λ key home.
      let base : RecordMap = map_of entries in
      let below : (r : AuditRecord) → Rattle.node_machine.specs.Same.Among (made new.part.events) r → r.position ≤ position =
      (λ r there. (let lt = ((orderly_here kind opening found opens new lawful (subst (λ (m : ℕ). IsWithin 1 8 m) (sym number) within)).from r there).1 in omega (arith, lt, last))) in
      h key (ap (λ (c : Config). home_block c f key) same_config ∙ home)
      ∙ sym (values_at_end base position f key new.part.events (λ r there same. below r there))
      ∙ ap (λ (xs : List AuditRecord). after_last_of (records_on f key xs) (base f key)) (all_up_to position (made new.part.events) below)

  -- the block that was copied may be the next one of the body
  pub copies_here : (place f n position : ℕ) (bytes : List ℕ) (filled : Option ℕ) (c : Copying) (known : Fact → Type 0) → filled ≡ Some place → StandsIn (files_of part) place f n → HasCopied new f n bytes position
      → c.start ≤ next_position new.part → known (Made part.number position (made new.part.events)) → MayCopyNext known (base_found found part.number) part filled f n position bytes c
  copies_here place f n position bytes filled c known filled_is stands copied behind is_made = record {
    here = there_block part f n stands.within;
    at = filled_is ∙ ap (λ (k : ℕ). Some k) (sym stands.at);
    behind = (let last = copied.last in omega (arith, behind, last));
    records = made new.part.events;
    is_made = is_made;
    content = copied.block;
    fits = record { valid = copied.valid; home = ap (λ (s : Config). is_at_home (Some (record { file = f; number = n; blocks = blocks_of s f })) copied.block) (sym same_config) ∙ copied.home };
    spelled = copied.spelled;
    values = subst (λ (m : ℕ). ToldBy (base_found found m) (λ map. IsContentBehind part.config map (made new.part.events) f n copied.block)) number
        (values_here f n position copied.block copied.last (base_found found new.part.number)
        (subst (λ (o : Option (List Entry)). DiscToldBy o (λ base. (k : List ℕ) → home_block new.part.config f k ≡ n → value_at copied.block k ≡ values_after base new.part.events f k)) (base_here kind opening found opens new lawful) copied.values));
  }

open_filled : (filled : Option ℕ) (current : Option Copying) → IsSome (open_in filled current) → IsSome filled
open_filled None current some = absurd (cc (some))
open_filled (Some blocks) current some = refl

-- the body of a dump that is open takes blocks
pub filled_there : {D : Type 0} (w : Dumper D) → IsSome (open_dump w) → w.file.filled ≡ None → ⊥
filled_there w some none = (let there = open_filled w.file.filled w.current some in absurd (cc (there, none)))

-- the block that was copied may be put, by what the device has seen since
pub may_put : {D : Type 0} (kind : disk.Ghosts D) (opening : List PartState) (found : Found) (mid new : DiscView D) (w u : Dumper D) (place f n position : ℕ) (bytes : List ℕ) → IsLawful kind opening mid → IsLawful kind opening new → IsDumpAt opening found w.seat
    → IsWithin 1 8 w.seat.part.number → mid.part.number ≡ w.seat.part.number → new.part.number ≡ mid.part.number → mid.seat.seen ≡ w.seat.sight.seen → IfSome w.current (IsCopying (Knows node opening w.seat.sight) w.seat.part w.file.filled) → IsSome (open_dump w)
    → w.file.filled ≡ Some place → StandsIn (files_of w.seat.part) place f n → SameWork mid.part new.part → HasCopied new f n bytes position → HasOnlySeen opening found w u
    → Knows node opening u.seat.sight (Made new.part.number position (made new.part.events))
    → MatchOption (open_dump u) ⊥ (MayCopyNext (Knows node opening u.seat.sight) (base_found found u.seat.part.number) u.seat.part u.file.filled f n position bytes)
may_put kind opening found mid new w u place f n position bytes lawful after is within number kept same copying opened filled stands work copied later known =
    let part : w.seat.part ≡ u.seat.part = sym (same_part opening found w u u later) in
    let body : w.file.filled ≡ u.file.filled = sym (ap (λ x. x.filled) later.file) in
    let here : open_dump w ≡ open_dump u = sym (same_open opening found w u u later) in
    subst (λ (x : DumpPart × (Option ℕ × Option Copying)). MatchOption x.1.1 ⊥ (MayCopyNext (Knows node opening u.seat.sight) (base_found found x.0.number) x.0 x.1.0 f n position bytes)) (λ i. (part i, (body i, here i)))
    (of (open_dump w) (λ c e. e) opened)
  where
    of : (o : Option Copying) → ((c : Copying) → o ≡ Some c → open_dump w ≡ Some c) → IsSome o → MatchOption o ⊥ (MayCopyNext (Knows node opening u.seat.sight) (base_found found w.seat.part.number) w.seat.part w.file.filled f n position bytes)
    of None e some = absurd (cc (some))
    of (Some c) e some =
        let current : w.current ≡ Some c = (open_is w.file.filled w.current c (e c refl)).0 in
        let it = of_current (IsCopying (Knows node opening w.seat.sight) w.seat.part w.file.filled) w.current c current copying in
        let behind = start_behind kind opening found mid w.seat lawful is within number same c.number c.start it.started in
        let next = work.next in
        copies_here kind opening found is.opens new after w.seat.part (kept ∙ number) is.was.config within place f n position bytes w.file.filled c (Knows node opening u.seat.sight) filled stands copied (omega (arith, behind, next))
        (subst (λ (k : ℕ). Knows node opening u.seat.sight (Made k position (made new.part.events))) (kept ∙ number) known)

-- the place behind the last block is how many there are
pub all_filled : {D : Type 0} (opening : List PartState) (w : Dumper D) (place : ℕ) → IfSome w.current (IsCopying (Knows node opening w.seat.sight) w.seat.part w.file.filled) → IsSome (open_dump w) → w.file.filled ≡ Some place
    → blocks_in_all (files_of w.seat.part) ≤ place → w.file.filled ≡ Some (blocks_in_all (files_of w.seat.part))
all_filled opening w place copying opened filled none = of (open_dump w) (λ c e. e) opened where
  of : (o : Option Copying) → ((c : Copying) → o ≡ Some c → open_dump w ≡ Some c) → IsSome o → w.file.filled ≡ Some (blocks_in_all (files_of w.seat.part))
  of None e some = absurd (cc (some))
  of (Some c) e some =
      let current : w.current ≡ Some c = (open_is w.file.filled w.current c (e c refl)).0 in
      let it = of_current (IsCopying (Knows node opening w.seat.sight) w.seat.part w.file.filled) w.current c current copying in
      let are : AreCopied w.seat.part c.number place = subst (λ (x : Option ℕ). IfSome x (AreCopied w.seat.part c.number)) filled it.are in
      let few = are.few in
      filled ∙ ap (λ (k : ℕ). Some k) (omega (arith, few, none))

-- the files of the disc's configuration on its volume are those of the dump device
pub files_here : {D : Type 0} (kind : disk.Ghosts D) (opening : List PartState) (found : Found) (disc : DiscView D) (w : Dumper D) (volume : ℕ) (config : Config) → IsDumpAt opening found w.seat → IsLawful kind opening disc → disc.part.number ≡ w.seat.part.number
    → volume ≡ w.seat.part.number → config ≡ disc.part.config → files_on volume 1 config.files ≡ files_of w.seat.part
files_here kind opening found disc w volume config is lawful number volume_is config_is =
    let same = config_is ∙ config_here kind opening found is.opens disc lawful ∙ sym is.was.config in
    ap (λ (x : ℕ × Config). files_on x.0 1 x.1.files) (λ i. (volume_is i, same i))

-- the block at a place of the body is one of the disc's
pub block_of : {D : Type 0} (kind : disk.Ghosts D) (opening : List PartState) (found : Found) (disc : DiscView D) (w : Dumper D) (place f n : ℕ) → IsDumpAt opening found w.seat → IsWithin 1 8 w.seat.part.number → IsLawful kind opening disc
    → disc.part.number ≡ w.seat.part.number → StandsIn (files_of w.seat.part) place f n → (volume_of disc.part.config f ≡ disc.part.number) × (n < blocks_of disc.part.config f)
block_of kind opening found disc w place f n is within lawful number stands =
    let same : disc.part.config ≡ w.seat.part.config = same_config kind opening found is.opens disc lawful w.seat.part number is.was.config within in
    let it = there_block w.seat.part f n stands.within in
    (ap (λ (k : Config). volume_of k f) same ∙ it.here ∙ sym number, subst (λ (k : Config). n < blocks_of k f) (sym same) it.within)
