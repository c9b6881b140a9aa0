-- The blocks of a volume that are kept may be joined with its part's seat.
use Rattle.std.specs.Prelude.{◌≡◌, ℕ, ◌+◌, ◌-◌, ◌≤◌, ◌==◌, Bool, true, false, IsTrue, if◌then◌else◌, List, [], Option, Some, None, slice_get, unwrap_or}
use Rattle.std.specs.Option.{option_map}
use Rattle.std.proofs.Common.{refl, sym, ap, subst, ◌∙◌, arith, inl}
use Rattle.block_cache.specs.Blocks.{View as BlocksView}
use Rattle.block_cache.specs.declared.frame.Frame.{Frame}
use Rattle.chronicle.specs.Seats.{Knows, Sight, new_seat}
use Rattle.disc_process.specs.Disc.{HoldsOpening, IsDiscSeat, IsFoundDisc, IsOpening, ToldBy, disc_in, first_found, next_in, the_disc}
use Rattle.disk_model.specs.declared.disk.Disk as disk
use Rattle.disc_process.proofs.Opening.{homes_of, label_here}
use Rattle.keyed_file.specs.Block.{value_at}
use Rattle.keyed_file.specs.Volume.{Contents, files_on}
use Rattle.node_machine.specs.Made.{blocks_of, home_block, map_of, volume_of}
use Rattle.tmf_model.specs.Place.{block_of}
use Rattle.node_machine.proofs.Opened.{opening_disc, opening_trail}
use Rattle.node_machine.specs.Node.{node}
use Rattle.node_machine.specs.Opening.{TrailFound, VolumeFound, disc_part, disc_with, firsts_on, found_volume, trail_part, trail_with}
use Rattle.node_machine.specs.Parts.{DiscPart, Entry, TrailPart}
use Rattle.node_machine.specs.Parts.Fact.{Durable}
use Rattle.node_machine.specs.Parts.PartState.{Disc, Trail}
use Rattle.node_machine.specs.Trail.{first_of, trail_of}
use Rattle.node_machine.specs.declared.event.Event.{Event}
use Rattle.run_opening.specs.Entries.{entries_on}
use Rattle.run_opening.specs.Found.{tells_base, trail_of as trail_kept, volume_found}
use Rattle.run_opening.specs.Kept.{AreBlocksKept}
use Rattle.run_opening.specs.declared.kept.Kept.TheVariants as kept
use Rattle.run_outcomes.specs.Devices.{part_of_device, volume_device}
use Rattle.tmf_model.specs.Config.{IsDeclared, IsNumber, IsWithin}
use Rattle.tmf_model.specs.declared.config.Volume.{Volume}
use Rattle.trail_files.specs.AuditFormat.{is_disc_of, is_file_of}
use Rattle.trail_files.specs.declared.rules.Rules.{Rules}
use Rattle.std.proofs.lemmas.Bool.{and_parts}
use Rattle.std.proofs.lemmas.Option.{slice_get_within}
use Rattle.std.proofs.lemmas.List.Elements.{All-get_or}
use Rattle.std.proofs.lemmas.Option.{slice_get-get_or}
use Rattle.std.proofs.Common.{get_or}
use Rattle.run_states.specs.Joined.{MayJoin}
use Rattle.run_states.proofs.Firsts.{first_on, off, trail_is}
use Rattle.run_states.proofs.Fresh.{is_fresh, part_disc}
use Rattle.run_states.proofs.Keeping.{F, O, Setting, as_given, count_given, found_is, found_place, items, later_given, line_there, rest, trail_there}
use Rattle.run_states.proofs.Ruled.{disc_named, file_named}

some_same : {A : Type 0} (o : Option A) (x y : A) → o ≡ Some x → o ≡ Some y → x ≡ y
some_same o x y is_x is_y = (let e : Some x ≡ Some y = sym is_x ∙ is_y in cc (e))

module _ {D : Type 0} (kind : disk.Ghosts D) (s : Setting kind) (v : ℕ) (blocks : BlocksView D) (declared : IsDeclared s.config.volumes v) (at : slice_get (items kind s) (volume_device v) ≡ Some (kept.Volume blocks)) (device : D)
    (is : AreBlocksKept kind s.config v device blocks) where
  few : v ≤ 8
  few = omega (arith, declared.below, s.may.valid.volumes.few)

  abbrev low : ℕ
  low = blocks.label.low

  abbrev entry : VolumeFound
  entry = volume_found kind s.config v (rest kind s v) blocks

  found : found_volume (F kind s) v ≡ Some entry
  found = found_is kind s v declared (kept.Volume blocks) at

  abbrev part : DiscPart
  part = record { config = s.config; number = v; base = entry.base; first = low; low = low; rest = rest kind s v; events = [] }

  abbrev seat : Sight Event
  seat = new_seat (disc_part v)

  opens : slice_get (O kind s) (disc_part v) ≡ Some (Disc part)
  opens = opening_disc (F kind s) v declared.above few ∙ ap (λ (o : Option VolumeFound). Some (disc_with s.config v o)) found

  disc_is : the_disc (O kind s) seat ≡ part
  disc_is = ap disc_in opens

  line : (line : Volume) × IsNumber s.config.volumes v line
  line = line_there s.config v declared

  abbrev trail : ℕ
  trail = trail_of s.config v

  -- the volume's trail is declared
  trail_declared : IsDeclared s.config.trails trail
  trail_declared =
      let lt = slice_get_within s.config.volumes (v - 1) line.0 line.1.1 in
      let same : get_or s.config.volumes (v - 1) line.0 ≡ line.0 = some_same (slice_get s.config.volumes (v - 1)) (get_or s.config.volumes (v - 1) line.0) line.0 (slice_get-get_or s.config.volumes (v - 1) line.0 lt) line.1.1 in
      subst (IsDeclared s.config.trails) (sym (trail_is s.config v line.0 line.1))
      (subst (λ (x : Volume). IsDeclared s.config.trails x.trail) same (All-get_or (λ (x : Volume). IsDeclared s.config.trails x.trail) s.config.volumes (v - 1) line.0 lt s.may.valid.volumes.declared))

  -- below its next position all is durable: there is no record of this run
  durable : Knows node (O kind s) seat (Durable v (low - 1))
  durable =
      let t : TrailFound = trail_kept (slice_get (items kind s) trail) in
      let firsts = firsts_on (F kind s) trail 1 (F kind s).volumes in
      let state : TrailPart = record { config = s.config; number = trail; old = t.old; present = t.present; firsts = firsts; events = [] } in
      let there : slice_get (O kind s) (trail_part trail) ≡ Some (Trail state) =
      opening_trail (F kind s) trail trail_declared.above (omega (arith, trail_declared.below, s.may.valid.trails.few))
      ∙ ap (λ (o : Option TrailFound). Some (trail_with s.config trail firsts o)) (trail_there kind s trail trail_declared.above trail_declared.below) in
      let same : 1 + (v - 1) ≡ v = omega (arith, declared.above) in
      let first : first_of firsts (1 + (v - 1)) ≡ low = first_on (F kind s) trail 1 (F kind s).volumes (v - 1) entry (found_place kind s v blocks declared at) (ap (trail_of s.config) same) in
      let own : first_of firsts v ≡ low = ap (first_of firsts) (sym same) ∙ first in
      let some = is.1.valid.label.low.above in
      (trail_part trail, Trail state, there, (refl, inl (omega (arith, own, some))))

  -- the rules of the volume's trail name the disc and its files
  is_found : IsFoundDisc (F kind s) (s.rules trail) s.config v
  is_found = record {
    entry = entry;
    is = found;
    config_is = refl;
    disc_of = ap (λ (r : Rules). is_disc_of r v) (s.may.name.rules_are trail) ∙ disc_named s.config v line.0 line.1;
    file_of = λ f own. ap (λ (r : Rules). is_file_of r f v) (s.may.name.rules_are trail) ∙ file_named s.config v line.0 line.1 f own;
  }

  is_seat : IsDiscSeat (O kind s) s.config v (first_found (F kind s) v) seat
  is_seat = record {
    part = refl;
    at = opens ∙ ap (λ (d : DiscPart). Some (Disc d)) (sym disc_is);
    config_is = ap (λ (d : DiscPart). d.config) disc_is;
    number = ap (λ (d : DiscPart). d.number) disc_is;
    first = ap (λ (d : DiscPart). d.first) disc_is ∙ sym (ap next_in found);
  }

  abbrev entries : List Entry
  entries = entries_on (kind.held blocks.device) (files_on v 1 s.config.files)

  -- a block that is not empty has the value of each key of its own
  abbrev value_in : Contents → ℕ → List ℕ → ℕ → Option (List ℕ)
  value_in contents f k count = if count == 0 then None else value_at (contents f (block_of k count)) k

  some_value : (contents : Contents) (f : ℕ) (k : List ℕ) (count : ℕ) → 1 ≤ count → value_in contents f k count ≡ value_at (contents f (block_of k count)) k
  some_value contents f k count some = ap (λ (b : Bool). if b then None else value_at (contents f (block_of k count)) k) (off count 0 (λ e. absurd (omega (arith, e, some))))

  -- the blocks hold the records that were found, in every image
  holds_opening : IsTrue (tells_base kind s.config v blocks.device) → HoldsOpening kind.tells kind.held part blocks (map_of entries)
  holds_opening tells =
      let h = s.values s.config v device blocks is tells in
      let landed : (f : ℕ) (k : List ℕ) → volume_of s.config f ≡ v → value_at (h.0 f (home_block s.config f k)) k ≡ map_of entries f k =
      λ f k own. sym (h.2 f k ∙ ap (value_in h.0 f k) (label_here s.config v f own) ∙ some_value h.0 f k (blocks_of s.config f) (homes_of s.config v f s.may.valid declared.above own).above) in
      record {
        landed = h.0;
        next = h.0;
        told = (and_parts (kind.tells blocks.device) _ tells).0;
        holds = h.1;
        same = λ f k own. ap (λ (o : Option Frame). value_at (unwrap_or (option_map (λ x. x.block) o) (h.0 f (home_block s.config f k))) k) (is.1.empty f (home_block s.config f k)) ∙ landed f k own;
        landed_is = landed;
      }

  values_told : (b : Bool) → tells_base kind s.config v blocks.device ≡ b → ToldBy (if b then Some entries else None) (HoldsOpening kind.tells kind.held part blocks)
  values_told true tells = holds_opening tells
  values_told false tells = tt

  is_opening : IsOpening kind (O kind s) (F kind s) s.rules s.faults s.handed_in s.config v blocks low (rest kind s v) seat
  is_opening = record {
    fresh = is_fresh (F kind s);
    valid = s.may.valid;
    declared = declared;
    is_found = is_found;
    seat = is_seat;
    still = ap (λ (d : DiscPart). d.events) disc_is;
    position = sym (ap (λ (d : DiscPart). d.first) disc_is);
    first = is.1.valid.label.low.above;
    few = is.1.valid.label.low.below;
    values = subst (λ (d : DiscPart). ToldBy d.base (HoldsOpening kind.tells kind.held d blocks)) (sym disc_is) (values_told (tells_base kind s.config v blocks.device) refl);
    label = is.1.label;
    empty = is.1.empty;
    durable = durable;
    settled = is.1.settled;
    low = ap (λ (d : DiscPart). d.low) disc_is;
    behind = omega arith;
    rest_is = ap (λ (d : DiscPart). d.rest) disc_is;
    unwritten = as_given kind s (volume_device v) (kept.Volume blocks) at;
    holds_device = record { handed = later_given kind s (volume_device v) (kept.Volume blocks) at; rise = λ lt. (let count = count_given kind s (volume_device v) (kept.Volume blocks) at in omega (arith, count)) };
  }

  pub join_volume : MayJoin kind (O kind s) (F kind s) s.rules s.faults s.premise s.handed_in s.config (volume_device v) (rest kind s v) (new_seat (part_of_device (volume_device v))) (kept.Volume blocks)
  join_volume =
      let within : IsWithin 5 12 (volume_device v) = record { above = omega (arith, declared.above); below = omega (arith, few) } in
      let same : v ≡ volume_device v - 4 = omega arith in
      subst (λ (p : ℕ). MayJoin kind (O kind s) (F kind s) s.rules s.faults s.premise s.handed_in s.config (volume_device v) (rest kind s v) (new_seat p) (kept.Volume blocks)) (sym (part_disc v declared.above few))
      (within, subst (λ (n : ℕ). IsOpening kind (O kind s) (F kind s) s.rules s.faults s.handed_in s.config n blocks low (rest kind s v) seat) same is_opening)
