-- A dump file that is kept may be joined with its part's seat.
use Rattle.std.specs.Prelude.{◌≡◌, ℕ, ◌<◌, ◌≤◌, IsTrue, IfSome, [], length, Option, Some, None, slice_get}
use Rattle.std.proofs.Common.{refl, sym, ap, subst, ◌∙◌, arith}
use Rattle.block_cache.specs.Blocks.{View as BlocksView}
use Rattle.chronicle.specs.Seats.{Sight, new_seat}
use Rattle.disk_model.specs.Held.{Held, IfThere}
use Rattle.disk_model.specs.declared.disk.Disk as disk
use Rattle.node_machine.proofs.Opened.{opening_dump}
use Rattle.node_machine.specs.Opening.{VolumeFound, dump_part, dump_with, found_volume}
use Rattle.node_machine.specs.Parts.{DumpPart, PartState}
use Rattle.node_machine.specs.Parts.PartState.{Dump}
use Rattle.node_machine.specs.declared.event.Event.{Event}
use Rattle.online_dump.specs.Dumper.{IsOpened as IsDumpOpened, IsWellFound, first_held, held_in}
use Rattle.online_dump.specs.Filling.{HoldsDump}
use Rattle.online_dump.specs.Found.{DumpView, IsFoundDump, start_in}
use Rattle.online_dump.specs.Seat.{DumpSight, dump_in, sight_of}
use Rattle.run_opening.specs.Dumps.{IsDumpKept}
use Rattle.run_opening.specs.Found.{volume_found}
use Rattle.run_opening.specs.Kept.{low_kept, start_kept}
use Rattle.run_opening.specs.Opening.{IsReachedIn}
use Rattle.run_opening.specs.declared.kept.Kept.TheVariants as kept
use Rattle.run_outcomes.specs.Devices.{dump_device, part_of_device, volume_device}
use Rattle.tmf_model.specs.Config.{IsDeclared}
use Rattle.trail_files.specs.Landed.{IsSettled}
use Rattle.run_states.specs.Begun.{Resting}
use Rattle.run_states.specs.Joined.{MayJoin}
use Rattle.run_states.proofs.DumpPosts.{part_dump}
use Rattle.run_states.proofs.Keeping.{F, O, Setting, count_given, dump_blocks, found_is, given, items, later_given, low_least, rest}

module _ {D : Type 0} (kind : disk.Ghosts D) (s : Setting kind) (v : ℕ) (file : DumpView D) (declared : IsDeclared s.config.volumes v) (at : slice_get (items kind s) (dump_device v) ≡ Some (kept.Dump file)) (device : D)
    (is : IsDumpKept kind v device file) (reached : IsReachedIn kind s.config (items kind s) (dump_device v) (kept.Dump file)) where
  few : v ≤ 8
  few = omega (arith, declared.below, s.may.valid.volumes.few)

  blocks : (blocks : BlocksView D) × (slice_get (items kind s) (volume_device v) ≡ Some (kept.Volume blocks))
  blocks = dump_blocks kind s v file at

  abbrev low : ℕ
  low = blocks.0.label.low

  abbrev entry : VolumeFound
  entry = volume_found kind s.config v (rest kind s v) blocks.0

  found : found_volume (F kind s) v ≡ Some entry
  found = found_is kind s v declared (kept.Volume blocks.0) blocks.1

  -- the volume counts on the dump that was found there
  start_is : rest kind s v ≡ start_in file.found
  start_is = ap start_kept at

  abbrev part : DumpPart
  part = record { config = s.config; number = v; rest = rest kind s v; events = [] }

  abbrev seat : Sight Event
  seat = new_seat (dump_part v)

  abbrev sight : DumpSight
  sight = record { part = part; sight = seat }

  opens : slice_get (O kind s) (dump_part v) ≡ Some (Dump part)
  opens = opening_dump (F kind s) v declared.above few ∙ ap (λ (o : Option VolumeFound). Some (dump_with s.config v o)) found

  sight_is : sight_of (O kind s) seat ≡ sight
  sight_is = ap (λ (o : Option PartState). record { part = dump_in o; sight = seat }) opens

  below : (o : Option ℕ) → start_in file.found ≡ o → IfSome o (λ start. start ≤ low)
  below None e = tt
  below (Some start) e =
      let told = reached v refl in
      let le : start ≤ told.0 = told.2 start e in
      let both : Some told.0 ≡ Some low = sym told.1 ∙ ap low_kept blocks.1 in
      let same : told.0 ≡ low = cc (both) in
      omega (arith, le, same)

  well : IsWellFound (found_volume (F kind s) v)
  well = subst IsWellFound (sym found) (some_low, subst (λ (o : Option ℕ). IfSome o (λ start. start ≤ low)) (sym start_is) (below (start_in file.found) refl)) where
    some_low : 1 ≤ low
    some_low = low_least kind s v declared blocks.0 blocks.1

  -- the device tells what it did, and holds what it held
  first_is : first_held kind s.handed_in v ≡ kind.held file.device
  first_is = ap (held_in kind.held) (given kind s (dump_device v) (kept.Dump file) at)

  rests_of : s.premise (dump_device v) → IsTrue (kind.tells file.device) × IfThere (kind.held file.device) 1 (λ f. IsSettled f × (0 < length f.bytes))
  rests_of p = subst (Resting kind s.before) at (s.may.name.rests (dump_device v) p)

  told_first : IsTrue (kind.tells file.device) → IsTrue (kind.tells device)
  told_first tells = sym is.reread.is_later.tells ∙ tells

  holds : s.premise (dump_device v) → IsTrue (kind.tells file.device) × HoldsDump kind.held file
  holds p =
      let r = rests_of p in
      (r.0, is.holds (told_first r.0) (subst (λ (h : Held). IfThere h 1 (λ f. IsSettled f × (0 < length f.bytes))) is.reread.same r.1))

  given_dump : s.premise (dump_device v) → IsFoundDump v (first_held kind s.handed_in v) file.found
  given_dump p =
      let r = rests_of p in
      subst (λ (h : Held). IsFoundDump v h file.found) (sym (first_is ∙ is.reread.same)) (is.found (told_first r.0))

  is_opened : IsDumpOpened kind (O kind s) (F kind s) s.faults s.premise s.handed_in sight file
  is_opened = record {
    at = record { opens = refl; seat = refl; at = opens; was = record { entry = entry; is = found; config = refl; rest = refl }; told = refl };
    valid = s.may.valid;
    none = refl;
    within = record { above = declared.above; below = few };
    well = well;
    volume = is.new.0;
    rest = start_is;
    next = is.new.1;
    device = later_given kind s (dump_device v) (kept.Dump file) at;
    before = (let count = count_given kind s (dump_device v) (kept.Dump file) at in omega (arith, count));
    as_found = sym first_is;
    holds = holds;
    given = given_dump;
  }

  pub join_dump : (r : Option ℕ) → MayJoin kind (O kind s) (F kind s) s.rules s.faults s.premise s.handed_in s.config (dump_device v) r (new_seat (part_of_device (dump_device v))) (kept.Dump file)
  join_dump r =
      subst (λ (p : ℕ). MayJoin kind (O kind s) (F kind s) s.rules s.faults s.premise s.handed_in s.config (dump_device v) r (new_seat p) (kept.Dump file)) (sym (part_dump v declared.above few))
      (sym (ap (λ (x : DumpSight). dump_device x.part.number) sight_is), subst (λ (x : DumpSight). IsDumpOpened kind (O kind s) (F kind s) s.faults s.premise s.handed_in x file) (sym sight_is) is_opened)
