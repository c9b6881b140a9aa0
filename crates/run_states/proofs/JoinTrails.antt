-- An audit trail that is kept may be joined with its part's seat.
use Rattle.std.specs.Prelude.{◌≡◌, ℕ, ◌+◌, ◌-◌, ◌≤◌, Bool, cond, IsTrue, IfSome, List, [], ◌∷◌, ◌++◌, length, Option, Some, None, slice_get, option_map, unwrap_or}
use Rattle.std.proofs.Common.{refl, sym, ap, subst, ◌∙◌, arith, inl, append-nil}
use Rattle.std.proofs.Math.Logic.{∥∥₁_elim}
use Rattle.std.proofs.lemmas.Bool.{le-leb}
use base.Stored.{Coded-set}
use Rattle.audit_writer.specs.Seat.{TrailSight, sight_of, trail_in}
use Rattle.audit_writer.specs.Writer.{IsOpened as IsTrailOpened, Stands, disc_made, placed_of}
use Rattle.chronicle.specs.Seats.{Sight, new_seat}
use Rattle.disk_model.specs.declared.disk.Disk as disk
use Rattle.node_machine.proofs.Opened.{opening_trail}
use Rattle.node_machine.specs.Opening.{TrailFound, VolumeFound, firsts_on, found_volume, trail_part, trail_with}
use Rattle.node_machine.specs.Parts.{PartState, Standing, TrailPart}
use Rattle.node_machine.specs.Parts.PartState.{Trail}
use Rattle.node_machine.specs.Trail.{first_of}
use Rattle.node_machine.specs.declared.event.Event.{Event}
use Rattle.run_opening.specs.Codes.{placed_code}
use Rattle.run_opening.specs.Found.{standings, trail_of as trail_kept}
use Rattle.run_opening.specs.Opening.{IsKept}
use Rattle.run_opening.specs.Placed.{AuditView, HasPlaced, HasPlacedAlone, is_at_rest}
use Rattle.run_opening.specs.declared.kept.Kept.{Kept}
use Rattle.run_opening.specs.declared.kept.Kept.TheVariants as kept
use Rattle.run_outcomes.specs.Devices.{part_of_device, volume_device}
use Rattle.tmf_model.specs.Config.{IsDeclared, IsWithin}
use Rattle.trail_files.specs.AuditOrder.{is_audit_order, last_position}
use Rattle.trail_files.specs.AuditRecord.{audit_format}
use Rattle.trail_files.specs.Content.{Pending, Placed, batch_of, from_file, in_file, landed_in, phase_of}
use Rattle.trail_files.specs.Content.Pending.{Nothing, Loaded, Offered, Rolling}
use Rattle.trail_files.specs.Text.{Spells}
use Rattle.trail_files.specs.Trail.{Rests}
use Rattle.trail_files.specs.declared.audit_record.AuditRecord.{AuditRecord}
use Rattle.trail_files.specs.declared.trail.TrailPhase.TheVariants as phase
use Rattle.trail_replay.specs.Landed.{HasLanded}
use Rattle.trail_replay.specs.Rules.{rules_of}
use Rattle.run_states.specs.Begun.{Resting}
use Rattle.run_states.specs.Joined.{MayJoin}
use Rattle.run_states.proofs.AtRest.{at_rest, rest_tells}
use Rattle.run_states.proofs.Firsts.{numbered_is, on_first, trail_is}
use Rattle.run_states.proofs.Keeping.{F, O, Setting, blocks_at, count_given, items, later_given, line_there, trail_there, was_kept}
use Rattle.run_states.proofs.Lasts.{next_last}
use Rattle.run_states.proofs.Posts.{part_trail}

ready_nothing : (p : Pending AuditRecord) → phase_of p ≡ phase.Ready → p ≡ Nothing
ready_nothing Nothing e = refl
ready_nothing (Loaded batch) e = absurd (cc (e))
ready_nothing (Offered batch) e = absurd (cc (e))
ready_nothing Rolling e = absurd (cc (e))

-- all records stand in files from 0 on
all_from : (xs : List (Placed AuditRecord)) → xs ≡ from_file 0 (placed_of (standings xs ++ []))
all_from [] = refl
all_from (x ∷ xs) =
    ap (λ (l : List (Placed AuditRecord)). x ∷ l) (all_from xs)
    ∙ sym (ap (λ (b : Bool). cond b (x ∷ from_file 0 (placed_of (standings xs ++ []))) (from_file 0 (placed_of (standings xs ++ [])))) (le-leb 0 x.0 (omega arith)))

module _ {D : Type 0} (kind : disk.Ghosts D) (s : Setting kind) (n : ℕ) (a : AuditView D) (at : slice_get (items kind s) n ≡ Some (kept.Audit a)) (device : D) (was : slice_get s.old n ≡ Some device)
    (is : IsKept kind s.config s.epoch s.named n device (kept.Audit a)) where
  few : n ≤ 4
  few = (let le = is.1 in omega (arith, le, s.may.valid.trails.few))

  abbrev part : TrailPart
  part = record { config = s.config; number = n; old = option_map standings a.placed; present = a.trail.file; firsts = firsts_on (F kind s) n 1 (F kind s).volumes; events = [] }

  abbrev seat : Sight Event
  seat = new_seat (trail_part n)

  abbrev sight : TrailSight
  sight = record { part = part; sight = seat }

  opens : slice_get (O kind s) (trail_part n) ≡ Some (Trail part)
  opens =
      opening_trail (F kind s) n is.0 few
      ∙ ap (λ (o : Option TrailFound). Some (trail_with s.config n (firsts_on (F kind s) n 1 (F kind s).volumes) o)) (trail_there kind s n is.0 is.1 ∙ ap (λ (o : Option (Kept D)). Some (trail_kept o)) at)

  sight_is : sight_of (O kind s) seat ≡ sight
  sight_is = ap (λ (o : Option PartState). record { part = trail_in o; sight = seat }) opens

  -- the volume that stands at a place of those that were found
  found_there : (d place : ℕ) (entry : VolumeFound) → 1 + place ≡ d → slice_get (F kind s).volumes place ≡ Some (Some entry) → found_volume (F kind s) d ≡ Some entry
  found_there d place entry same there =
      subst (λ (m : ℕ). found_volume (F kind s) m ≡ Some entry) same (ap (λ (o : Option (Option VolumeFound)). unwrap_or o None) (numbered_is (F kind s).volumes (1 + place) (Some entry) (omega arith, (let here : 1 + place - 1 ≡ place = omega arith in ap (slice_get (F kind s).volumes) here ∙ there))))

  -- A TRAIL AT REST

  module _ (rests : IsTrue (is_at_rest kind a.trail)) where
    records : (records : List AuditRecord) × Rests (audit_format (rules_of s.config n)) (kind.held device) records
    records = at_rest kind (rules_of s.config n) device a.trail is.2 rests

    tells : IsTrue (kind.tells device)
    tells = rest_tells kind (rules_of s.config n) device a.trail is.2 rests

    has : HasLanded kind audit_format a.trail records.0
    has = is.2.landed records.0 tells records.1

    nothing : has.content.pending ≡ Nothing
    nothing = ready_nothing has.content.pending (sym has.holds.phase ∙ is.2.ready)

    own : HasPlaced kind a.trail has.content.placed
    own = record { content = has.content; holds = has.holds; pending = nothing; placed_is = refl }

    placed : (placed : List (Placed AuditRecord)) × (a.placed ≡ Some placed)
    placed = is.3.there rests

    placed_same : placed.0 ≡ has.content.placed
    placed_same = ∥∥₁_elim (is.3.told placed.0 placed.1).1 (Coded-set placed_code placed.0 has.content.placed) (λ (p : HasPlacedAlone kind a.trail placed.0). p.1 has.content.placed own)

    landed : landed_in has.content ++ [] ≡ records.0
    landed = append-nil (landed_in has.content) ∙ has.landed

    -- the last record of each disc stands in front of its next one
    next : (d : ℕ) → 1 ≤ first_of part.firsts d → IfSome (last_position d (landed_in has.content ++ [])) (λ last. last + 1 ≡ first_of part.firsts d + length (disc_made part [] d))
    next d some =
        let f = on_first (F kind s) n 1 (F kind s).volumes d some in
        let place = f.at in
        let there : found_volume (F kind s) d ≡ Some f.entry = found_there d f.place f.entry place f.is in
        let b = blocks_at kind s d f.entry there in
        let line = line_there s.config d b.declared in
        let trail : line.0.trail ≡ n = sym (trail_is s.config d line.0 line.1) ∙ f.of_trail in
        let spells : Spells (audit_format (rules_of s.config line.0.trail)) (kind.held device) records.0 = subst (λ (t : ℕ). Spells (audit_format (rules_of s.config t)) (kind.held device) records.0) (sym trail) records.1.spells in
        let volume = was_kept kind s (volume_device d) (kept.Volume b.blocks) b.at in
        let behind = volume.is.1 d line.0 device records.0 line.1 refl (ap (slice_get s.old) trail ∙ was) tells spells in
        let first : first_of part.firsts d ≡ b.blocks.label.low = f.next ∙ ap (λ v. v.next) b.is in
        subst (λ (xs : List AuditRecord). IfSome (last_position d xs) (λ last. last + 1 ≡ first_of part.firsts d + length (disc_made part [] d))) (sym landed)
        (next_last d b.blocks.label.low (first_of part.firsts d) (length (disc_made part [] d)) records.0 behind first refl)

    stands : Stands kind a.trail part []
    stands =
        let told = has.holds.told has.tells in
        record {
          tells = has.tells;
          content = has.content;
          holds = has.holds;
          old = standings placed.0;
          told = ap (option_map standings) placed.1;
          from = 0;
          gone = inl refl;
          front = omega arith;
          placed = sym placed_same ∙ all_from placed.0;
          pending = ap (λ (p : Pending AuditRecord). in_file has.content.file (batch_of p)) nothing;
          order = ap (λ (p : Pending AuditRecord). is_audit_order (landed_in has.content ++ batch_of p)) (sym nothing) ∙ told.in_order;
          next = next;
        }

  -- the trail's premise is that it is at rest
  at_rest_of : s.premise n → IsTrue (is_at_rest kind a.trail)
  at_rest_of p = subst (Resting kind s.before) at (s.may.name.rests n p)

  premise_of : IsTrue (is_at_rest kind a.trail) → s.premise n
  premise_of r = s.may.name.premises n (subst (Resting kind s.before) (sym at) r)

  -- what was found of the trail was told, at rest
  told_rest : (o : Option (List (Placed AuditRecord))) (old : List Standing) → a.placed ≡ o → option_map standings o ≡ Some old → IsTrue (is_at_rest kind a.trail)
  told_rest (Some placed) old is_placed e = (is.3.told placed is_placed).0
  told_rest None old is_placed e = absurd (cc (e))

  is_opened : IsTrailOpened kind (O kind s) (F kind s) s.rules s.faults s.premise s.handed_in sight a.trail
  is_opened = record {
    at = record { opens = refl; seat = refl; at = opens };
    none = refl;
    ready = is.2.ready;
    writable = is.2.writable;
    file = omega arith;
    rules = is.2.ruled ∙ sym (s.may.name.rules_are n);
    device = later_given kind s n (kept.Audit a) at;
    before = (let count = count_given kind s n (kept.Audit a) at in omega (arith, count));
    told = λ old e. premise_of (told_rest a.placed old refl e);
    stands = λ p. stands (at_rest_of p);
  }

  pub join_trail : (rest : Option ℕ) → MayJoin kind (O kind s) (F kind s) s.rules s.faults s.premise s.handed_in s.config n rest (new_seat (part_of_device n)) (kept.Audit a)
  join_trail rest =
      let within : IsWithin 1 4 n = record { above = is.0; below = few } in
      let declared : IsDeclared s.config.trails n = record { above = is.0; below = is.1 } in
      subst (λ (p : ℕ). MayJoin kind (O kind s) (F kind s) s.rules s.faults s.premise s.handed_in s.config n rest (new_seat p) (kept.Audit a)) (sym (part_trail n is.0 few))
      (within, declared, ap (λ (v : TrailSight). v.part.number) sight_is, subst (λ (v : TrailSight). IsTrailOpened kind (O kind s) (F kind s) s.rules s.faults s.premise s.handed_in v a.trail) (sym sight_is) is_opened)
