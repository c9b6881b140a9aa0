use Rattle.std.specs.Prelude.{ℕ, List, Option, Ok}
use Rattle.std.proofs.Common.{◌≡◌, ◌∷◌, [], Some, None, inl, inr, refl, ap, sym, ◌∙◌, subst, arith, ⊎_elim}
use Rattle.std.proofs.lemmas.Bool.{le-leb}
use Rattle.chronicle.specs.Histories.{states_after, IsTrueIn}
use Rattle.chronicle.specs.Seats.{part_state}
use Rattle.chronicle.proofs.Facts.{known_of_part}
use Rattle.tmf_model.specs.RecordMap.{empty_map}
use Rattle.node_machine.specs.Made.{volume_of}
use Rattle.node_machine.specs.Node.{node}
use Rattle.node_machine.specs.Opening.{opening_parts, trail_part}
use Rattle.node_machine.specs.Parts.Fact.{Made, Durable}
use Rattle.node_machine.specs.Parts.PartState.{Disc, Trail}
use Rattle.audit_writer.specs.OneTrail.{one_config, one_found, one_part}
use Rattle.audit_writer.specs.Seat.{trail_in}
use Rattle.two_discs.proofs.one_writer.make.Goals as goal

pub begin-requires : goal.begin-requires
begin-requires g c =
    let o = g.J.Run.opening in
    let tx = c.requires.first.tx in
    record {
      part = record { number = 1; epoch = 1; events = [] };
      at = ap (λ o. part_state node o c.args.worker.now) c.requires.opening ∙ ap (λ v. part_state node (opening_parts one_found) v) c.requires.worker;
      may = record { is_own = record { worker = ap (λ t. t.worker) tx; epoch = ap (λ t. t.epoch) tx }; later = λ u h. absurd (cc (h)); decided = λ u h. absurd (cc (h)) };
      unfinished = refl;
      undecided = refl;
      alone = refl;
    }

-- over no values the change puts its own
pub write-requires : goal.write-requires
write-requires g c = λ lifetimes within.
    let first = c.requires.first in
    let puts = c.requires.puts in (
      within,
      (
        record {
          at = ap (λ o. part_state node o c.args.disc.now) c.requires.opening ∙ ap (λ v. part_state node (opening_parts one_found) v) c.requires.disc;
          may = record {
            takes = record { here = ap (λ (f : ℕ). volume_of one_config f) first.file; acts = record { unclosed = refl; nothing_undone = refl; unreleased = refl }; free = inl refl };
            op_changes = tt;
            kind = first.kind;
            disc = first.disc;
            position = first.position;
            told = (
              empty_map,
              record {
                before = puts.before;
                after = ap (λ (o : Option (List ℕ)). Ok o) (sym puts.after);
                room = inr ([], omega arith, λ other home takes. ⊎_elim (λ e. absurd (cc (e))) (λ e. absurd (cc (e))) takes);
              },
            );
          };
        },
        c.enlist.ensures.knows,
      ),
    )

trail_at_last : (g : _) → (c : goal.After-meet g) → part_state node g.J.Run.opening c.meet.new.a ≡ Some (Trail one_part)
trail_at_last g c = c.meet.ensures.first_learned.state ∙ ap (λ o. part_state node o c.args.trail.now) c.requires.opening ∙ ap (λ v. part_state node (opening_parts one_found) v) c.requires.trail

pub returns-clause-part : goal.returns-clause-part
returns-clause-part g c = ap trail_in (trail_at_last g c)

pub returns-clause-at : goal.returns-clause-at
returns-clause-at g c =
    let at = trail_at_last g c in
    let part = ap trail_in at in
    record {
      opens = c.requires.opening;
      seat = c.meet.ensures.first.part ∙ ap (λ v. v.part) c.requires.trail ∙ ap (λ s. Some (trail_part s.number)) (sym part);
      at = at ∙ ap (λ s. Some (Trail s)) (sym part);
    }

pub returns-clause-may : goal.returns-clause-may
returns-clause-may g c =
    let o = g.J.Run.opening in
    let first = c.requires.first in
    let disc = c.meet.new.b in
    let position = first.position in
    record {
      volume = record { low = 1; next = 1; rest = None; base = None };
      volume_is = refl;
      own = refl;
      number = omega arith;
      begins = omega arith;
      front = [];
      positions = (first.disc, first.position, tt);
      last = 1;
      made = known_of_part node o disc (Disc _) (Made 1 1 (c.args.change.now ∷ [])) (c.meet.ensures.second_learned.state ∙ c.write.ensures.state)
          (refl, omega arith, omega arith, (rw (le-leb c.args.change.now.position 1 (omega (arith, position))) refl));
      before = 0;
      reaches = refl;
      durable = subst (λ l. IsTrueIn node (states_after node o l) (Durable 1 0)) c.meet.ensures.same (known_of_part node o c.meet.new.a (Trail one_part) (Durable 1 0) (trail_at_last g c) (refl, inl (omega arith)));
      valid = (first.valid, tt);
      small = omega arith;
    }
