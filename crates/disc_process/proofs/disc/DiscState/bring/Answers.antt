use Rattle.std.proofs.Common.{◌≡◌, ◌+◌, ◌≤◌, ℕ, [], ◌∷◌, ◌++◌, List, Result, Err, inr, ap, sym, subst, ◌∙◌}
use Rattle.std.proofs.lemmas.Result.{err_from_is_err_and}
use Rattle.std.specs.Prelude.{⊤, IfErr}
use Rattle.chronicle.specs.Seats.{Sight, own_events}
use Rattle.block_cache.specs.Blocks.{View}
use Rattle.block_cache.specs.Damage.{BlockCause}
use Rattle.node_machine.specs.Parts.{DiscPart}
use Rattle.node_machine.specs.declared.event.By.TheVariants.{Attempt}
use Rattle.node_machine.specs.declared.event.DiscEvent.TheVariants as did
use Rattle.node_machine.specs.declared.event.Event.{Event}
use Rattle.node_machine.specs.declared.event.Event.TheVariants.{OfDisc}
use Rattle.disc_process.specs.declared.refused.WriteRefused.{WriteRefused}
use Rattle.disc_process.specs.declared.refused.WriteRefused.TheVariants as refused
use Rattle.disc_process.specs.Draw.{HasDrawn, HasMadeRoom}
use Rattle.disc_process.specs.Write.{HasBadBlock, IsUnread}
use Rattle.audit_writer.proofs.Joining.{rose_more}
use Rattle.disc_process.proofs.Drawn.{if_err}
use Rattle.disc_process.proofs.Rooms.{room_behind, sought_failed, sought_made}
use Rattle.disc_process.proofs.Unread.{unread_draw}
use Rattle.disc_process.specs.Refused.{refused_from}
use Rattle.disk_model.specs.Held.{Rose}
use Rattle.disc_process.proofs.Bringing.{brings_then, kept_brings}
use Rattle.disc_process.proofs.disc.DiscState.bring.Goals as goal

pub returns-in_err-make_room-clause-brings : goal.returns-in_err-make_room-clause-brings
returns-in_err-make_room-clause-brings g c = kept_brings c.args.self.now.blocks c.make_room.new.self.blocks c.args.n.file c.args.n.number c.make_room.ensures.same

pub returns-in-Ok-clause-brings : goal.returns-in-Ok-clause-brings
returns-in-Ok-clause-brings g c =
    brings_then c.args.self.now.blocks c.make_room.new.self.blocks c.load.new.self.blocks c.args.n.file c.args.n.number c.make_room.ensures.same c.in_ok-make_room.ensures.way.frames c.in_ok-make_room.ensures.way.way
    c.load.ensures.brings

pub returns-in-Err-NoMemory-clause-refused : goal.returns-in-Err-NoMemory-clause-refused
returns-in-Err-NoMemory-clause-refused g c =
    let old = c.args.self.now in
    let new = c.load.new.self in
    let d = c.in_ok-make_room.ensures.drawn.0 in (
      record { drawn = d.drawn; are = d.are; events = ap (λ (v : Sight Event). own_events v) c.load.ensures.seat ∙ d.events },
      sought_made (Attempt c.args.t) old.blocks c.args.n.file c.args.n.number old.seat c.make_room.new.self.seat new.seat c.in_ok-make_room.ensures.made (ap (λ (v : Sight Event). own_events v) c.load.ensures.seat),
    )

pub returns-in-Err-Damaged-clause-refused : goal.returns-in-Err-Damaged-clause-refused
returns-in-Err-Damaged-clause-refused g c =
    let old = c.args.self.now in
    let new = c.load.new.self in
    let f : ℕ = c.args.n.file in
    let n : ℕ = c.args.n.number in
    let damage = c.in-Err-Damaged.damage in
    let d = c.in_ok-make_room.ensures.drawn in
    let has : HasDrawn old.seat new.seat = record { drawn = d.0.drawn; are = d.0.are; events = ap (λ (v : Sight Event). own_events v) c.load.ensures.seat ∙ d.0.events } in
    let made : HasMadeRoom old.blocks f n old.seat new.seat = room_behind old.blocks f n old.seat c.make_room.new.self.seat new.seat (ap (λ (v : Sight Event). own_events v) c.load.ensures.seat) c.in_ok-make_room.ensures.made in
    let named : 4 + new.part.number ≡ 4 + old.part.number = ap (λ (s : DiscPart). 4 + s.number) c.load.ensures.part ∙ ap (λ (k : ℕ). 4 + k) d.1.number in
    if_err c.damaged.result (λ e. (e ≡ refused.Damaged (4 + new.part.number) damage) × HasBadBlock g.D.Disk new f n damage) (IsUnread g.D.Disk c.args.t f n old new)
    (λ e h. subst (λ (x : WriteRefused). IsUnread g.D.Disk c.args.t f n old new x) (sym h.0) (named, has, h.1, made)) c.damaged.ensures.refused

pub returns-in-Err-Failed-clause-refused : goal.returns-in-Err-Failed-clause-refused
returns-in-Err-Failed-clause-refused g c =
    let old = c.args.self.now in
    let mid = c.make_room.new.self in
    let load = c.load.new.self in
    let new = c.note_failed.new.self in
    let d = c.in_ok-make_room.ensures.drawn in
    let tail : List Event = OfDisc (did.Failed (Attempt c.args.t)) ∷ [] in
    let own : own_events new.seat ≡ own_events mid.seat ++ tail = c.note_failed.ensures.events ∙ ap (λ (v : Sight Event). own_events v ++ tail) c.load.ensures.seat in
    let same = ap (λ (v : View g.row.D.Denot). g.D.Disk.faults v.device) c.note_failed.ensures.blocks in
    let rose : Rose (g.D.Disk.faults mid.blocks.device) (g.D.Disk.faults load.blocks.device) =
    subst (BlockCause (g.D.Disk.faults mid.blocks.device) (g.D.Disk.faults load.blocks.device)) c.in-Err-Failed.field-0-is c.in-Err-Failed.ensures.cause in (
      inr (record {
        named = c.device.ensures ∙ ap (λ (k : ℕ). 4 + k) (c.note_failed.ensures.number ∙ ap (λ (s : DiscPart). s.number) c.load.ensures.part ∙ d.1.number);
        rose = rose_more (g.D.Disk.faults old.blocks.device) (g.D.Disk.faults mid.blocks.device) (g.D.Disk.faults new.blocks.device) c.make_room.ensures.later
            (subst (λ (k : ℕ). g.D.Disk.faults mid.blocks.device ≤ k) (sym same) c.load.ensures.later) (subst (λ (k : ℕ). Rose (g.D.Disk.faults mid.blocks.device) k) (sym same) rose);
        drawn = d.0.drawn;
        are = d.0.are;
        events = own ∙ ap (λ (l : List Event). l ++ tail) d.0.events;
      }),
      sought_failed (Attempt c.args.t) old.blocks c.args.n.file c.args.n.number old.seat mid.seat new.seat c.in_ok-make_room.ensures.made own,
    )

pub returns-in_err-make_room-clause-refused : goal.returns-in_err-make_room-clause-refused
returns-in_err-make_room-clause-refused g c =
    let old = c.args.self.now in
    let new = c.make_room.new.self in
    let p = err_from_is_err_and c.from_residual.result c.from_residual.ensures.1 in
    let e = c.in_err-make_room.field-0.0 in
    let is : c.from_residual.result ≡ Err (refused_from e) = p.1 ∙ ap (λ (x : WriteRefused). Err x) p.2 in
    subst (λ (r : Result ⊤ WriteRefused). IfErr r (IsUnread g.D.Disk c.args.t c.args.n.file c.args.n.number old new)) (sym is)
    (unread_draw g.D.Disk c.args.t c.args.n.file c.args.n.number old new e c.in_err-make_room.ensures.refused c.in_err-make_room.ensures.sought)
