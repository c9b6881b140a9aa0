use Rattle.std.proofs.Common.{◌≡◌, ℕ, List, Option, Result, Err, ap, refl, sym, subst, ◌∙◌}
use Rattle.std.proofs.lemmas.Result.{err_from_is_err_and}
use Rattle.tmf_model.specs.declared.transid.Transid.{Transid}
use Rattle.node_machine.specs.Disc.{IsNoOther}
use Rattle.node_machine.specs.Made.{holder, home_block}
use Rattle.node_machine.specs.Parts.{DiscPart}
use Rattle.block_cache.specs.Blocks.{View}
use Rattle.disc_process.specs.Blocks.{BringsIn}
use Rattle.disc_process.specs.Draw.{HasMadeRoom, SameWork}
use Rattle.disc_process.specs.declared.refused.WriteRefused.{WriteRefused}
use Rattle.disc_process.specs.declared.refused.WriteRefused.TheVariants as refused
use Rattle.disc_process.specs.Write.{IsDone, MayBegin}
use Rattle.disc_process.proofs.Answered.{done_answered, unread_refused}
use Rattle.disc_process.proofs.Drawn.{prefix_then}
use Rattle.disc_process.proofs.Later.{later_then}
use Rattle.disc_process.proofs.Own.{own_still}
use Rattle.disc_process.proofs.Rooms.{room_before}
use Rattle.disc_process.proofs.disc.DiscState.attempt_key.Goals as goal

pub returns-in-Err-clause-answered : goal.returns-in-Err-clause-answered
returns-in-Err-clause-answered g c =
    let before = c.spent.ensures in
    let old = c.args.self.now in
    let step = c.args.step.now in
    let begun : MayBegin old c.bring.new.self c.args.tx.now step = record {
      fit = record {
        seen = c.spent.new.self.seat.seen;
        behind = before.still.grown.begins;
        met = prefix_then c.args.tx.now.seat.seen c.spent.new.tx.seat.seen c.spent.new.self.seat.seen before.txn.begins before.behind;
        before = c.bring.ensures.later_seat.begins;
        own = own_still old.part.number old.seat c.spent.new.self.seat c.lawful.ensures.place before.still.grown;
        fit = c.in_default.ensures.fit;
      };
      free = subst (λ (t : Transid). IsNoOther (holder old.part.events step.file step.key) t) (c.tx-t.ensures.tx ∙ before.txn.tx)
          (subst (λ (p : DiscPart). IsNoOther (holder p.events step.file step.key) c.tx-t.result) before.still.part c.in_default-other_holder.ensures.free);
    } in
    unread_refused g.D.Disk old c.spent.new.self c.bring.new.self c.args.tx.now c.spent.new.tx c.spent.new.tx step before.txn.tx before.idle begun
    before.still.part before.still.blocks before.still.grown c.bring.ensures.later c.tx-t.result c.home-n.result.file c.home-n.result.number (c.tx-t.ensures.tx ∙ before.txn.tx) c.home-n.ensures.file (c.home-n.ensures.number ∙ ap (λ (p : DiscPart). home_block p.config step.file step.key) before.still.part)
    (record { events = refl; discs = refl }) c.bring.ensures.brings c.in-Err.refusal c.in-Err.ensures.refused

pub returns-in_err-what-clause-answered : goal.returns-in_err-what-clause-answered
returns-in_err-what-clause-answered g c =
    let before = c.spent.ensures in
    let old = c.args.self.now in
    let mid = c.bring.new.self in
    let step = c.args.step.now in
    let begun : MayBegin old mid c.args.tx.now step = record {
      fit = record {
        seen = c.spent.new.self.seat.seen;
        behind = before.still.grown.begins;
        met = prefix_then c.args.tx.now.seat.seen c.spent.new.tx.seat.seen c.spent.new.self.seat.seen before.txn.begins before.behind;
        before = c.bring.ensures.later_seat.begins;
        own = own_still old.part.number old.seat c.spent.new.self.seat c.lawful.ensures.place before.still.grown;
        fit = c.in_default.ensures.fit;
      };
      free = subst (λ (t : Transid). IsNoOther (holder old.part.events step.file step.key) t) (c.tx-t.ensures.tx ∙ before.txn.tx)
          (subst (λ (p : DiscPart). IsNoOther (holder p.events step.file step.key) c.tx-t.result) before.still.part c.in_default-other_holder.ensures.free);
    } in
    let work : SameWork old.part mid.part = subst (λ (p : DiscPart). SameWork p mid.part) before.still.part c.in_default-bring.ensures.drawn.1 in
    let n_is : c.home-n.result.number ≡ home_block old.part.config step.file step.key = c.home-n.ensures.number ∙ ap (λ (p : DiscPart). home_block p.config step.file step.key) before.still.part in
    let drawn : HasMadeRoom old.blocks step.file (home_block old.part.config step.file step.key) old.seat mid.seat =
    subst (λ (x : ℕ × ℕ). HasMadeRoom old.blocks x.0 x.1 old.seat mid.seat) (λ j. (c.home-n.ensures.file j, n_is j))
    (room_before old.blocks c.spent.new.self.blocks c.home-n.result.file c.home-n.result.number old.seat c.spent.new.self.seat mid.seat before.still.blocks before.still.grown.mine c.in_default-bring.ensures.made) in
    let brings : BringsIn old.blocks mid.blocks step.file (home_block old.part.config step.file step.key) =
    subst (λ (x : View g.row.D.Denot × (ℕ × ℕ)). BringsIn x.0 mid.blocks x.1.0 x.1.1) (λ j. (before.still.blocks j, (c.home-n.ensures.file j, n_is j))) c.bring.ensures.brings in
    let p = err_from_is_err_and c.from_residual.result c.from_residual.ensures.1 in
    let is : c.from_residual.result ≡ Err refused.NoMemory = p.1 ∙ ap (λ (x : WriteRefused). Err x) p.2 in
    done_answered g.D.Disk old mid mid c.args.tx.now c.spent.new.tx c.spent.new.tx step before.txn.tx before.idle begun drawn work brings c.from_residual.result
    (subst (λ (r : Result (Option (List ℕ)) WriteRefused). IsDone g.D.Disk mid mid c.spent.new.tx c.spent.new.tx step r) (sym is)
    (record { disc_events = refl; blocks = refl; worker = record { events = refl; discs = refl } }))

pub returns-clause-answered : goal.returns-clause-answered
returns-clause-answered g c =
    let before = c.spent.ensures in
    let old = c.args.self.now in
    let mid = c.bring.new.self in
    let step = c.args.step.now in
    let begun : MayBegin old c.carry_out.new.self c.args.tx.now step = record {
      fit = record {
        seen = c.spent.new.self.seat.seen;
        behind = before.still.grown.begins;
        met = prefix_then c.args.tx.now.seat.seen c.spent.new.tx.seat.seen c.spent.new.self.seat.seen before.txn.begins before.behind;
        before = prefix_then c.spent.new.self.seat.seen mid.seat.seen c.carry_out.new.self.seat.seen c.bring.ensures.later_seat.begins c.carry_out.ensures.later_seat.begins;
        own = own_still old.part.number old.seat c.spent.new.self.seat c.lawful.ensures.place before.still.grown;
        fit = c.in_default.ensures.fit;
      };
      free = subst (λ (t : Transid). IsNoOther (holder old.part.events step.file step.key) t) (c.tx-t.ensures.tx ∙ before.txn.tx)
          (subst (λ (p : DiscPart). IsNoOther (holder p.events step.file step.key) c.tx-t.result) before.still.part c.in_default-other_holder.ensures.free);
    } in
    let work : SameWork old.part mid.part = subst (λ (p : DiscPart). SameWork p mid.part) before.still.part c.in_default-bring.ensures.drawn.1 in
    let n_is : c.home-n.result.number ≡ home_block old.part.config step.file step.key = c.home-n.ensures.number ∙ ap (λ (p : DiscPart). home_block p.config step.file step.key) before.still.part in
    let drawn : HasMadeRoom old.blocks step.file (home_block old.part.config step.file step.key) old.seat mid.seat =
    subst (λ (x : ℕ × ℕ). HasMadeRoom old.blocks x.0 x.1 old.seat mid.seat) (λ j. (c.home-n.ensures.file j, n_is j))
    (room_before old.blocks c.spent.new.self.blocks c.home-n.result.file c.home-n.result.number old.seat c.spent.new.self.seat mid.seat before.still.blocks before.still.grown.mine c.in_default-bring.ensures.made) in
    let brings : BringsIn old.blocks mid.blocks step.file (home_block old.part.config step.file step.key) =
    subst (λ (x : View g.row.D.Denot × (ℕ × ℕ)). BringsIn x.0 mid.blocks x.1.0 x.1.1) (λ j. (before.still.blocks j, (c.home-n.ensures.file j, n_is j))) c.bring.ensures.brings in
    done_answered g.D.Disk old mid c.carry_out.new.self c.args.tx.now c.spent.new.tx c.carry_out.new.tx step before.txn.tx before.idle begun drawn work brings c.carry_out.result c.carry_out.ensures.done

pub returns-clause-txn : goal.returns-clause-txn
returns-clause-txn g c = later_then g.J.Run.opening c.args.tx.now c.spent.new.tx c.carry_out.new.tx c.spent.ensures.txn c.carry_out.ensures.txn
