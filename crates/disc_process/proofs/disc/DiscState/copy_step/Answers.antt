use Rattle.std.proofs.Common.{◌≡◌, ℕ, sym, subst}
use Rattle.block_cache.specs.Blocks.{View}
use Rattle.chronicle.specs.Seats.{Knows}
use Rattle.tmf_model.specs.declared.config.Config.{Config}
use Rattle.node_machine.specs.Made.{made, volume_of}
use Rattle.node_machine.specs.Node.{node}
use Rattle.node_machine.specs.Parts.{DiscPart}
use Rattle.node_machine.specs.Parts.Fact.{Made}
use Rattle.disc_process.specs.Blocks.{BringsIn}
use Rattle.disc_process.proofs.Dumping.{copied_met}
use Rattle.disc_process.proofs.Rooms.{ok_none, room_behind}
use Rattle.disc_process.proofs.disc.DiscState.copy_step.Goals as goal

pub copy-last-requires-clause-here : goal.copy-last-requires-clause-here
copy-last-requires-clause-here g c =
    let work = c.in_ok-bring.ensures.drawn.1 in
    subst (λ (x : Config × ℕ). volume_of x.0 c.args.n.file ≡ x.1) (λ j. (sym work.config j, sym work.number j)) c.requires.here

pub returns-clause-copied : goal.returns-clause-copied
returns-clause-copied g c = copied_met c.bring.new.self c.meet.new.self c.args.n.file c.args.n.number c.copy-last.new.into c.copy-last.result c.meet.ensures.part c.meet.ensures.blocks c.copy-last.ensures.copied

pub returns-clause-known : goal.returns-clause-known
returns-clause-known g c =
    let p : ℕ = c.copy-last.result in
    subst (λ (s : DiscPart). Knows node g.J.Run.opening c.meet.new.caller (Made s.number p (made s.events))) (sym c.meet.ensures.part) (c.meet.ensures.tells _ c.copy-last.ensures.known)

pub returns-clause-brings : goal.returns-clause-brings
returns-clause-brings g c =
    let old = c.args.self.now in
    let f : ℕ = c.args.n.file in
    let n : ℕ = c.args.n.number in (
      subst (λ (v : View g.row.D.Denot). BringsIn old.blocks v f n) (sym c.meet.ensures.blocks) c.bring.ensures.brings,
      room_behind old.blocks f n old.seat c.bring.new.self.seat c.meet.new.self.seat c.meet.ensures.seats.disc_grown.mine c.in_ok-bring.ensures.made,
    )

pub returns-in_err-bring-clause-brings : goal.returns-in_err-bring-clause-brings
returns-in_err-bring-clause-brings g c = (c.bring.ensures.brings, ok_none _ _ c.from_residual.result c.from_residual.ensures.1)
