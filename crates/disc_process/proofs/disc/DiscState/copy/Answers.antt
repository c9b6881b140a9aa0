use Rattle.std.proofs.Common.{◌≡◌, ℕ, ◌-◌, true, Some, ap, subst, sym, ◌∙◌, refl, arith}
use Rattle.std.specs.Prelude.{⊤}
use Rattle.keyed_file.specs.Block.{IsBlock}
use Rattle.keyed_file.specs.BlockFormat.{block_text, is_at_home}
use Rattle.block_cache.specs.declared.frame.Frame.{Frame}
use Rattle.block_cache.specs.Blocks.{InCache}
use Rattle.chronicle.specs.Seats.{Knows}
use Rattle.chronicle.proofs.Facts.{known_of_part}
use Rattle.node_machine.specs.Made.{made, volume_of}
use Rattle.node_machine.specs.Node.{node}
use Rattle.node_machine.specs.Parts.Fact.{Made}
use Rattle.node_machine.specs.Parts.PartState.{Disc}
use Rattle.disc_process.proofs.Handing.{all_up_to}
use Rattle.node_machine.specs.Parts.{DiscPart}
use Rattle.disc_process.specs.Copied.{HasCopied}
use Rattle.disc_process.specs.Disc.{DiscView, the_disc}
use Rattle.disc_process.proofs.Dumping.{copied_values}
use Rattle.disc_process.proofs.disc.DiscState.copy.Goals as goal

pub returns-clause-copied : goal.returns-clause-copied
returns-clause-copied g c =
    let i = c.self.invariant in
    let s : DiscPart = the_disc g.J.Run.opening c.self.inside.seat in
    let blocks = c.self.inside.blocks in
    let f : ℕ = c.args.n.file in
    let n : ℕ = c.args.n.number in
    let there : InCache blocks.cache f n (λ x. ⊤) = subst (λ (v : DiscView g.row.D.Denot). InCache v.blocks.cache f n (λ x. ⊤)) (sym c.self.view_is) c.requires.cached in
    let here : volume_of s.config f ≡ s.number = subst (λ (v : DiscView g.row.D.Denot). volume_of v.part.config f ≡ v.part.number) (sym c.self.view_is) c.requires.here in
    let frame : Frame = there.1.0 in
    let in_file = c.get.ensures.valid.cached f n frame there.0 there.1.1 in
    let got : c.get.result.now ≡ frame.block = c.get.ensures.content frame there.1.1 in
    let at = i.keeps.position in
    let first = i.keeps.draws.first in
    subst (λ (v : DiscView g.row.D.Denot). HasCopied v f n c.encode.new.into (c.self.inside.next - 1)) c.self.view_is (record {
      last = omega (arith, at, first);
      block = frame.block;
      cached = (there.0, (frame, there.1.1, refl));
      valid = subst IsBlock got c.encode.ensures.valid;
      home = subst (λ (b : ℕ). is_at_home (Some (record { file = f; number = n; blocks = b })) frame.block ≡ true) (i.keeps.files f here) in_file.home;
      spelled = c.encode.ensures.spelled ∙ ap block_text got;
      values = copied_values g.D.Disk.tells g.D.Disk.held s blocks f n frame there.1.1 here i.keeps.values;
    })

pub returns-clause-known : goal.returns-clause-known
returns-clause-known g c =
    let o = g.J.Run.opening in
    let i = c.self.invariant in
    let s : DiscPart = the_disc o c.self.inside.seat in
    let at = i.keeps.position in
    let first = i.keeps.draws.first in
    let p : ℕ = c.self.inside.next - 1 in
    subst (λ (v : DiscView g.row.D.Denot). Knows node o v.seat (Made v.part.number p (made v.part.events))) c.self.view_is
    (known_of_part node o c.self.inside.seat (Disc s) (Made s.number p (made s.events)) i.seat.at (
      refl,
      omega (arith, at),
      omega (arith, at, first),
      all_up_to p (made s.events) (λ r there. (let lt = i.keeps.below r there in omega (arith, lt, at))),
    ))
