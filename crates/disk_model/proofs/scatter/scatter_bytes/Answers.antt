use Rattle.std.proofs.Common.{◌≡◌, ◌+◌, subst, length, arith}
use Rattle.disk_model.specs.MemDisk.{synced_byte}
use Rattle.disk_model.specs.Scattered.{IsScattered, is_told}
use Rattle.disk_model.proofs.Scattering.{scattered-none, scattered-skip, step}
use Rattle.disk_model.proofs.scatter.scatter_bytes.Goals as goal

pub loop-at-init : goal.loop-at-init
loop-at-init c =
    let first = c.next_at_risk-at.result in record {
      done = scattered-skip (is_told c.args.base.now c.args.risk.now) (synced_byte c.args.base.now) c.args.draws.now.state c.args.bytes.now c.args.bytes.now 0 first c.args.draws.now.state
          c.next_at_risk-at.ensures.from c.next_at_risk-at.ensures.none
          (scattered-none (is_told c.args.base.now c.args.risk.now) (synced_byte c.args.base.now) c.args.draws.now.state c.args.bytes.now);
      within = c.next_at_risk-at.ensures.most _ (omega arith) c.requires;
    }

pub loop-at-preserved : goal.loop-at-preserved
loop-at-preserved c =
    let within = c.loop-at-test.true in
    let long = c.loop-at.auto.bytes in
    let told = is_told c.args.base.now c.args.risk.now in
    let earlier = synced_byte c.args.base.now in
    let x = c.args.draws.now.state in
    let next = c.next_at_risk-at-in-loop-at in
    let one = step told earlier x c.args.bytes.now c.loop-at.bytes c.loop-at.at c.loop-at.draws.state
    c.image_byte.result c.image_byte.new.draws.state c.loop-at.invariant.done (omega (arith, within, long)) c.image_byte.ensures.safe c.image_byte.ensures.risked in record {
      done = scattered-skip told earlier x c.args.bytes.now _ (c.loop-at.at + 1) next.result c.image_byte.new.draws.state next.ensures.from next.ensures.none one;
      within = next.ensures.most _ (omega (arith, within, long)) c.requires;
    }

pub returns : goal.returns
returns c =
    let past = c.loop-at-test.false in
    let long = c.loop-at.auto.bytes in
    let within = c.loop-at.invariant.within in
    let all : c.loop-at.at ≡ length c.args.bytes.now = omega (arith, past, long, within) in
    subst (λ n. IsScattered (is_told c.args.base.now c.args.risk.now) (synced_byte c.args.base.now) c.args.draws.now.state c.args.bytes.now c.loop-at.bytes n c.loop-at.draws.state) all c.loop-at.invariant.done
