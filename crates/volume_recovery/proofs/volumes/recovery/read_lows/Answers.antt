use Rattle.std.specs.Prelude.{Err, IfErr, Some, slice_get}
use Rattle.std.proofs.Common.{◌≡◌, ◌+◌, ◌∙◌, ◌++◌, ◌∷◌, [], ℕ, List, length, length-append, ap, arith, inl, refl, rules, subst, sym}
use Rattle.std.proofs.lemmas.Result.{err_from_is_err_and}
use Rattle.tmf_model.specs.Config.{IsWithin}
use Rattle.volume_recovery.specs.VolumeLoop.{AreLows, HasFailed}
use Rattle.volume_recovery.proofs.VolumeBay.{failed-after, read-held, read-tell, reads-same, reads-then}
use Rattle.volume_recovery.proofs.VolumeLows.{lows-more, lows-none, pushed}
use Rattle.volume_recovery.proofs.volumes.recovery.read_lows.Goals as goal

pub loop-volume-preserved : goal.loop-volume-preserved
loop-volume-preserved g c =
    let config = c.args.config.now in
    let n = c.loop-volume.volume in
    let volume = c.loop-volume.volume + 1 in
    let inv = c.loop-volume.invariant in
    let done = c.in_ok-push_on.ensures.ok in
    record {
      lows = λ images tell held.
          let now_tell = read-tell g.D.Disk config c.args.bay.now c.loop-volume.bay inv.reads tell in
          let now_held = read-held g.D.Disk config c.args.bay.now c.loop-volume.bay images inv.reads held in
          subst (AreLows config images volume) (sym done)
          (lows-more config images n volume c.loop-volume.lows.items c.in_ok-low.low (omega arith) inv.long (inv.lows images tell held)
          (λ low was spells. c.in_ok-low.ensures.low images low was now_tell now_held spells));
      long = ap length done ∙ length-append c.loop-volume.lows.items (c.in_ok-low.low ∷ []) ∙ ap (λ k. k + 1) inv.long;
      inside = subst (λ xs. (k low : ℕ) → slice_get xs k ≡ Some low → IsWithin 1 4611686018427387904 low) (sym done)
          (pushed (IsWithin 1 4611686018427387904) c.loop-volume.lows.items c.in_ok-low.low inv.inside c.in_ok-low.ensures.within);
      reads = reads-then g.D.Disk config g.met.D.Disk.same_on c.args.bay.now c.loop-volume.bay c.low_of.new.bay inv.reads c.low_of.ensures.reads;
      within = search rules;
      count = inv.count;
      few = inv.few;
    }

pub returns-in_err-low-clause-cause : goal.returns-in_err-low-clause-cause
returns-in_err-low-clause-cause g c =
    let config = c.args.config.now in
    let inv = c.loop-volume.invariant in
    let p = err_from_is_err_and c.from_residual.result c.from_residual.ensures.1 in
    subst (λ r. IfErr r (HasFailed g.D.Disk.faults config c.args.bay.now c.low_of.new.bay)) (sym (p.1 ∙ ap (λ e. Err e) p.2))
    (failed-after g.D.Disk.faults config c.args.bay.now c.loop-volume.bay c.low_of.new.bay c.in_err-low.field-0.0 inv.reads.keeps.later c.low_of.ensures.reads.keeps.later c.in_err-low.ensures.cause)

pub returns-clause-lows : goal.returns-clause-lows
returns-clause-lows g c = λ images tell held volume low line was number few spells.
    c.loop-volume.invariant.lows images tell held volume low line was number (omega (arith, few, c.loop-volume.invariant.count, c.loop-volume-test.false)) spells
