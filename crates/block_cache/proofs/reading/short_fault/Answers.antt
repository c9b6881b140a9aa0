use Rattle.std.proofs.Common.{◌≡◌, ◌+◌, Some, None, sym, ap, subst, ◌∙◌}
use Rattle.std.specs.Prelude.{IsTrue, length, unwrap_or}
use Rattle.disk_model.specs.Held.{Held}
use Rattle.keyed_file.specs.declared.home.Home.{Home}
use Rattle.block_cache.specs.Damage.{IsRead, bad_selected}
use Rattle.block_cache.proofs.Damages.{among_all, among_next}
use Rattle.block_cache.proofs.Frames.{later-then}
use Rattle.block_cache.proofs.reading.short_fault.Goals as goal

pub returns-in-Some-clause-first : goal.returns-in-Some-clause-first
returns-in-Some-clause-first g c = λ told f there long.
    let block : Home = record c.args.home { number = c.loop-number.number } in
    let told_now : IsTrue (g.D.Disk.tells c.loop-number.device) = subst IsTrue (sym c.loop-number.invariant.works.tells) told in
    let there_now : g.D.Disk.held c.loop-number.device (1 + c.args.home.file) ≡ Some f = ap (λ (h : Held). h (1 + c.args.home.file)) c.loop-number.invariant.same ∙ there in
    let read = subst (IsRead block f.bytes c.in_ok-slot.slot c.in_ok-slot.count) (sym c.deref.ensures.value) (c.in_ok-slot.ensures.read told_now f there_now) in
    let bad : bad_selected block f.bytes ≡ Some c.in-Some.at = sym (c.slot_fault.ensures.exact f.bytes read) ∙ c.in-Some.is in
    ap (λ o. unwrap_or o (length f.bytes)) (among_all c.args.home c.loop-number.number c.args.home.blocks f.bytes c.in-Some.at c.loop-number-test.true (c.loop-number.invariant.before told f there) bad)

pub loop-number-preserved : goal.loop-number-preserved
loop-number-preserved g c = record {
  room = c.read_slot.ensures.room;
  works = later-then g.D.Disk c.args.device.now c.loop-number.device c.read_slot.new.device g.met.D.Disk.same_on c.loop-number.invariant.works c.read_slot.ensures.works.is_later;
  same = c.read_slot.ensures.same ∙ c.loop-number.invariant.same;
  before = λ told f there.
      let block : Home = record c.args.home { number = c.loop-number.number } in
      let told_now : IsTrue (g.D.Disk.tells c.loop-number.device) = subst IsTrue (sym c.loop-number.invariant.works.tells) told in
      let there_now : g.D.Disk.held c.loop-number.device (1 + c.args.home.file) ≡ Some f = ap (λ (h : Held). h (1 + c.args.home.file)) c.loop-number.invariant.same ∙ there in
      let read = subst (IsRead block f.bytes c.in_ok-slot.slot c.in_ok-slot.count) (sym c.deref.ensures.value) (c.in_ok-slot.ensures.read told_now f there_now) in
      among_next c.args.home c.loop-number.number f.bytes None (c.loop-number.invariant.before told f there) (sym (c.slot_fault.ensures.exact f.bytes read) ∙ c.in-None.is);
}
