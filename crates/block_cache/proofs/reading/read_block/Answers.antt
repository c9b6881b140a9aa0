use Rattle.std.proofs.Common.{◌≡◌, ◌≤◌, ◌+◌, length, Some, refl, sym, ap, subst, ◌∙◌, arith}
use Rattle.std.specs.Prelude.{IsTrue}
use Rattle.disk_model.specs.Frame.{IsLater}
use Rattle.disk_model.specs.Held.{Held, length_of}
use Rattle.keyed_file.specs.Layout.{data_length}
use Rattle.block_cache.specs.Damage.{IsRead, TellsBlock, bad_data_in, bad_selected}
use Rattle.block_cache.proofs.Damages.{long_data, read_whole, whole_count}
use Rattle.block_cache.proofs.Frames.{later-then}
use Rattle.block_cache.proofs.Readings.{there_is}
use Rattle.block_cache.proofs.reading.read_block.Goals as goal

pub returns-then-count-lt-BLOCK_BYTES-clause-damaged : goal.returns-then-count-lt-BLOCK_BYTES-clause-damaged
returns-then-count-lt-BLOCK_BYTES-clause-damaged g c = λ told.
    let some : Some c.in-Some.length ≡ length_of (g.D.Disk.held c.args.device.now (c.from.result + 1)) = sym c.in-Some.is ∙ c.in_ok-length.ensures.length told in
    let there = there_is (g.D.Disk.held c.args.device.now (c.from.result + 1)) c.in-Some.length some in
    let f = there.0 in
    let there_at : g.D.Disk.held c.args.device.now (1 + c.args.home.file) ≡ Some f = ap (g.D.Disk.held c.args.device.now) (omega (arith, c.from.ensures)) ∙ there.1 in
    let told_now : IsTrue (g.D.Disk.tells c.length.new.self) = subst IsTrue (sym c.length.ensures.tells) told in
    let there_now : g.D.Disk.held c.length.new.self (1 + c.args.home.file) ≡ Some f = ap (λ (h : Held). h (1 + c.args.home.file)) c.length.ensures.same ∙ there_at in
    let read = c.in_ok-slot.ensures.read told_now f there_now in
    let long : data_length c.args.home.blocks ≤ length f.bytes = omega (arith, there.2, c.if-length-from.false, c.from-2.ensures) in
    absurd (omega (arith, c.if-count-lt-BLOCK_BYTES.true, whole_count c.args.home f.bytes c.in_ok-slot.slot c.in_ok-slot.count c.read_slot.new.room.items read c.requires.number long))

pub returns-in-Some-slot_fault-clause-damaged : goal.returns-in-Some-slot_fault-clause-damaged
returns-in-Some-slot_fault-clause-damaged g c = λ told.
    let some : Some c.in-Some.length ≡ length_of (g.D.Disk.held c.args.device.now (c.from.result + 1)) = sym c.in-Some.is ∙ c.in_ok-length.ensures.length told in
    let there = there_is (g.D.Disk.held c.args.device.now (c.from.result + 1)) c.in-Some.length some in
    let f = there.0 in
    let there_at : g.D.Disk.held c.args.device.now (1 + c.args.home.file) ≡ Some f = ap (g.D.Disk.held c.args.device.now) (omega (arith, c.from.ensures)) ∙ there.1 in
    let told_now : IsTrue (g.D.Disk.tells c.length.new.self) = subst IsTrue (sym c.length.ensures.tells) told in
    let there_now : g.D.Disk.held c.length.new.self (1 + c.args.home.file) ≡ Some f = ap (λ (h : Held). h (1 + c.args.home.file)) c.length.ensures.same ∙ there_at in
    let read = c.in_ok-slot.ensures.read told_now f there_now in
    let long : data_length c.args.home.blocks ≤ length f.bytes = omega (arith, there.2, c.if-length-from.false, c.from-2.ensures) in
    let exact : c.slot_fault.result ≡ bad_selected c.args.home f.bytes = c.slot_fault.ensures.exact f.bytes (subst (IsRead c.args.home f.bytes c.in_ok-slot.slot c.in_ok-slot.count) (sym c.deref.ensures.value) read) in
    let is : bad_data_in c.args.home (g.D.Disk.held c.args.device.now (1 + c.args.home.file)) ≡ c.slot_fault.result = ap (bad_data_in c.args.home) there_at ∙ long_data c.args.home f.bytes long ∙ sym exact in
    subst (TellsBlock c.args.home (g.D.Disk.held c.args.device.now)) (sym c.damage-in-Some-slot_fault.ensures) (refl, refl, is ∙ c.in-Some-slot_fault.is)

pub returns-in-None-clause-exact : goal.returns-in-None-clause-exact
returns-in-None-clause-exact g c = λ told.
    let some : Some c.in-Some.length ≡ length_of (g.D.Disk.held c.args.device.now (c.from.result + 1)) = sym c.in-Some.is ∙ c.in_ok-length.ensures.length told in
    let there = there_is (g.D.Disk.held c.args.device.now (c.from.result + 1)) c.in-Some.length some in
    let f = there.0 in
    let there_at : g.D.Disk.held c.args.device.now (1 + c.args.home.file) ≡ Some f = ap (g.D.Disk.held c.args.device.now) (omega (arith, c.from.ensures)) ∙ there.1 in
    let told_now : IsTrue (g.D.Disk.tells c.length.new.self) = subst IsTrue (sym c.length.ensures.tells) told in
    let there_now : g.D.Disk.held c.length.new.self (1 + c.args.home.file) ≡ Some f = ap (λ (h : Held). h (1 + c.args.home.file)) c.length.ensures.same ∙ there_at in
    let read = c.in_ok-slot.ensures.read told_now f there_now in
    let long : data_length c.args.home.blocks ≤ length f.bytes = omega (arith, there.2, c.if-length-from.false, c.from-2.ensures) in
    let exact : c.slot_fault.result ≡ bad_selected c.args.home f.bytes = c.slot_fault.ensures.exact f.bytes (subst (IsRead c.args.home f.bytes c.in_ok-slot.slot c.in_ok-slot.count) (sym c.deref.ensures.value) read) in
    let is : bad_data_in c.args.home (g.D.Disk.held c.args.device.now (1 + c.args.home.file)) ≡ c.slot_fault.result = ap (bad_data_in c.args.home) there_at ∙ long_data c.args.home f.bytes long ∙ sym exact in
    is ∙ c.in-None.is

pub returns-in-None-clause-read : goal.returns-in-None-clause-read
returns-in-None-clause-read g c = λ told.
    let some : Some c.in-Some.length ≡ length_of (g.D.Disk.held c.args.device.now (c.from.result + 1)) = sym c.in-Some.is ∙ c.in_ok-length.ensures.length told in
    let there = there_is (g.D.Disk.held c.args.device.now (c.from.result + 1)) c.in-Some.length some in
    let f = there.0 in
    let there_at : g.D.Disk.held c.args.device.now (1 + c.args.home.file) ≡ Some f = ap (g.D.Disk.held c.args.device.now) (omega (arith, c.from.ensures)) ∙ there.1 in
    let told_now : IsTrue (g.D.Disk.tells c.length.new.self) = subst IsTrue (sym c.length.ensures.tells) told in
    let there_now : g.D.Disk.held c.length.new.self (1 + c.args.home.file) ≡ Some f = ap (λ (h : Held). h (1 + c.args.home.file)) c.length.ensures.same ∙ there_at in
    let read = c.in_ok-slot.ensures.read told_now f there_now in
    let long : data_length c.args.home.blocks ≤ length f.bytes = omega (arith, there.2, c.if-length-from.false, c.from-2.ensures) in
    (f, there_at, (long, read_whole c.args.home f.bytes c.in_ok-slot.slot c.in_ok-slot.count c.read_slot.new.room.items read c.if-count-lt-BLOCK_BYTES.false))

pub returns-in-Some-slot_fault-clause-works : goal.returns-in-Some-slot_fault-clause-works
returns-in-Some-slot_fault-clause-works g c =
    let first : IsLater g.D.Disk c.args.device.now c.length.new.self = record { device = c.length.ensures.device; tells = c.length.ensures.tells; later = c.length.ensures.cause.later } in
    later-then g.D.Disk c.args.device.now c.length.new.self c.read_slot.new.device g.met.D.Disk.same_on first c.read_slot.ensures.works.is_later

pub returns-in-None-clause-works : goal.returns-in-None-clause-works
returns-in-None-clause-works g c =
    let first : IsLater g.D.Disk c.args.device.now c.length.new.self = record { device = c.length.ensures.device; tells = c.length.ensures.tells; later = c.length.ensures.cause.later } in
    later-then g.D.Disk c.args.device.now c.length.new.self c.read_slot.new.device g.met.D.Disk.same_on first c.read_slot.ensures.works.is_later
