use Rattle.std.proofs.Common.{◌≡◌, [], false, None, Result, Ok, Err, sym, subst}
use Rattle.std.specs.Prelude.{IfOk, IsTrue}
use Rattle.disk_model.specs.Held.{Held}
use Rattle.block_cache.specs.declared.pair.PairPhase.TheVariants.{Settled}
use Rattle.online_dump.specs.Filling.{HoldsDump}
use Rattle.online_dump.specs.Found.{DumpView}
use Rattle.online_dump.specs.Sealing.{HasLabelFile, HoldsLabel}
use Rattle.online_dump.proofs.Files.{label_there}
use Rattle.online_dump.proofs.Sealings.{held_found}
use Rattle.online_dump.proofs.dump_file.DumpFile.attach.Goals as goal

pub with_room-requires-clause-there : goal.with_room-requires-clause-there
with_room-requires-clause-there g c = λ told some.
    let told_old : IsTrue (g.D.Disk.tells c.args.device) = subst IsTrue c.read_sealed.ensures.works.tells told in
    subst (λ (h : Held). HasLabelFile h) (sym c.read_sealed.ensures.same) (label_there c.args.volume (g.D.Disk.held c.args.device) c.in-Ok.found (c.in-Ok.ensures.found told_old) some)

if_ok : {A E : Type 0} (P Q : A → Type 0) (r : Result A E) → ((x : A) → P x → Q x) → IfOk r P → IfOk r Q
if_ok P Q (Ok x) f h = f x h
if_ok P Q (Err e) f h = tt

pub returns-in-Ok-clause-rests : goal.returns-in-Ok-clause-rests
returns-in-Ok-clause-rests g c = λ told rests.
    let new = c.read_sealed.new.device in
    let view : DumpView g.row.D.Denot = record { device = new; volume = c.args.volume; found = c.in-Ok.found; next = None; offered = false; filled = None; whole = false } in
    let holds : HoldsLabel c.in-Ok.found Settled [] (g.D.Disk.held new) =
    subst (λ (h : Held). HoldsLabel c.in-Ok.found Settled [] h) (sym c.read_sealed.ensures.same) (held_found c.args.volume (g.D.Disk.held c.args.device) c.in-Ok.found (c.in-Ok.ensures.found told) c.in-Ok.ensures.whole rests) in
    if_ok (λ b. b ≡ view) (λ b. HoldsDump g.D.Disk.held b) c.with_room.result (λ b is. subst (λ (v : DumpView g.row.D.Denot). HoldsDump g.D.Disk.held v) (sym is) holds) c.with_room.ensures.value
