use Rattle.std.proofs.Common.{◌≡◌, ℕ, true, refl, ap, sym, ◌∙◌, subst}
use mathlib.Core.List.{IsPrefix}
use Rattle.tmf_model.specs.Config.{IsDeclared}
use Rattle.tmf_model.specs.Transid.{is_transid}
use Rattle.tmf_model.specs.declared.config.Config.{Config}
use Rattle.node_machine.specs.Made.{volume_of}
use Rattle.node_machine.specs.Parts.{DiscPart}
use Rattle.txn_states.specs.Txn.{Txn}
use Rattle.disc_process.specs.Disc.{AreTrails}
use Rattle.disc_process.specs.Later.{IsLaterTxn}
use Rattle.disc_process.specs.Write.{IsAnswered}
use Rattle.disc_lock.specs.Locks.{held_disc}
use Rattle.phase_one.specs.Stopped.{HasDisc}
use Rattle.run_worker.proofs.Acting.{step_come, step_made, step_worker}
use Rattle.run_worker.proofs.Holding.{lock_key, met_before}
use Rattle.run_worker.proofs.Refusing.{step_refused}
use Rattle.run_worker.proofs.Told.{answer_told}
use Rattle.run_worker.proofs.stepping.carry_out_step.Goals as goal

pub disc_of-requires : goal.disc_of-requires
disc_of-requires g c =
    let named : volume_of g.J.NodeRun.found.config c.args.step.now.file ≡ c.volume_of.result = ap (λ (k : Config). volume_of k c.args.step.now.file) (sym c.requires.shared.config_is) ∙ sym c.volume_of.ensures in
    subst (λ (n : ℕ). HasDisc c.args.shared.now.discs.now n) named (c.requires.shared.discs_are (volume_of g.J.NodeRun.found.config c.args.step.now.file) c.requires.step.there)

pub write-answer-requires-clause-declared : goal.write-answer-requires-clause-declared
write-answer-requires-clause-declared g c =
    let first = held_disc c.meet.new.self in
    let configured : first.part.config ≡ g.J.NodeRun.found.config = ap (λ (s : DiscPart). s.config) c.meet.ensures.part ∙ c.lock-disc.ensures.config in
    subst (λ (k : Config). IsDeclared k.files c.args.step.now.file) (sym configured) c.requires.step.valid.file

pub write-answer-requires-clause-here : goal.write-answer-requires-clause-here
write-answer-requires-clause-here g c =
    let first = held_disc c.meet.new.self in
    let configured : first.part.config ≡ g.J.NodeRun.found.config = ap (λ (s : DiscPart). s.config) c.meet.ensures.part ∙ c.lock-disc.ensures.config in
    let named : first.part.number ≡ c.volume_of.result = ap (λ (s : DiscPart). s.number) c.meet.ensures.part ∙ c.lock-disc.ensures.number ∙ c.disc_of.ensures in
    ap (λ (k : Config). volume_of k c.args.step.now.file) (configured ∙ sym c.requires.shared.config_is) ∙ sym c.volume_of.ensures ∙ sym named

pub write-answer-requires-clause-trails : goal.write-answer-requires-clause-trails
write-answer-requires-clause-trails g c =
    let first = held_disc c.meet.new.self in
    let configured : first.part.config ≡ g.J.NodeRun.found.config = ap (λ (s : DiscPart). s.config) c.meet.ensures.part ∙ c.lock-disc.ensures.config in
    subst (λ (k : Config). AreTrails k c.args.shared.now.trails.now) (sym configured) c.requires.shared.trails_are

pub write-answer-requires-clause-valid : goal.write-answer-requires-clause-valid
write-answer-requires-clause-valid g c = subst (λ (t : Txn). is_transid t.tx ≡ true) (sym c.note-note.ensures.same) c.requires.actor.valid

pub returns-clause-made : goal.returns-clause-made
returns-clause-made g c =
    let o = g.J.Run.opening in
    let config = g.J.NodeRun.found.config in
    let step = c.args.step.now in
    let old = c.args.tx.now in
    let new = c.write-answer.new.tx in
    let first = held_disc c.meet.new.self in
    let last = held_disc c.write-answer.new.self in
    let same = c.note-note.ensures.same in
    let configured : first.part.config ≡ config = ap (λ (s : DiscPart). s.config) c.meet.ensures.part ∙ c.lock-disc.ensures.config in
    let named : first.part.number ≡ volume_of config step.file = ap (λ (s : DiscPart). s.number) c.meet.ensures.part ∙ c.lock-disc.ensures.number ∙ c.disc_of.ensures ∙ c.volume_of.ensures ∙ ap (λ (k : Config). volume_of k step.file) c.requires.shared.config_is in
    let answered : IsAnswered g.D.Disk first last old new step c.write-answer.result = subst (λ (t : Txn). IsAnswered g.D.Disk first last t new step c.write-answer.result) same c.write-answer.ensures.answered in
    let later : IsLaterTxn o old new = subst (λ (t : Txn). IsLaterTxn o t new) same c.write-answer.ensures.txn in
    let told = answer_told g.D.Disk first last (volume_of config step.file) old new step (lock_key config step c.requires.step.valid) c.write-answer.result answered in
    step_made g.D.Disk o config first last (volume_of config step.file) old new named configured c.lawful.ensures c.write-answer.ensures.disc.place c.write-answer.ensures.seen
    c.knowing_law.ensures.once c.knowing_law.ensures.still c.requires.actor.own later.place step c.write-answer.result c.args.share.now.amount c.write-answer.new.share.amount refl later.begins c.write-answer.ensures.given.amount told

pub returns-clause-worker : goal.returns-clause-worker
returns-clause-worker g c =
    let o = g.J.Run.opening in
    let config = g.J.NodeRun.found.config in
    let step = c.args.step.now in
    let old = c.args.tx.now in
    let new = c.write-answer.new.tx in
    let first = held_disc c.meet.new.self in
    let last = held_disc c.write-answer.new.self in
    let same = c.note-note.ensures.same in
    let configured : first.part.config ≡ config = ap (λ (s : DiscPart). s.config) c.meet.ensures.part ∙ c.lock-disc.ensures.config in
    let named : first.part.number ≡ volume_of config step.file = ap (λ (s : DiscPart). s.number) c.meet.ensures.part ∙ c.lock-disc.ensures.number ∙ c.disc_of.ensures ∙ c.volume_of.ensures ∙ ap (λ (k : Config). volume_of k step.file) c.requires.shared.config_is in
    let answered : IsAnswered g.D.Disk first last old new step c.write-answer.result = subst (λ (t : Txn). IsAnswered g.D.Disk first last t new step c.write-answer.result) same c.write-answer.ensures.answered in
    let told = answer_told g.D.Disk first last (volume_of config step.file) old new step (lock_key config step c.requires.step.valid) c.write-answer.result answered in
    step_worker g.D.Disk o config first last (volume_of config step.file) old new named configured c.lawful.ensures c.write-answer.ensures.disc.place c.write-answer.ensures.seen step c.write-answer.result told

pub returns-clause-come : goal.returns-clause-come
returns-clause-come g c =
    let o = g.J.Run.opening in
    let config = g.J.NodeRun.found.config in
    let step = c.args.step.now in
    let old = c.args.tx.now in
    let new = c.write-answer.new.tx in
    let first = held_disc c.meet.new.self in
    let last = held_disc c.write-answer.new.self in
    let same = c.note-note.ensures.same in
    let configured : first.part.config ≡ config = ap (λ (s : DiscPart). s.config) c.meet.ensures.part ∙ c.lock-disc.ensures.config in
    let named : first.part.number ≡ volume_of config step.file = ap (λ (s : DiscPart). s.number) c.meet.ensures.part ∙ c.lock-disc.ensures.number ∙ c.disc_of.ensures ∙ c.volume_of.ensures ∙ ap (λ (k : Config). volume_of k step.file) c.requires.shared.config_is in
    let answered : IsAnswered g.D.Disk first last old new step c.write-answer.result = subst (λ (t : Txn). IsAnswered g.D.Disk first last t new step c.write-answer.result) same c.write-answer.ensures.answered in
    let later : IsLaterTxn o old new = subst (λ (t : Txn). IsLaterTxn o t new) same c.write-answer.ensures.txn in
    let told = answer_told g.D.Disk first last (volume_of config step.file) old new step (lock_key config step c.requires.step.valid) c.write-answer.result answered in
    step_come g.D.Disk o config first last (volume_of config step.file) old new named configured c.lawful.ensures c.write-answer.ensures.disc.place c.write-answer.ensures.seen c.requires.actor.own step c.write-answer.result later told

pub returns-clause-txn : goal.returns-clause-txn
returns-clause-txn g c = subst (λ (t : Txn). IsLaterTxn g.J.Run.opening t c.write-answer.new.tx) c.note-note.ensures.same c.write-answer.ensures.txn

pub returns-clause-refused : goal.returns-clause-refused
returns-clause-refused g c =
    let o = g.J.Run.opening in
    let config = g.J.NodeRun.found.config in
    let step = c.args.step.now in
    let old = c.args.tx.now in
    let new = c.write-answer.new.tx in
    let first = held_disc c.meet.new.self in
    let last = held_disc c.write-answer.new.self in
    let same = c.note-note.ensures.same in
    let configured : first.part.config ≡ config = ap (λ (s : DiscPart). s.config) c.meet.ensures.part ∙ c.lock-disc.ensures.config in
    let named : first.part.number ≡ volume_of config step.file = ap (λ (s : DiscPart). s.number) c.meet.ensures.part ∙ c.lock-disc.ensures.number ∙ c.disc_of.ensures ∙ c.volume_of.ensures ∙ ap (λ (k : Config). volume_of k step.file) c.requires.shared.config_is in
    let answered : IsAnswered g.D.Disk first last old new step c.write-answer.result = subst (λ (t : Txn). IsAnswered g.D.Disk first last t new step c.write-answer.result) same c.write-answer.ensures.answered in
    let met : IsPrefix old.seat.seen first.seat.seen = met_before old.seat c.note-note.result c.meet.new.caller first.seat c.note-note.ensures.note c.meet.ensures.seats.caller_grown.begins c.meet.ensures.same in
    step_refused g.D.Disk o config g.J.DeviceRun.devices first last step old new named configured c.lawful.ensures c.write-answer.ensures.disc c.write-answer.ensures.seen met c.requires.actor c.lawful-2.ensures c.device_lawful.ensures.handed_in c.device_lawful.ensures.device.handed c.write-answer.result answered

pub write-answer-requires-clause-token : goal.write-answer-requires-clause-token
write-answer-requires-clause-token g c = c.requires.token

pub returns-clause-given : goal.returns-clause-given
returns-clause-given g c = c.write-answer.ensures.given
