use Rattle.std.proofs.Common.{◌≡◌, ℕ, Option, Some, None, refl, subst}
use Rattle.std.specs.Prelude.{IfSome, IfNone}
use Rattle.tmf_model.specs.declared.transid.Transid.{Transid}
use Rattle.node_machine.specs.Parts.{DiscPart}
use Rattle.record_locks.specs.Locks.{IsFileBlocker}
use Rattle.disc_process.specs.Disc.{DiscView, the_disc}
use Rattle.disc_process.specs.FileLocks.{BlocksFile, IsFileFree}
use Rattle.disc_process.proofs.FileLocks.{blocks_file, file_free}
use Rattle.disc_process.proofs.disc.DiscState.file_blocker.Goals as goal

if_some : (s : DiscPart) (t : Transid) (file : ℕ) (r : Option Transid) → ((h : Transid) → r ≡ Some h → BlocksFile s t file h) → IfSome r (BlocksFile s t file)
if_some s t file None more = tt
if_some s t file (Some h) more = more h refl

if_none : (P : Type 0) (r : Option Transid) → (r ≡ None → P) → IfNone r P
if_none P None more = more refl
if_none P (Some h) more = tt

pub returns-clause-busy : goal.returns-clause-busy
returns-clause-busy g c =
    let s : DiscPart = the_disc g.J.Run.opening c.self.inside.seat in
    let locks = c.self.inside.locks in
    let t : Transid = c.tx-t.result in
    let file = c.args.file in
    let r = c.file_blocker.result in
    let told = if_some s t file r (λ h is. blocks_file locks s c.always.ensures c.self.invariant.keeps.holds_locks t file h (subst (λ (o : Option Transid). IsFileBlocker locks file t o) is c.file_blocker.ensures)) in
    subst (λ (v : DiscView g.row.D.Denot). IfSome r (BlocksFile v.part c.args.tx.now.tx file)) c.self.view_is (subst (λ (x : Transid). IfSome r (BlocksFile s x file)) c.tx-t.ensures.tx told)

pub returns-clause-free : goal.returns-clause-free
returns-clause-free g c =
    let s : DiscPart = the_disc g.J.Run.opening c.self.inside.seat in
    let locks = c.self.inside.locks in
    let t : Transid = c.tx-t.result in
    let file = c.args.file in
    let r = c.file_blocker.result in
    let told = if_none (IsFileFree s t file) r (λ is. file_free locks s c.always.ensures c.self.invariant.keeps.holds_locks t file (subst (λ (o : Option Transid). IsFileBlocker locks file t o) is c.file_blocker.ensures)) in
    subst (λ (v : DiscView g.row.D.Denot). IfNone r (IsFileFree v.part c.args.tx.now.tx file)) c.self.view_is (subst (λ (x : Transid). IfNone r (IsFileFree s x file)) c.tx-t.ensures.tx told)
