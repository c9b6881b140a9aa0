-- What a caller sees over several calls under a lock, one behind the other.
use Rattle.std.specs.Prelude.{ℕ, List, [], ◌++◌, Result, Ok, Err, IfErr, OnOk, MatchResult}
use Rattle.std.proofs.Common.{◌≡◌, ◌<◌, ◌≤◌, ◌-◌, ◌^◌, Bool, true, false, nat_lt, refl, ap, sym, ◌∙◌, subst, append_assoc, append-nil, arith}
use Rattle.std.proofs.lemmas.Bool.{ltb-false, ltb-true}
use Rattle.disk_model.specs.Held.{Rose}
use Rattle.chronicle.specs.Histories.{IsHistory}
use Rattle.chronicle.specs.Seats.{Sight, HasGrown, HasLearned, Knows}
use Rattle.trail_files.specs.Trail.{View}
use Rattle.node_machine.specs.declared.event.By.{By}
use Rattle.node_machine.specs.declared.event.Event.{Event}
use Rattle.node_machine.specs.declared.event.Event.TheVariants.{OfTrail}
use Rattle.node_machine.specs.declared.event.TrailEvent.TheVariants.{Failed}
use Rattle.node_machine.specs.Opening.{trail_part}
use Rattle.node_machine.specs.Parts.{PartState}
use Rattle.node_machine.specs.Node.{node}
use Rattle.audit_writer.specs.Locked.{HasFailed, IsFlushStop}
use Rattle.audit_writer.specs.Writer.{Writer}
use Rattle.audit_writer.specs.Writes.{HasStopped, HasWritten}
use Rattle.audit_writer.specs.declared.lock.FlushRefused.{FlushRefused}
use Rattle.audit_writer.specs.declared.lock.FlushRefused.TheVariants as refused
use Rattle.audit_writer.proofs.Locks.{newly_then}
use Rattle.audit_writer.proofs.Written.{stopped_then, written_then}

pub grown_none : (v : Sight Event) → HasGrown v v
grown_none v = record { part = refl; begins = ([], append-nil v.seen); mine = refl }

pub grown_then : (a b c : Sight Event) → HasGrown a b → HasGrown b c → HasGrown a c
grown_then a b c p q = record {
  part = q.part ∙ p.part;
  begins = (p.begins.0 ++ q.begins.0, sym (append_assoc a.seen p.begins.0 q.begins.0) ∙ ap (λ l. l ++ q.begins.0) p.begins.1 ∙ q.begins.1);
  mine = q.mine ∙ p.mine;
}

pub learned_none : (o : List PartState) (v : Sight Event) → IsHistory node o v.seen → HasLearned node o v v
learned_none o v is = record { history = is; state = refl; knows = λ f (k : Knows node o v f). k }

pub failed_then : (n : ℕ) (by : By) (a b c : Sight Event) (r : FlushRefused) → HasGrown a b → HasFailed n by b c r → HasFailed n by a c r
failed_then n by a b c (refused.Failed device) grown h = (h.0, newly_then (trail_part n) (OfTrail (Failed by)) a b c grown h.1)
failed_then n by a b c refused.NoMemory grown h = tt

pub refused_then : {T : Type 0} (n : ℕ) (by : By) (a b c : Sight Event) (r : Result T FlushRefused) → HasGrown a b → IfErr r (HasFailed n by b c) → IfErr r (HasFailed n by a c)
refused_then n by a b c (Ok x) grown h = tt
refused_then n by a b c (Err e) grown h = failed_then n by a b c e grown h

pub ok_anyway : {T E P : Type 0} (r : Result T E) → P → OnOk r P
ok_anyway (Ok x) h = h
ok_anyway (Err e) h = tt

-- a count that rose after one that did not fall
pub rose_more : (a b c : ℕ) → a ≤ b → b ≤ c → Rose b c → Rose a c
rose_more a b c ab bc rose below = of (nat_lt b (2 ^ 64 - 1)) refl
  where
    of : (t : Bool) → nat_lt b (2 ^ 64 - 1) ≡ t → a < c
    of true e = (let lt = ltb-true b (2 ^ 64 - 1) e in let up = rose lt in omega (arith, ab, up))
    of false e = (let ge = ltb-false b (2 ^ 64 - 1) e in omega (arith, ge, bc, below))

-- a count that rose since a moment when the trail was the same
pub rose_since : {D : Type 0} (faults : D → ℕ) (u v w : Writer D) → v.trail ≡ u.trail → Rose (faults v.trail.device) (faults w.trail.device) → Rose (faults u.trail.device) (faults w.trail.device)
rose_since {D} faults u v w same rose = subst (λ (t : View D). Rose (faults t.device) (faults w.trail.device)) same rose

-- what was flushed behind what was taken in
pub flushed_behind : {D T : Type 0} (faults : D → ℕ) (n : ℕ) (by : By) (u v w : Writer D) (r : Result T FlushRefused) → HasWritten u v → v.trail ≡ u.trail
    → MatchResult r (λ _. HasWritten v w) (λ e. (e ≡ refused.Failed n) × HasStopped by v w × Rose (faults v.trail.device) (faults w.trail.device))
    → MatchResult r (λ _. HasWritten u w) (IsFlushStop faults by u w)
flushed_behind faults n by u v w (Ok x) first same h = written_then u v w first h
flushed_behind faults n by u v w (Err e) first same h = subst (λ (x : FlushRefused). IsFlushStop faults by u w x) (sym h.0) (stopped_then by u v w first h.1, rose_since faults u v w same h.2)

-- a refusal that names a device is none for want of memory
pub no_memory : {T : Type 0} (n : ℕ) (r : Result T FlushRefused) (X : Type 0) → IfErr r (λ e. e ≡ refused.Failed n) → IfErr r (λ e. e ≡ refused.NoMemory → X)
no_memory n (Ok x) X h = tt
no_memory n (Err e) X h = λ memory. let both = sym h ∙ memory in absurd (cc (both))

-- a refusal behind which batches have landed names the device
pub names_device : {D T : Type 0} (faults : D → ℕ) (n : ℕ) (by : By) (v w : Writer D) (r : Result T FlushRefused)
    → MatchResult r (λ _. HasWritten v w) (λ e. (e ≡ refused.Failed n) × HasStopped by v w × Rose (faults v.trail.device) (faults w.trail.device)) → IfErr r (λ e. e ≡ refused.Failed n)
names_device faults n by v w (Ok x) h = tt
names_device faults n by v w (Err e) h = h.0
