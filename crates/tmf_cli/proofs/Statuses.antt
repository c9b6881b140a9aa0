-- The numbers of the statuses.
use Rattle.std.proofs.Common.{arith, ◌≡◌, ◌≢◌, ◌⊎◌, ◌≤◌, refl, inl, inr}
use Rattle.tmf_cli.specs.declared.status.Status.{Status}
use Rattle.tmf_cli.specs.declared.status.Status.TheVariants as status
use Rattle.tmf_cli.specs.Status.{code_of}
use Rattle.tmf_cli.specs.Top.{IsPlayed, IsRead}

-- a number is that of one status
pub code-done : (s : Status) → code_of s ≡ 0 → s ≡ status.Done
code-done status.Done e = refl
code-done status.Usage e = absurd (cc)
code-done status.NoMemory e = absurd (cc)
code-done status.SourceFailed e = absurd (cc)
code-done status.SinkFailed e = absurd (cc)
code-done status.Refused e = absurd (cc)

pub code-usage : (s : Status) → code_of s ≡ 1 → s ≡ status.Usage
code-usage status.Done e = absurd (cc)
code-usage status.Usage e = refl
code-usage status.NoMemory e = absurd (cc)
code-usage status.SourceFailed e = absurd (cc)
code-usage status.SinkFailed e = absurd (cc)
code-usage status.Refused e = absurd (cc)

pub code-source : (s : Status) → code_of s ≡ 3 → s ≡ status.SourceFailed
code-source status.Done e = absurd (cc)
code-source status.Usage e = absurd (cc)
code-source status.NoMemory e = absurd (cc)
code-source status.SourceFailed e = refl
code-source status.SinkFailed e = absurd (cc)
code-source status.Refused e = absurd (cc)

pub code-sink : (s : Status) → code_of s ≡ 4 → s ≡ status.SinkFailed
code-sink status.Done e = absurd (cc)
code-sink status.Usage e = absurd (cc)
code-sink status.NoMemory e = absurd (cc)
code-sink status.SourceFailed e = absurd (cc)
code-sink status.SinkFailed e = refl
code-sink status.Refused e = absurd (cc)

pub code-refused : (s : Status) → code_of s ≡ 5 → s ≡ status.Refused
code-refused status.Done e = absurd (cc)
code-refused status.Usage e = absurd (cc)
code-refused status.NoMemory e = absurd (cc)
code-refused status.SourceFailed e = absurd (cc)
code-refused status.SinkFailed e = absurd (cc)
code-refused status.Refused e = refl

-- where nothing else ends a script, it was carried out, or memory lacked
pub none-failed : (s : Status) → s ≢ status.Usage → s ≢ status.SourceFailed → s ≢ status.SinkFailed → s ≢ status.Refused → (code_of s ≡ 0) ⊎ (code_of s ≡ 2)
none-failed status.Done usage source sink refused = inl refl
none-failed status.Usage usage source sink refused = absurd (usage refl)
none-failed status.NoMemory usage source sink refused = inr refl
none-failed status.SourceFailed usage source sink refused = absurd (source refl)
none-failed status.SinkFailed usage source sink refused = absurd (sink refl)
none-failed status.Refused usage source sink refused = absurd (refused refl)

-- and where none is carried out, it was refused
pub none-played : (s : Status) → s ≢ status.Usage → s ≢ status.SourceFailed → ((s ≡ status.Done) ⊎ (s ≡ status.SinkFailed) → ⊥) → (code_of s ≡ 5) ⊎ (code_of s ≡ 2)
none-played status.Done usage source played = absurd (played (inl refl))
none-played status.Usage usage source played = absurd (usage refl)
none-played status.NoMemory usage source played = inr refl
none-played status.SourceFailed usage source played = absurd (source refl)
none-played status.SinkFailed usage source played = absurd (played (inr refl))
none-played status.Refused usage source played = inl refl

pub code-most : (s : Status) → code_of s ≤ 5
code-most status.Done = omega arith
code-most status.Usage = omega arith
code-most status.NoMemory = omega arith
code-most status.SourceFailed = omega arith
code-most status.SinkFailed = omega arith
code-most status.Refused = omega arith

-- the statuses of these numbers
pub played-from : (s : Status) → IsPlayed (code_of s) → (s ≡ status.Done) ⊎ (s ≡ status.SinkFailed)
played-from s (inl e) = inl (code-done s e)
played-from s (inr e) = inr (code-sink s e)

-- a call that did not read its script has neither number
pub none-read : (s : Status) → (s ≡ status.Usage) ⊎ (s ≡ status.NoMemory) → IsRead (code_of s) → ⊥
none-read status.Usage is (inl (inl e)) = absurd (cc)
none-read status.Usage is (inl (inr e)) = absurd (cc)
none-read status.Usage is (inr e) = absurd (cc)
none-read status.NoMemory is (inl (inl e)) = absurd (cc)
none-read status.NoMemory is (inl (inr e)) = absurd (cc)
none-read status.NoMemory is (inr e) = absurd (cc)
none-read status.Done (inl is) e = absurd (cc)
none-read status.Done (inr is) e = absurd (cc)
none-read status.SourceFailed (inl is) e = absurd (cc)
none-read status.SourceFailed (inr is) e = absurd (cc)
none-read status.SinkFailed (inl is) e = absurd (cc)
none-read status.SinkFailed (inr is) e = absurd (cc)
none-read status.Refused (inl is) e = absurd (cc)
none-read status.Refused (inr is) e = absurd (cc)

-- want of memory is no status of a text that was read
pub memory-unread : IsRead 2 → ⊥
memory-unread (inl (inl e)) = absurd (omega (arith, e))
memory-unread (inl (inr e)) = absurd (omega (arith, e))
memory-unread (inr e) = absurd (omega (arith, e))
