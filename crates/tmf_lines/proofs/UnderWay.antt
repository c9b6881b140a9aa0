-- The lines of records, given piece by piece.
use Rattle.std.specs.Prelude.{Some, drop, slice_get, slice_index_or, take, Result, Ok, Err, OnErr}
use Rattle.std.proofs.Common.{suc, true, inl, inr, ◌⊎◌, ◌≡◌, ◌<◌, ◌+◌, ◌++◌, ◌∷◌, [], ℕ, List, length, refl, sym, ap, subst, ◌∙◌, arith}
use Rattle.std.proofs.Math.Seq.{take-append-add, take-suc}
use Rattle.std.proofs.lemmas.List.{append_assoc, append-nil, length-append, take-append-drop, take-append-le}
use Rattle.std.proofs.lemmas.Option.{slice_get_read}
use Rattle.trail_files.specs.declared.monitor_record.MonitorRecord.{MonitorRecord}
use Rattle.tmf_lines.specs.declared.line.Line.{Line}
use Rattle.tmf_lines.specs.declared.line.Line.TheVariants.{Formatted, Committed, Read, ReadAbsent, Aborted, Refused, Full, Busy, Spent, SpentWorker, AttemptFailed, AttemptDamaged, InDoubt, Hanging, HangingDamaged, HangingMemory, Skipped, Memory, Controlled, Dumped, Dumping, Recorded, LostVolume, Removed, LoseFailed, Rolled, RollNotUp, NotLost, NoDump, RollFailed, RollDamaged, Recovered, Entry, Listed, NotUp, DumpsFailed, Failed, Damaged, RunFailed, RunDamaged, EpochsSpent, ListNotUp, ListFailed, ListDamaged, NotScript, Usage}
use Rattle.tmf_lines.specs.declared.output.GiveFault.{GiveFault}
use Rattle.tmf_lines.specs.declared.output.GiveFault.TheVariants.{NoMemory, SinkFailed}
use Rattle.tmf_lines.specs.Line.{AreRecords, IsNotGiven, is_record}
use Rattle.tmf_edges.specs.Moves.{AppendsPart}

-- some of a text was given, and the piece is what follows of it
abbrev pub IsUnderWay : List ℕ → List ℕ → List ℕ → List ℕ → Type 0
IsUnderWay before given piece text = (sent : List ℕ) × (given ≡ before ++ sent) × (sent ++ piece ≡ text)

-- a piece was given
pub under-way-given : (before given now piece text : List ℕ) → IsUnderWay before given piece text → now ≡ given ++ piece → IsUnderWay before now [] text
under-way-given before given now piece text (sent, is, whole) all =
    (sent ++ piece, all ∙ ap (λ g. g ++ piece) is ∙ append_assoc before sent piece, append-nil (sent ++ piece) ∙ whole)

-- more was added to it
pub under-way-added : (before given piece more text bytes after : List ℕ) → IsUnderWay before given piece text → more ≡ piece ++ bytes → after ≡ text ++ bytes → IsUnderWay before given more after
under-way-added before given piece more text bytes after (sent, is, whole) added longer =
    (sent, is, ap (λ p. sent ++ p) added ∙ sym (append_assoc sent piece bytes) ∙ ap (λ t. t ++ bytes) whole ∙ sym longer)

-- a part of it was given
pub under-way-part : (before given after piece text rest : List ℕ) → IsUnderWay before given piece text → AppendsPart given after piece → AppendsPart before after (text ++ rest)
under-way-part before given after piece text rest (sent, is, whole) part =
    let parts : text ++ rest ≡ sent ++ (piece ++ rest) = ap (λ t. t ++ rest) (sym whole) ∙ append_assoc sent piece rest in
    let many : length (text ++ rest) ≡ length sent + (length piece + length rest) = ap length parts ∙ length-append sent (piece ++ rest) ∙ ap (λ n. length sent + n) (length-append piece rest) in
    record {
      count = length sent + part.count;
      short = omega (arith, many, part.short);
      appended = part.appended ∙ ap (λ g. g ++ take part.count piece) is ∙ append_assoc before sent (take part.count piece)
          ∙ ap (λ t. before ++ t) (ap (λ p. sent ++ p) (sym (take-append-le part.count piece rest (omega (arith, part.short)))) ∙ sym (take-append-add sent (piece ++ rest) part.count) ∙ ap (take (length sent + part.count)) (sym parts));
    }

-- a part of the first of two texts
pub part-first : (before after text rest : List ℕ) → AppendsPart before after text → AppendsPart before after (text ++ rest)
part-first before after text rest part = under-way-part before before after text text rest ([], sym (append-nil before), refl) part

-- the first of two texts, and a part of the second
pub part-second : (before given after first second : List ℕ) → given ≡ before ++ first → AppendsPart given after second → AppendsPart before after (first ++ second)
part-second before given after first second is part =
    subst (AppendsPart before after) (append-nil (first ++ second)) (under-way-part before given after second (first ++ second) [] (first, is, refl) part)

-- what was not said of the first of two texts was not said of both
pub fault-first : (fault : GiveFault) (before after text rest : List ℕ) → IsNotGiven fault before after text → IsNotGiven fault before after (text ++ rest)
fault-first NoMemory before after text rest same = same
fault-first SinkFailed before after text rest part = part-first before after text rest part

-- the line of a record
pub record-is : (line : Line) → is_record line ≡ true → ((file key value : List ℕ) × (line ≡ Entry file key value)) ⊎ ((place : ℕ) × (item : MonitorRecord) × (line ≡ Recorded place item))
record-is Formatted e = absurd (cc e)
record-is (Committed t place) e = absurd (cc e)
record-is (Read t op value) e = absurd (cc e)
record-is (ReadAbsent t op) e = absurd (cc e)
record-is (Aborted t) e = absurd (cc e)
record-is (Refused t op reason) e = absurd (cc e)
record-is (Full t file key) e = absurd (cc e)
record-is (Busy t file key holder) e = absurd (cc e)
record-is (Spent t device) e = absurd (cc e)
record-is (SpentWorker t number) e = absurd (cc e)
record-is (AttemptFailed t device) e = absurd (cc e)
record-is (AttemptDamaged t device damage) e = absurd (cc e)
record-is (InDoubt t device) e = absurd (cc e)
record-is (Hanging t device) e = absurd (cc e)
record-is (HangingDamaged t device damage) e = absurd (cc e)
record-is (HangingMemory t) e = absurd (cc e)
record-is (Skipped t) e = absurd (cc e)
record-is (Memory t) e = absurd (cc e)
record-is (Controlled t volume low) e = absurd (cc e)
record-is (Dumped t volume start) e = absurd (cc e)
record-is (Dumping t volume) e = absurd (cc e)
record-is (Recorded place item) e = inr (place, item, refl)
record-is (LostVolume volume) e = absurd (cc e)
record-is (Removed volume) e = absurd (cc e)
record-is (LoseFailed volume) e = absurd (cc e)
record-is (Rolled volume next) e = absurd (cc e)
record-is (RollNotUp volume) e = absurd (cc e)
record-is (NotLost volume) e = absurd (cc e)
record-is (NoDump volume) e = absurd (cc e)
record-is (RollFailed volume device) e = absurd (cc e)
record-is (RollDamaged volume device damage) e = absurd (cc e)
record-is (Recovered epoch) e = absurd (cc e)
record-is (Entry file key value) e = inl (file, key, value, refl)
record-is (Listed file count) e = absurd (cc e)
record-is (NotUp asked) e = absurd (cc e)
record-is (Failed asked device) e = absurd (cc e)
record-is (DumpsFailed volume) e = absurd (cc e)
record-is (Damaged asked device damage) e = absurd (cc e)
record-is (RunFailed device) e = absurd (cc e)
record-is (RunDamaged device damage) e = absurd (cc e)
record-is EpochsSpent e = absurd (cc e)
record-is (ListNotUp file) e = absurd (cc e)
record-is (ListFailed file device) e = absurd (cc e)
record-is (ListDamaged file device damage) e = absurd (cc e)
record-is (NotScript line why) e = absurd (cc e)
record-is Usage e = absurd (cc e)

-- each of the lines is one
pub record-at : (lines : List Line) (n : ℕ) (line : Line) → AreRecords (length lines) lines → n < length lines → line ≡ slice_index_or lines n line → is_record line ≡ true
record-at lines n line all within is = all n line within (slice_get_read lines (length lines) n line refl within is)

-- what holds where a call failed
pub on-err : {T E : Type 0} (r : Result T E) {P : Type 0} → P → OnErr r P
on-err (Ok x) p = tt
on-err (Err e) p = p

pub on-err-so : {T E : Type 0} (r : Result T E) {P Q : Type 0} → (P → Q) → OnErr r P → OnErr r Q
on-err-so (Ok x) so p = tt
on-err-so (Err e) so p = so p
