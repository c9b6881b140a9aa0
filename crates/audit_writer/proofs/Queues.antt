-- Lists of records: what waits, what is offered of it, and records with their files.
use Rattle.std.specs.Prelude.{ℕ, nat_le, ◌<◌, ◌≤◌, ◌+◌, ◌-◌, List, [], ◌∷◌, ◌++◌, length}
use Rattle.std.proofs.Common.{◌≡◌, ◌≢◌, true, refl, ap, sym, ◌∙◌, arith, length-append, length-take, length-drop, take-append-drop, take, drop, drop_at, drop-drop}
use Rattle.std.specs.List.{AllByRecursion}
use mathlib.Core.List.{IsPrefix}
use Rattle.trail_files.specs.declared.audit_record.AuditRecord.{AuditRecord}
use Rattle.trail_files.specs.Content.{Placed, from_file, in_file, records_in}
use Rattle.node_machine.specs.declared.event.TrailEvent.{TrailEvent}
use Rattle.node_machine.specs.declared.event.TrailEvent.TheVariants.{Offer, Land, Purge, Failed}
use Rattle.node_machine.specs.Parts.{Standing}
use Rattle.node_machine.specs.Trail.{offered, offered_standing, stand_in}
use Rattle.audit_writer.specs.Writer.{placed_of}
use Rattle.audit_writer.specs.Writes.{has_some}

pub all_right : {A : Type 0} (P : A → Type 0) (xs ys : List A) → AllByRecursion P (xs ++ ys) → AllByRecursion P ys
all_right P [] ys h = h
all_right P (x ∷ xs) ys h = all_right P xs ys h.1

pub all_left : {A : Type 0} (P : A → Type 0) (xs ys : List A) → AllByRecursion P (xs ++ ys) → AllByRecursion P xs
all_left P [] ys h = tt
all_left P (x ∷ xs) ys h = (h.0, all_left P xs ys h.1)

pub some_list : (xs : List AuditRecord) → xs ≢ [] → has_some xs ≡ true
some_list [] ne = absurd (ne refl)
some_list (x ∷ xs) ne = refl

pub not_none : {A : Type 0} (xs : List A) → 0 < length xs → xs ≢ []
not_none [] lt e = omega (arith, lt)
not_none (x ∷ xs) lt e = absurd (cc (e))

pub none_of : {A : Type 0} (xs : List A) → length xs ≡ 0 → xs ≡ []
none_of [] e = refl
none_of (x ∷ xs) e = absurd (omega (arith, e))

-- more records stand behind some, so there are some
pub some_before : {A : Type 0} (xs ys : List A) → xs ≢ [] → xs ++ ys ≢ []
some_before [] ys ne e = absurd (ne refl)
some_before (x ∷ xs) ys ne e = absurd (cc (e))

pub still_some : {A : Type 0} (xs ys : List A) → ys ≢ [] → xs ++ ys ≢ []
still_some [] ys ne e = ne e
still_some (x ∷ xs) ys ne e = absurd (cc (e))

-- the front of what waits is what is offered, and the rest is behind it
pub queue_parts : {A : Type 0} (a b : ℕ) (items xs : List A) → IsPrefix xs (drop a items) → b ≡ length xs → drop a items ≡ xs ++ drop (a + b) items
queue_parts a b items xs p e = sym p.1 ∙ ap (λ l. xs ++ l) (sym (drop_at xs p.0 b (sym e)) ∙ ap (drop b) p.1 ∙ drop-drop b a items)

pub shorter : {A : Type 0} (queue rest batch : List A) → queue ≡ batch ++ rest → batch ≢ [] → length rest < length queue
shorter queue rest [] e ne = absurd (ne refl)
shorter queue rest (x ∷ xs) e ne =
    let long = ap length e in
    let more = length-append (x ∷ xs) rest in
    omega (arith, long, more)

-- the next batch, as code cuts it
pub batch_parts : {A : Type 0} (a n : ℕ) (items now : List A) → now ≡ items → drop a items ≡ take (a + n - a) (drop a now) ++ drop (a + n) items
batch_parts a n items now same =
    let same_n : n ≡ a + n - a = omega arith in
    sym (take-append-drop n (drop a items))
    ∙ ap (λ (k : ℕ). take k (drop a items) ++ drop n (drop a items)) same_n
    ∙ ap (λ l. take (a + n - a) (drop a l) ++ drop n (drop a items)) (sym same)
    ∙ ap (λ l. take (a + n - a) (drop a now) ++ l) (drop-drop n a items)

pub batch_length : {A : Type 0} (a n : ℕ) (items now : List A) → now ≡ items → n ≤ length items - a → length (take (a + n - a) (drop a now)) ≡ n
batch_length a n items now same fits =
    let one = length-take (a + n - a) (drop a now) in
    let two = length-drop a now in
    let three = ap length same in
    omega (arith, one, two, three, fits)

-- RECORDS WITH THEIR FILES

-- of one file all records stand in the files from a number on
pub from_file-kept : {R : Type 0} (from file : ℕ) (rs : List R) → nat_le from file ≡ true → from_file from (in_file file rs) ≡ in_file file rs
from_file-kept from file [] le = refl
from_file-kept {R} from file (r ∷ rs) le = rw le (ap (λ (l : List (Placed R)). (file, r) ∷ l) (from_file-kept from file rs le))

pub placed_of-append : (xs ys : List Standing) → placed_of (xs ++ ys) ≡ placed_of xs ++ placed_of ys
placed_of-append [] ys = refl
placed_of-append (x ∷ xs) ys = ap (λ (l : List (Placed AuditRecord)). (x.file, x.item) ∷ l) (placed_of-append xs ys)

pub placed_of-stand_in : (file : ℕ) (rs : List AuditRecord) → placed_of (stand_in file rs) ≡ in_file file rs
placed_of-stand_in file [] = refl
placed_of-stand_in file (r ∷ rs) = ap (λ (l : List (Placed AuditRecord)). (file, r) ∷ l) (placed_of-stand_in file rs)

pub records_in-stand_in : (file : ℕ) (rs : List AuditRecord) → records_in (placed_of (stand_in file rs)) ≡ rs
records_in-stand_in file [] = refl
records_in-stand_in file (r ∷ rs) = ap (λ (l : List AuditRecord). r ∷ l) (records_in-stand_in file rs)

-- the records of the offered batch, with their file or without
pub records_in-offered : (events : List TrailEvent) → records_in (placed_of (offered_standing events)) ≡ offered events
records_in-offered [] = refl
records_in-offered (Offer file records ∷ events) = records_in-stand_in file records
records_in-offered (Land ∷ events) = refl
records_in-offered (Purge file last ∷ events) = records_in-offered events
records_in-offered (Failed by ∷ events) = records_in-offered events
