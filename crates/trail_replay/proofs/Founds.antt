-- What was found of a file's keys, with one record more.
use Rattle.std.specs.Prelude.{Option, Some, None, IsSome, is_some, filter, bytes_eq, ◌==◌, nat_le}
use Rattle.std.specs.BTreeMap.{BTreeMap}
use Rattle.std.specs.Cmp.Lexicographic.{slice_cmp}
use Rattle.std.specs.Map.{lookup}
use Rattle.std.specs.Ordering.{nat_cmp, is_eq}
use Rattle.std.proofs.Common.{◌≡◌, ℕ, Bool, true, false, ◌&&◌, cond, List, [], ◌∷◌, ◌++◌, refl, sym, ap, subst, ◌∙◌, arith}
use Rattle.std.proofs.lemmas.Bool.{eqb-true, eq-eqb}
use Rattle.std.proofs.lemmas.Bool.Decides.{nat_tests}
use Rattle.std.proofs.lemmas.Slice.Eq.{bytes_eq-Decides}
use Rattle.std.proofs.lemmas.List.Elements.{filter-append}
use Rattle.std.proofs.lemmas.Map.Text.{is_eq-slice_cmp}
use Rattle.trail_files.specs.declared.audit_record.AuditRecord.{AuditRecord}
use Rattle.trail_files.specs.declared.monitor_record.MonitorRecord.{MonitorRecord}
use Rattle.tmf_model.specs.RecordMap.{empty_map}
use Rattle.trail_files.specs.Recovered.{is_committed, kept_records, records_on, after_last_of, before_first_of, recovered_value}
use Rattle.trail_replay.specs.Found.{IsFound, value_found, value_of, records_found}

pub is_none-of : (o : Option (Option (List ℕ))) → is_some o ≡ false → o ≡ None
is_none-of None e = refl
is_none-of (Some v) e = absurd (cc)

eq-sym : (a b : ℕ) → (a == b) ≡ (b == a)
eq-sym a b = grind (arith, nat_tests)

bytes_eq-sym : (xs ys : List ℕ) → bytes_eq xs ys ≡ bytes_eq ys xs
bytes_eq-sym [] [] = refl
bytes_eq-sym [] (y ∷ ys) = refl
bytes_eq-sym (x ∷ xs) [] = refl
bytes_eq-sym (x ∷ xs) (y ∷ ys) = rw (eq-sym x y, bytes_eq-sym xs ys) refl

pub after_last-append : (xs ys : List AuditRecord) (base : Option (List ℕ)) → after_last_of (xs ++ ys) base ≡ after_last_of ys (after_last_of xs base)
after_last-append [] ys base = refl
after_last-append (x ∷ xs) ys base = after_last-append xs ys x.after

-- a committed record on a key has its value
found_committed : (monitor : List MonitorRecord) (own : List AuditRecord) (r : AuditRecord) → is_committed monitor r ≡ true → value_found monitor (own ++ r ∷ []) ≡ Some r.after
found_committed monitor [] r c = rw c refl
found_committed monitor (x ∷ xs) r c =
    rw (filter-append (is_committed monitor) (x ∷ xs) (r ∷ []), c) (ap (λ v. Some v) (after_last-append (filter (is_committed monitor) (x ∷ xs)) (r ∷ []) x.before))

-- any other changes nothing of a key that has a value
found_other : (monitor : List MonitorRecord) (own : List AuditRecord) (r : AuditRecord) → is_committed monitor r ≡ false → IsSome (value_found monitor own) → value_found monitor (own ++ r ∷ []) ≡ value_found monitor own
found_other monitor [] r c some = absurd (cc)
found_other monitor (x ∷ xs) r c some =
    rw (filter-append (is_committed monitor) (x ∷ xs) (r ∷ []), c) (ap (λ v. Some v) (after_last-append (filter (is_committed monitor) (x ∷ xs)) [] x.before))

-- and is the first of one that has none
found_first : (monitor : List MonitorRecord) (own : List AuditRecord) (r : AuditRecord) → is_committed monitor r ≡ false → value_found monitor own ≡ None → value_found monitor (own ++ r ∷ []) ≡ Some r.before
found_first monitor [] r c none = rw c refl
found_first monitor (x ∷ xs) r c none = absurd (cc)

append-none : (xs : List AuditRecord) → xs ++ [] ≡ xs
append-none [] = refl
append-none (x ∷ xs) = ap (λ rest. x ∷ rest) (append-none xs)

-- of the file's records one more is on its own key
own_records-append : (file : ℕ) (key : List ℕ) (audit : List AuditRecord) (r : AuditRecord) → file ≡ r.file
    → records_on file key (audit ++ r ∷ []) ≡ records_on file key audit ++ cond (bytes_eq key r.key) (r ∷ []) []
own_records-append file key audit r same =
    filter-append (λ x. (file == x.file) && bytes_eq key x.key) audit (r ∷ [])
    ∙ ap (λ b. records_on file key audit ++ cond (b && bytes_eq key r.key) (r ∷ []) []) (eq-eqb file r.file same)

at_place : (b : Bool) (monitor : List MonitorRecord) (own : List AuditRecord) (r : AuditRecord) (new : Option (Option (List ℕ)))
    → (b ≡ true → value_found monitor (own ++ r ∷ []) ≡ new) → cond b new (value_found monitor own) ≡ value_found monitor (own ++ cond b (r ∷ []) [])
at_place true monitor own r new here = sym (here refl)
at_place false monitor own r new here = rw (append-none own) refl

same-key : (key other : List ℕ) → is_eq (slice_cmp nat_cmp other key) ≡ bytes_eq key other
same-key key other = is_eq-slice_cmp other key ∙ bytes_eq-sym other key

found-put : (audit : List AuditRecord) (monitor : List MonitorRecord) (r : AuditRecord) (new : Option (List ℕ)) (file : ℕ) (key : List ℕ) → file ≡ r.file
    → (bytes_eq key r.key ≡ true → value_found monitor (records_on file key audit ++ r ∷ []) ≡ Some new)
    → cond (is_eq (slice_cmp nat_cmp r.key key)) (Some new) (value_found monitor (records_on file key audit)) ≡ value_found monitor (records_on file key (audit ++ r ∷ []))
found-put audit monitor r new file key same here =
    rw (same-key key r.key, own_records-append file key audit r same)
    (at_place (bytes_eq key r.key) monitor (records_on file key audit) r (Some new) here)

pub found-put_committed : (audit : List AuditRecord) (monitor : List MonitorRecord) (r : AuditRecord) → is_committed monitor r ≡ true → (file : ℕ) (key : List ℕ) → file ≡ r.file
    → cond (is_eq (slice_cmp nat_cmp r.key key)) (Some r.after) (value_found monitor (records_on file key audit)) ≡ value_found monitor (records_on file key (audit ++ r ∷ []))
found-put_committed audit monitor r c file key same = found-put audit monitor r r.after file key same (λ _. found_committed monitor (records_on file key audit) r c)

own_key : (file : ℕ) (key : List ℕ) (audit : List AuditRecord) (r : AuditRecord) → bytes_eq key r.key ≡ true → records_on file r.key audit ≡ records_on file key audit
own_key file key audit r e = ap (λ k. records_on file k audit) (sym ((bytes_eq-Decides key r.key).0 e))

pub found-put_first : (audit : List AuditRecord) (monitor : List MonitorRecord) (r : AuditRecord) → is_committed monitor r ≡ false → (file : ℕ) → value_found monitor (records_on file r.key audit) ≡ None → (key : List ℕ) → file ≡ r.file
    → cond (is_eq (slice_cmp nat_cmp r.key key)) (Some r.before) (value_found monitor (records_on file key audit)) ≡ value_found monitor (records_on file key (audit ++ r ∷ []))
found-put_first audit monitor r c file none key same =
    found-put audit monitor r r.before file key same (λ e. found_first monitor (records_on file key audit) r c (ap (λ own. value_found monitor own) (sym (own_key file key audit r e)) ∙ none))

keeps_value : (b : Bool) (monitor : List MonitorRecord) (own : List AuditRecord) (r : AuditRecord)
    → is_committed monitor r ≡ false → (b ≡ true → IsSome (value_found monitor own)) → value_found monitor own ≡ value_found monitor (own ++ cond b (r ∷ []) [])
keeps_value true monitor own r c some = sym (found_other monitor own r c (some refl))
keeps_value false monitor own r c some = rw (append-none own) refl

pub found-keep : (audit : List AuditRecord) (monitor : List MonitorRecord) (r : AuditRecord) → is_committed monitor r ≡ false → (file : ℕ) → IsSome (value_found monitor (records_on file r.key audit)) → (key : List ℕ) → file ≡ r.file
    → value_found monitor (records_on file key audit) ≡ value_found monitor (records_on file key (audit ++ r ∷ []))
found-keep audit monitor r c file some key same =
    rw (own_records-append file key audit r same)
    (keeps_value (bytes_eq key r.key) monitor (records_on file key audit) r c
    (λ e. subst (λ own. IsSome (value_found monitor own)) (own_key file key audit r e) some))

-- one record more of the volume's audit
kept-append : (disc from : ℕ) (audit : List AuditRecord) (r : AuditRecord)
    → kept_records disc from (audit ++ r ∷ []) ≡ kept_records disc from audit ++ cond ((r.disc == disc) && nat_le from r.position) (r ∷ []) []
kept-append disc from audit r = filter-append (λ x. (x.disc == disc) && nat_le from x.position) audit (r ∷ [])

and-left : (a b : Bool) → (a && b) ≡ true → a ≡ true
and-left true b e = refl
and-left false b e = e

and-right : (a b : Bool) → (a && b) ≡ true → b ≡ true
and-right true b e = e
and-right false b e = absurd (cc)

pub kept-more : (disc from file : ℕ) (audit : List AuditRecord) (r : AuditRecord) → (((r.disc == disc) && nat_le from r.position) && (file == r.file)) ≡ true
    → (kept_records disc from (audit ++ r ∷ []) ≡ kept_records disc from audit ++ r ∷ []) × (file ≡ r.file)
kept-more disc from file audit r e = (
  kept-append disc from audit r ∙ ap (λ b. kept_records disc from audit ++ cond b (r ∷ []) []) (and-left ((r.disc == disc) && nat_le from r.position) (file == r.file) e),
  eqb-true file r.file (and-right ((r.disc == disc) && nat_le from r.position) (file == r.file) e),
)

skipped : (kept here : Bool) (file : ℕ) (key : List ℕ) (audit : List AuditRecord) (r : AuditRecord) → (kept && here) ≡ false → (file == r.file) ≡ here
    → records_on file key audit ≡ records_on file key (audit ++ cond kept (r ∷ []) [])
skipped false here file key audit r e is = ap (records_on file key) (sym (append-none audit))
skipped true true file key audit r e is = absurd (cc)
skipped true false file key audit r e is =
    sym (filter-append (λ x. (file == x.file) && bytes_eq key x.key) audit (r ∷ [])
    ∙ ap (λ b. records_on file key audit ++ cond (b && bytes_eq key r.key) (r ∷ []) []) is ∙ append-none (records_on file key audit))

-- a record of another volume or file says nothing
pub found-skip : (disc from file : ℕ) (audit : List AuditRecord) (monitor : List MonitorRecord) (r : AuditRecord) (found : BTreeMap (List ℕ) (Option (List ℕ)))
    → (((r.disc == disc) && nat_le from r.position) && (file == r.file)) ≡ false
    → IsFound file (kept_records disc from audit) monitor found → IsFound file (kept_records disc from (audit ++ r ∷ [])) monitor found
found-skip disc from file audit monitor r found e is key =
    is key
    ∙ ap (value_found monitor) (skipped ((r.disc == disc) && nat_le from r.position) (file == r.file) file key (kept_records disc from audit) r e refl
    ∙ ap (records_on file key) (sym (kept-append disc from audit r)))

-- before any audit nothing is found
pub found-none : (disc from file : ℕ) (list : List MonitorRecord) (found : BTreeMap (List ℕ) (Option (List ℕ))) → found.entries ≡ [] → IsFound file (kept_records disc from []) list found
found-none disc from file list found none = λ key. ap (λ es. lookup (λ other. is_eq (slice_cmp nat_cmp key other)) es) none

value-recovered : (monitor : List MonitorRecord) (own : List AuditRecord) → value_of (value_found monitor own) ≡ after_last_of (filter (is_committed monitor) own) (before_first_of own None)
value-recovered monitor [] = refl
value-recovered monitor (r ∷ rest) = refl

-- what the pass over the audit has found is the value that the definition, which looks at one key, gives
pub found-recovered : (file : ℕ) (audit : List AuditRecord) (monitor : List MonitorRecord) (found : BTreeMap (List ℕ) (Option (List ℕ))) → IsFound file audit monitor found
    → (key : List ℕ) → records_found found file key ≡ recovered_value empty_map audit monitor file key
found-recovered file audit monitor found is key = ap value_of (is key) ∙ value-recovered monitor (records_on file key audit)
