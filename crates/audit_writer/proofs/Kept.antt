-- The first file of a trail that is kept, as reading finds it.
use Rattle.std.specs.Prelude.{ℕ, nat_le, cond, ◌<◌, ◌≤◌, Bool, List, [], ◌∷◌, ◌++◌, slice_index, Result, Err, IfErr}
use Rattle.std.proofs.Common.{◌≡◌, true, false, inl, inr, ⊎_elim, refl, ap, sym, ◌∙◌, subst, arith, drop}
use Rattle.std.proofs.lemmas.Bool.{cases_lt, le-leb, lt-leb}
use Rattle.std.specs.List.{AllByRecursion}
use Rattle.disk_model.specs.declared.disk.Disk as disk
use Rattle.trail_files.specs.Holds.{Keeps}
use Rattle.trail_files.specs.Trail.{View, IsWritable}
use Rattle.trail_files.specs.declared.audit_record.AuditRecord.{AuditRecord}
use Rattle.trail_files.specs.Content.{Placed, Content, from_file, below_file}
use Rattle.node_machine.specs.Same.{Among}
use Rattle.node_machine.specs.SameLaws.{among_right, among_append}
use Rattle.audit_writer.specs.Purge.{IsSpent, IsFirstKept}

abbrev Rows : Type 0
Rows = List (Placed AuditRecord)

all_among : {A : Type 0} (says : A → Type 0) (xs : List A) (x : A) → AllByRecursion says xs → Among xs x → says x
all_among says [] x all there = absurd there
all_among says (y ∷ ys) x all there = ⊎_elim (λ (same : y ≡ x). subst says same all.0) (λ (h : Among ys x). all_among says ys x all.1 h) there

among_below : (file : ℕ) (xs : Rows) (x : Placed AuditRecord) → Among xs x → x.0 < file → Among (below_file file xs) x
among_below file [] x there lt = absurd there
among_below file (y ∷ ys) x there lt = ⊎_elim
    (λ (same : y ≡ x). (let at = ap (λ (z : Placed AuditRecord). z.0) same in rw (lt-leb file y.0 (omega (arith, at, lt))) (inl same)))
    (λ (h : Among ys x). go (nat_le file y.0) (among_below file ys x h lt))
    there
  where
    go : (b : Bool) → Among (below_file file ys) x → Among (cond b (below_file file ys) (y ∷ below_file file ys)) x
    go true h = h
    go false h = inr h

below_low : (file : ℕ) (xs : Rows) (x : Placed AuditRecord) → Among (below_file file xs) x → x.0 < file
below_low file [] x there = absurd there
below_low file (y ∷ ys) x there = ⊎_elim
    (λ (lt : y.0 < file).
    (let low : below_file file (y ∷ ys) ≡ y ∷ below_file file ys = rw (lt-leb file y.0 lt) refl in
    let here : Among (y ∷ below_file file ys) x = subst (λ (l : Rows). Among l x) low there in
    ⊎_elim (λ (same : y ≡ x). (let at = ap (λ (z : Placed AuditRecord). z.0) same in omega (arith, at, lt))) (λ (h : Among (below_file file ys) x). below_low file ys x h) here))
    (λ (le : file ≤ y.0).
    (let low : below_file file (y ∷ ys) ≡ below_file file ys = rw (le-leb file y.0 le) refl in
    below_low file ys x (subst (λ (l : Rows). Among l x) low there)))
    (cases_lt y.0 file)

-- the files rise: those below a number come first
abbrev IsSplit : ℕ → Rows → Type 0
IsSplit file xs = xs ≡ below_file file xs ++ from_file file xs

-- behind a record none is of a lower file
none_lower : (file : ℕ) (x : Placed AuditRecord) (xs : Rows) → IsSplit file (x ∷ xs) → file ≤ x.0 → (y : Placed AuditRecord) → Among xs y → file ≤ y.0
none_lower file x xs split le y there = ⊎_elim
    (λ (lt : y.0 < file). absurd (go (below_file file xs) refl (among_below file xs y there lt)))
    (λ (ge : file ≤ y.0). ge)
    (cases_lt y.0 file)
  where
    go : (low : Rows) → below_file file xs ≡ low → Among low y → ⊥
    go [] e h = h
    go (b ∷ bs) e h =
        let first : below_file file (x ∷ xs) ≡ b ∷ bs = rw (le-leb file x.0 le) e in
        let whole : x ∷ xs ≡ b ∷ (bs ++ from_file file (x ∷ xs)) = split ∙ ap (λ (l : Rows). l ++ from_file file (x ∷ xs)) first in
        let same : x ≡ b = cc (whole) in
        let low = below_low file xs b (subst (λ (l : Rows). Among l b) (sym e) (inl refl)) in
        let at = ap (λ (z : Placed AuditRecord). z.0) same in
        omega (arith, low, at, le)

pub none_lower_behind : (file : ℕ) (seen : Rows) (x : Placed AuditRecord) (more : Rows) → IsSplit file (seen ++ x ∷ more) → file ≤ x.0 → (y : Placed AuditRecord) → Among more y → file ≤ y.0
none_lower_behind file [] x more split le y there = none_lower file x more split le y there
none_lower_behind file (s ∷ seen) x more split le y there = ⊎_elim
    (λ (lt : s.0 < file).
    (let rest = seen ++ x ∷ more in
    let low : below_file file (s ∷ rest) ≡ s ∷ below_file file rest = rw (lt-leb file s.0 lt) refl in
    let high : from_file file (s ∷ rest) ≡ from_file file rest = rw (lt-leb file s.0 lt) refl in
    let whole : s ∷ rest ≡ s ∷ (below_file file rest ++ from_file file rest) = split ∙ (λ i. low i ++ high i) in
    none_lower_behind file seen x more (ap (drop 1) whole) le y there))
    (λ (ge : file ≤ s.0). none_lower file s (seen ++ x ∷ more) split ge y (among_right seen (x ∷ more) y (inr there)))
    (cases_lt s.0 file)

-- reading has found a record that is not spent
pub kept_at : (bounds : List ℕ) (content : Content AuditRecord) (seen more : Rows) (x : Placed AuditRecord) → content.placed ≡ seen ++ x ∷ more → IsSplit x.0 content.placed
    → AllByRecursion (λ (y : Placed AuditRecord). (content.least ≤ y.0) × (y.0 ≤ content.file)) content.placed → ((y : Placed AuditRecord) → Among seen y → IsSpent bounds y.1)
    → slice_index bounds x.1.disc ≤ x.1.position → IsFirstKept bounds content x.0
kept_at bounds content seen more x parts split within spent needed =
    let here : Among content.placed x = subst (λ (l : Rows). Among l x) (sym parts) (among_right seen (x ∷ more) x (inl refl)) in
    record {
      front = (all_among (λ (y : Placed AuditRecord). (content.least ≤ y.0) × (y.0 ≤ content.file)) content.placed x within here).1;
      spent = λ y there low. ⊎_elim
          (λ (h : Among seen y). spent y h)
          (λ (h : Among (x ∷ more) y). ⊎_elim
          (λ (same : x ≡ y). (let at = ap (λ (z : Placed AuditRecord). z.0) same in absurd (omega (arith, at, low))))
          (λ (m : Among more y). (let ge = none_lower_behind x.0 seen x more (subst (IsSplit x.0) parts split) (omega arith) y m in absurd (omega (arith, ge, low))))
          h)
          (among_append seen (x ∷ more) y (subst (λ (l : Rows). Among l y) parts there));
      kept = inr (x, here, refl, needed);
    }

-- reading has found none
pub none_kept : (bounds : List ℕ) (content : Content AuditRecord) (seen : Rows) (present : ℕ) → content.placed ≡ seen → present ≡ content.file → ((y : Placed AuditRecord) → Among seen y → IsSpent bounds y.1) → IsFirstKept bounds content present
none_kept bounds content seen present parts same spent = record { front = omega (arith, same); spent = λ y there low. spent y (subst (λ (l : Rows). Among l y) parts there); kept = inl same }

pub keeps_then : {D : Type 0} (kind : disk.Ghosts D) → ((a b c : D) → kind.is_same a b → kind.is_same b c → kind.is_same a c) → (u v w : View D) → Keeps kind u v → Keeps kind v w → Keeps kind u w
keeps_then kind on u v w p q = record {
  rules = q.rules ∙ p.rules;
  device = record { device = on u.device v.device w.device p.device.device q.device.device; tells = q.device.tells ∙ p.device.tells; later = (let a = p.device.later in let b = q.device.later in omega (arith, a, b)) };
  writable = λ (ok : IsWritable kind.tells kind.held u). q.writable (p.writable ok);
}

-- what a call says of the fault that it gave
pub err_of : {A E : Type 0} (r : Result A E) (e : E) (says : E → Type 0) → r ≡ Err e → IfErr r says → says e
err_of r e says is h = subst (λ (r : Result _ _). IfErr r says) is h
