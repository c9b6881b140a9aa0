-- One record more of a trail, taken into a node's changes.
use Rattle.std.proofs.Common.{◌≡◌, ◌≢◌, ⊎_elim, ℕ, zero, suc, ◌+◌, ◌-◌, ◌<◌, ◌≤◌, List, [], ◌∷◌, ◌++◌, length, refl, sym, ap, subst, ◌∙◌, arith, length-set, Bool, true, false}
use Rattle.std.specs.Prelude.{Option, None, Some, nat_eq, not, option_map, slice_get, slice_set}
use Rattle.std.specs.Option.{option_eq}
use Rattle.std.proofs.lemmas.Bool.Decides.{nat_tests}
use Rattle.std.proofs.lemmas.Option.{slice_get_within}
use Rattle.disk_model.specs.declared.disk.Disk as disk
use Rattle.disk_model.specs.Frame.{IsLater}
use Rattle.tmf_model.specs.Commits.{numbered}
use Rattle.tmf_model.specs.Config.{IsNumber, IsWithin}
use Rattle.tmf_model.specs.declared.config.Config.{Config}
use Rattle.tmf_model.specs.declared.config.Volume.{Volume}
use Rattle.trail_files.specs.declared.audit_record.AuditRecord.{AuditRecord}
use Rattle.trail_files.specs.declared.monitor_record.MonitorRecord.{MonitorRecord}
use Rattle.trail_files.specs.Recovered.{kept_records}
use Rattle.block_cache.proofs.Caches.{same_or_other}
use Rattle.trail_replay.specs.declared.replay.FoundFiles.{FoundFiles}
use Rattle.trail_replay.specs.Replay.{IsFoundAt}
use Rattle.trail_replay.proofs.Replays.{found-stays, get_set_other, get_set_same}
use Rattle.volume_restore.specs.declared.changes.DiscPlace.{DiscPlace}
use Rattle.volume_restore.specs.declared.changes.NodeChanges.{NodeChanges}
use Rattle.volume_restore.specs.Bases.{next_behind}
use Rattle.volume_restore.specs.Found.{AreFoundFor, AreFoundIn, AreFoundSoFar, IsFoundOn, IsLeftOut}
use Rattle.volume_restore.proofs.Kept.{kept-other, next-other, next-own}

pub some_is : {X : Type 0} (a b : X) → ◌≡◌ {A = Option X} (Some a) (Some b) → a ≡ b
some_is a b e = cc

pub both_are : {X : Type 0} (o : Option X) (a b : X) → o ≡ Some a → o ≡ Some b → a ≡ b
both_are o a b is_a is_b = some_is a b (sym is_a ∙ is_b)

-- whether a trail is told to be this one
pub told-same : (o : Option ℕ) (trail : ℕ) (b : Bool) → b ≡ not (option_eq nat_eq o (Some trail)) → b ≡ false → o ≡ Some trail
told-same None trail b is off = absurd (cc)
told-same (Some n) trail b is off = ap Some (same n trail (sym is ∙ off))
  where
    same : (n m : ℕ) → not (nat_eq n m) ≡ false → n ≡ m
    same n m e = grind (arith, nat_tests)

pub told-other : (o : Option ℕ) (trail : ℕ) (b : Bool) → b ≡ not (option_eq nat_eq o (Some trail)) → b ≡ true → o ≡ Some trail → ⊥
told-other None trail b is on some = absurd (cc)
told-other (Some n) trail b is on some = other n trail (sym is ∙ on) (some_is n trail some)
  where
    other : (n m : ℕ) → not (nat_eq n m) ≡ true → n ≡ m → ⊥
    other n m e same = grind (arith, nat_tests)

-- the trail of a volume, by its number
trail-numbered : (volumes : List Volume) (volume : ℕ) (line : Volume) → IsNumber volumes volume line → option_map (λ v. v.trail) (numbered volumes volume) ≡ Some line.trail
trail-numbered volumes zero line is = absurd (omega (arith, is.0))
trail-numbered volumes (suc before) line is = let same : before ≡ suc before - 1 = omega arith in ap (λ n. option_map (λ v. v.trail) (slice_get volumes n)) same ∙ ap (option_map (λ v. v.trail)) is.1

-- a volume whose trail is told has a line
pub line-of : (volumes : List Volume) (volume trail : ℕ) → option_map (λ v. v.trail) (numbered volumes volume) ≡ Some trail → (line : Volume) × IsNumber volumes volume line × (line.trail ≡ trail)
line-of volumes zero trail is = absurd (cc)
line-of volumes (suc before) trail is = with-line (slice_get volumes before) refl is
  where
    with-line : (o : Option Volume) → slice_get volumes before ≡ o → option_map (λ v. v.trail) o ≡ Some trail → (line : Volume) × IsNumber volumes (suc before) line × (line.trail ≡ trail)
    with-line None at none = absurd (cc)
    with-line (Some line) at same = let behind : suc before - 1 ≡ before = omega arith in (line, (omega arith, ap (slice_get volumes) behind ∙ at), some_is line.trail trail same)

-- a disc without that trail is none of its volumes
pub not-of : (volumes : List Volume) (disc trail volume : ℕ) (line : Volume) → (option_map (λ v. v.trail) (numbered volumes disc) ≡ Some trail → ⊥) → IsNumber volumes volume line → line.trail ≡ trail → disc ≢ volume
not-of volumes disc trail volume line off is on same =
    off (ap (λ n. option_map (λ v. v.trail) (numbered volumes n)) same ∙ trail-numbered volumes volume line is ∙ ap Some on)

-- nor is one with it a volume of another
pub not-other : (volumes : List Volume) (disc trail volume : ℕ) (line : Volume) → option_map (λ v. v.trail) (numbered volumes disc) ≡ Some trail → IsNumber volumes volume line → line.trail ≢ trail → disc ≢ volume
not-other volumes disc trail volume line on is off same =
    off (some_is line.trail trail (sym (trail-numbered volumes volume line is) ∙ sym (ap (λ n. option_map (λ v. v.trail) (numbered volumes n)) same) ∙ on))

apart : (n m : ℕ) → 1 ≤ n → 1 ≤ m → n ≢ m → n - 1 ≢ m - 1
apart n m some more ne = λ e. ne (omega (arith, some, more, e))

module _ (config : Config) (volume low : ℕ) (audit : List AuditRecord) (list : List MonitorRecord) (r : AuditRecord) where
  -- a record of another disc says nothing of the volume
  pub sofar-other : (changes : NodeChanges) → r.disc ≢ volume → AreFoundSoFar config volume low audit list changes → AreFoundSoFar config volume low (audit ++ r ∷ []) list changes
  sofar-other changes other sofar = record {
    found = λ file trail lies. subst (λ xs. IsFoundAt file xs list changes.files) (sym (kept-other volume low audit r other)) (sofar.found file trail lies);
    next = sofar.next;
    place = sofar.place;
    behind = subst (λ n. n ≤ 4611686018427387904 → sofar.next ≡ n) (sym (next-other volume low audit r other)) sofar.behind;
  }

  -- a record is taken in: of its own disc it is behind the audit
  pub sofar-taken : (old new : NodeChanges) (next : ℕ) (place : DiscPlace) → slice_get old.places.items (r.disc - 1) ≡ Some place → new.places.items ≡ slice_set old.places.items (r.disc - 1) (record place { next = next })
      → 1 ≤ r.disc → 1 ≤ volume → (1 + r.position ≤ 4611686018427387904 → next ≡ 1 + r.position) → AreFoundSoFar config volume low audit list old → IsFoundOn config volume low (audit ++ r ∷ []) list new.files
      → AreFoundSoFar config volume low (audit ++ r ∷ []) list new
  sofar-taken old new next place at set disc some behind sofar found =
      ⊎_elim
      (λ same.
      let index : volume - 1 ≡ r.disc - 1 = ap (λ n. n - 1) (sym same) in
      let is : place ≡ record { low = low; next = sofar.next } = both_are (slice_get old.places.items (volume - 1)) place (record { low = low; next = sofar.next }) (ap (slice_get old.places.items) index ∙ at) sofar.place in
      let own : next_behind volume low (audit ++ r ∷ []) ≡ r.position + 1 = next-own volume low audit r same in
      record {
        found = found;
        next = next;
        place = ap (λ xs. slice_get xs (volume - 1)) set ∙ ap (slice_get (slice_set old.places.items (r.disc - 1) (record place { next = next }))) index
            ∙ get_set_same old.places.items (r.disc - 1) (record place { next = next }) (slice_get_within old.places.items (r.disc - 1) place at)
            ∙ ap (λ (p : DiscPlace). Some (record p { next = next })) is;
        behind = λ small. omega (arith, own, small, behind (omega (arith, own, small)));
      })
      (λ other.
      let index : volume - 1 ≢ r.disc - 1 = apart volume r.disc some disc (λ e. other (sym e)) in
      record {
        found = found;
        next = sofar.next;
        place = ap (λ xs. slice_get xs (volume - 1)) set ∙ get_set_other old.places.items (r.disc - 1) (record place { next = next }) (volume - 1) index ∙ sofar.place;
        behind = subst (λ n. n ≤ 4611686018427387904 → sofar.next ≡ n) (sym (next-other volume low audit r other)) sofar.behind;
      })
      (same_or_other r.disc volume)

-- the place of another volume stays
pub place-other : (xs : List DiscPlace) (disc volume : ℕ) (place : DiscPlace) → 1 ≤ disc → 1 ≤ volume → disc ≢ volume → slice_get (slice_set xs (disc - 1) place) (volume - 1) ≡ slice_get xs (volume - 1)
place-other xs disc volume place some more other = get_set_other xs (disc - 1) place (volume - 1) (apart volume disc more some (λ e. other (sym e)))

-- each next position stays within its range
pub within-set : (xs : List DiscPlace) (at : ℕ) (place : DiscPlace) → IsWithin 1 4611686018427387904 place.next → ((n : ℕ) (p : DiscPlace) → slice_get xs n ≡ Some p → IsWithin 1 4611686018427387904 p.next)
    → (n : ℕ) (p : DiscPlace) → slice_get (slice_set xs at place) n ≡ Some p → IsWithin 1 4611686018427387904 p.next
within-set xs at place here each n p is =
    ⊎_elim
    (λ same.
    let within : at < length xs = omega (arith, slice_get_within (slice_set xs at place) n p is, length-set xs at place, same) in
    let one : p ≡ place = both_are (slice_get (slice_set xs at place) n) p place is (ap (slice_get (slice_set xs at place)) same ∙ get_set_same xs at place within) in
    subst (λ (q : DiscPlace). IsWithin 1 4611686018427387904 q.next) (sym one) here)
    (λ other. each n p (sym (get_set_other xs at place n other) ∙ is))
    (same_or_other n at)

-- what was found before any audit
pub sofar-none : (config : Config) (volume low : ℕ) (list : List MonitorRecord) (changes : NodeChanges) → AreFoundFor config volume low [] list changes → AreFoundSoFar config volume low [] list changes
sofar-none config volume low list changes found = record { found = found.found; next = next_behind volume low []; place = found.place; behind = λ small. refl }

-- what was found of a whole trail
pub found-all : (config : Config) (volume low : ℕ) (audit : List AuditRecord) (list : List MonitorRecord) (changes : NodeChanges) → next_behind volume low audit ≤ 4611686018427387904 → AreFoundSoFar config volume low audit list changes → AreFoundFor config volume low audit list changes
found-all config volume low audit list changes small sofar = record {
  found = sofar.found;
  place = sofar.place ∙ ap (λ n. Some (record { low = low; next = n })) (sofar.behind small);
}

-- what was found of a volume that is left out stays
pub found-left : (config : Config) (volume low : ℕ) (audit : List AuditRecord) (list : List MonitorRecord) (old new : NodeChanges) → IsLeftOut config volume old new → AreFoundFor config volume low audit list old → AreFoundFor config volume low audit list new
found-left config volume low audit list old new left found = record {
  found = λ file trail lies. found-stays file (kept_records volume low audit) list old.files new.files (left.files file trail lies) (found.found file trail lies);
  place = left.place ∙ found.place;
}

pub left-itself : (config : Config) (volume : ℕ) (changes : NodeChanges) → IsLeftOut config volume changes changes
left-itself config volume changes = record { files = λ file trail lies. refl; place = refl }

pub left-then : (config : Config) (volume : ℕ) (a b c : NodeChanges) → IsLeftOut config volume a b → IsLeftOut config volume b c → IsLeftOut config volume a c
left-then config volume a b c ab bc = record { files = λ file trail lies. bc.files file trail lies ∙ ab.files file trail lies; place = bc.place ∙ ab.place }

-- a device is later after two calls
pub later-then : {D : Type 0} (kind : disk.Ghosts D) (a b c : D) → ((x y z : D) → kind.is_same x y → kind.is_same y z → kind.is_same x z) → IsLater kind a b → IsLater kind b c → IsLater kind a c
later-then kind a b c same_on ab bc = record { device = same_on a b c ab.device bc.device; tells = bc.tells ∙ ab.tells; later = omega (arith, ab.later, bc.later) }

pub later-itself : {D : Type 0} (kind : disk.Ghosts D) (a : D) → ((x : D) → kind.is_same x x) → IsLater kind a a
later-itself kind a same_itself = record { device = same_itself a; tells = refl; later = omega arith }

-- what was found for a volume is what its recovery is given
pub found-in : (config : Config) (volume low : ℕ) (audit : List AuditRecord) (list : List MonitorRecord) (changes : NodeChanges) (files : FoundFiles) (at next : ℕ) → files ≡ changes.files
    → slice_get changes.places.items (volume - 1) ≡ Some (record { low = at; next = next }) → AreFoundFor config volume low audit list changes → AreFoundIn config volume low audit list files next
found-in config volume low audit list changes files at next same place found = record {
  found = subst (IsFoundOn config volume low audit list) (sym same) found.found;
  next = ap (λ (p : DiscPlace). p.next) (both_are (slice_get changes.places.items (volume - 1)) (record { low = at; next = next }) (record { low = low; next = next_behind volume low audit }) place found.place);
}
