-- What is counted of lines: none, one, and lines behind others.
use Rattle.std.specs.Prelude.{cond, map, slice_get, ◌^◌}
use Rattle.std.specs.List.{AllByRecursion, cons_option, filter, filter_map}
use Rattle.std.proofs.Common.{true, false, ◌≡◌, ◌==◌, ◌≤◌, ◌<◌, ◌+◌, ◌-◌, ◌++◌, ◌∷◌, [], ℕ, Bool, List, length, length-append, Some, None, refl, sym, ap, subst, ◌∙◌, ⊎_elim, arith, eqb-true}
use Rattle.std.proofs.lemmas.Bool.Decides.{leb_tells}
use Rattle.std.proofs.lemmas.List.{map-append}
use Rattle.std.proofs.lemmas.List.Elements.{filter-append, filter_map-append}
use Rattle.std.proofs.lemmas.Option.{slice_get_within}
use Rattle.disk_model.specs.Devices.{NoneFalls, RoseAt}
use Rattle.disk_model.specs.Fuse.{fuse_faults}
use Rattle.disk_model.specs.Held.{Rose}
use Rattle.disk_model.specs.declared.fuse.Fuse.{Fuse}
use Rattle.run_outcomes.specs.Devices.{devices}
use Rattle.run_outcomes.specs.Run.{RoseBy}
use Rattle.tmf_lines.specs.Report.{node_device_name}
use Rattle.tmf_lines.specs.declared.line.Line.{Line}
use Rattle.tmf_model.specs.declared.config.Config.{Config}
use Rattle.tmf_cli.specs.Counts.{AreCounted, failed_of, times_named}
use Rattle.tmf_cli.proofs.Extending.{all-append}
use Rattle.tmf_cli.proofs.Faultless.{NoLess, fuse-after, same-length}

-- COUNTS

rose-still : (before now : ℕ) → before ≤ now → RoseBy 0 before now
rose-still before now less = omega (arith, less)

rose-once : (before now : ℕ) → before ≤ now → Rose before now → RoseBy 1 before now
rose-once before now less rose = ⊎_elim (λ end. omega (arith, less, end.1)) (λ below. omega (arith, rose below.1)) (leb_tells (2 ^ 64 - 1) before)

pub rose-fewer : (few many before now : ℕ) → few ≤ many → RoseBy many before now → RoseBy few before now
rose-fewer few many before now less rose = omega (arith, less, rose)

rose-then : (first more before middle now : ℕ) → RoseBy first before middle → RoseBy more middle now → RoseBy (first + more) before now
rose-then first more before middle now one other = omega (arith, one, other)

times-append : (device : ℕ) (xs ys : List ℕ) → times_named device (xs ++ ys) ≡ times_named device xs + times_named device ys
times-append device xs ys = ap length (filter-append (λ other. other == device) xs ys) ∙ length-append (filter (λ other. other == device) xs) (filter (λ other. other == device) ys)

-- LINES

abbrev pub AreUnfailed : List Line → Type 0
AreUnfailed lines = AllByRecursion (λ line. failed_of line ≡ None) lines

pub unfailed-none : (lines : List Line) → AreUnfailed lines → filter_map failed_of lines ≡ []
unfailed-none [] none = refl
unfailed-none (line ∷ lines) none = ap (λ o. cons_option o (filter_map failed_of lines)) none.0 ∙ unfailed-none lines none.1

module _ {D : Type 0} (faults : D → ℕ) (config : Config) where
  some-same : (a b : Fuse D) → Some a ≡ Some b → a ≡ b
  some-same a b is = cc is

  falls-at : (old new : List (Fuse D)) (device : ℕ) (before after : Fuse D) → NoneFalls faults old new → slice_get old device ≡ Some before → slice_get new device ≡ Some after → NoLess faults before after
  falls-at old new device before after falls was is =
      let there = fuse-after (NoLess faults) old new device before was falls in
      subst (NoLess faults before) (some-same there.0 after (sym there.1 ∙ is)) there.2

  -- lines that tell of no failed call
  pub counted-none : (lines : List Line) (old new : List (Fuse D)) → AreUnfailed lines → NoneFalls faults old new → AreCounted faults config lines old new
  counted-none lines old new none falls = record {
    named = [];
    names = unfailed-none lines none;
    there = λ count. tt;
    rose = λ device before after was is. rose-still (fuse_faults faults before) (fuse_faults faults after) (falls-at old new device before after falls was is);
  }

  -- one line, of a device whose count rose
  pub counted-one : (line : Line) (lines : List Line) (old new : List (Fuse D)) (device : ℕ) → failed_of line ≡ Some (node_device_name config device) → lines ≡ line ∷ [] → NoneFalls faults old new → RoseAt faults old new device
      → AreCounted faults config lines old new
  counted-one line lines old new device names is falls rise = subst (λ l. AreCounted faults config l old new) (sym is) (record {
    named = device ∷ [];
    names = ap (λ o. cons_option o []) names;
    there = λ count. (let within = slice_get_within old device rise.before rise.was in omega (arith, within, count), tt);
    rose = λ other before after was now. by other before after was now (device == other) refl;
  })
    where
      by : (other : ℕ) (before after : Fuse D) → slice_get old other ≡ Some before → slice_get new other ≡ Some after → (b : Bool) → (device == other) ≡ b
          → RoseBy (length (cond b (device ∷ []) [])) (fuse_faults faults before) (fuse_faults faults after)
      by other before after was now false apart = rose-still (fuse_faults faults before) (fuse_faults faults after) (falls-at old new other before after falls was now)
      by other before after was now true same =
          let is_device = eqb-true device other same in
          let first = some-same rise.before before (sym rise.was ∙ ap (slice_get old) is_device ∙ was) in
          let last = some-same rise.after after (sym rise.is ∙ ap (slice_get new) is_device ∙ now) in
          rose-once (fuse_faults faults before) (fuse_faults faults after) (falls-at old new other before after falls was now)
          (subst (λ f. Rose (fuse_faults faults f) (fuse_faults faults after)) first (subst (λ f. Rose (fuse_faults faults rise.before) (fuse_faults faults f)) last rise.rose))

  -- lines behind others
  pub counted-more : (lines more : List Line) (old middle new : List (Fuse D)) → NoneFalls faults old middle → AreCounted faults config lines old middle → AreCounted faults config more middle new
      → AreCounted faults config (lines ++ more) old new
  counted-more lines more old middle new falls first later = record {
    named = first.named ++ later.named;
    names = filter_map-append failed_of lines more ∙ ap (λ l. l ++ filter_map failed_of more) first.names ∙ ap (λ l. map (node_device_name config) first.named ++ l) later.names
        ∙ sym (map-append (node_device_name config) first.named later.named);
    there = λ count. all-append (λ device. device < devices) first.named later.named (first.there count) (later.there (same-length (NoLess faults) old middle falls ∙ count));
    rose = λ device before after was now.
        let between = fuse-after (NoLess faults) old middle device before was falls in
        let one = first.rose device before between.0 was between.1 in
        let other = later.rose device between.0 after between.1 now in
        subst (λ n. RoseBy n (fuse_faults faults before) (fuse_faults faults after)) (sym (times-append device first.named later.named))
        (rose-then (times_named device first.named) (times_named device later.named) (fuse_faults faults before) (fuse_faults faults between.0) (fuse_faults faults after) one other);
  }
