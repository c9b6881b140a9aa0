-- What is told of a volume before its recovery, from what is told of its label and of its blocks.
use Rattle.std.proofs.Common.{◌≡◌, ◌≢◌, inl, inr, ⊎_elim, ℕ, Bool, true, List, [], ◌++◌, length, refl, sym, subst, ◌∙◌}
use Rattle.std.specs.Prelude.{Option, None, Some, Result, Ok, Err, IfErr, IfOk, OnOk, MatchResult}
use Rattle.disk_model.specs.Held.{File, Held, IsThere}
use Rattle.tmf_model.specs.declared.config.Config.{Config}
use Rattle.keyed_file.specs.declared.label.Label.{Label}
use Rattle.keyed_file.specs.LabelFormat.{IsLabel, label_text}
use Rattle.keyed_file.specs.Volume.{Contents, IsLost, SpellsLabel, SpellsVolume, label_of}
use Rattle.trail_files.specs.declared.damage.Damage.{Damage}
use Rattle.block_cache.specs.declared.fault.AttachFault as of_opening
use Rattle.block_cache.specs.declared.fault.AttachFault.TheVariants as opening
use Rattle.block_cache.specs.LabelDamage.{IsFineLabel, TellsAttach, bad_label_file}
use Rattle.block_cache.proofs.Shown.{shows-volume}
use Rattle.trail_replay.specs.declared.replay.FoundFiles.{FoundFiles}
use Rattle.volume_restore.specs.declared.fault.VolumeFault.{VolumeFault}
use Rattle.volume_restore.specs.declared.fault.VolumeFault.TheVariants.{Failed, Damaged, NoMemory}
use Rattle.volume_restore.specs.declared.inspect.Inspected.{Inspected}
use Rattle.volume_restore.specs.declared.inspect.Inspected.TheVariants as is
use Rattle.volume_restore.specs.Damage.{AreBlocksFine, IsFirstBad}
use Rattle.volume_restore.specs.Inspected.{HasContents, TellsBad, TellsDamaged, TellsInspected, TellsRefused, TellsRoom}
use Rattle.volume_restore.specs.Pass.{AreShown, TellsVolume}
use Rattle.volume_restore.proofs.OnVolume.{label_there}

module _ (config : Config) (volume : ℕ) (held : Held) where
  -- beside a fine label that is the damage of the volume
  pub damaged-of : (e : VolumeFault) → IsFineLabel (label_of config volume 1) held → TellsBad config volume held e → TellsDamaged config volume held e
  damaged-of Failed label tells = tt
  damaged-of (Damaged d) label tells = inr (label, tells)
  damaged-of NoMemory label tells = tt

  none-some : (o : Option ℕ) (at : ℕ) → o ≡ None → o ≡ Some at → ⊥
  none-some o at none some = let e : None ≡ Some at = sym none ∙ some in cc

  -- where no block is wrong none is the first
  pub not-bad : (d : Damage) → AreBlocksFine config volume held → IsFirstBad config volume held d → ⊥
  not-bad d fine bad = none-some _ d.at (fine.fine bad.file bad.first.number bad.first.within) bad.first.here.2

  -- the label is spelled, with some low position
  abbrev pub IsSpelledLabel : Type 0
  IsSpelledLabel = (low : ℕ) × IsLabel (label_of config volume low) × IsThere held 1 (λ f. SpellsLabel (label_of config volume low) f.bytes)

  -- that of an opened volume is
  pub spelled-of : (label : Label) → label ≡ label_of config volume label.low → IsLabel label → IsThere held 1 (λ f. SpellsLabel label f.bytes) → IsSpelledLabel
  spelled-of label is valid there = (label.low, subst IsLabel is valid, subst (λ (l : Label). IsThere held 1 (λ f. SpellsLabel l f.bytes)) is there)

  module _ (files : FoundFiles) where
    -- what is told of more contents is told of fewer
    pub room-of : (Had Has : Contents → Type 0) (one : Inspected) → ((was : Contents) → Has was → Had was) → TellsRoom config volume files Had one → TellsRoom config volume files Has one
    room-of Had Has is.Lost each tells = tells
    room-of Had Has is.Ready each tells = λ was has. tells was (each was has)
    room-of Had Has (is.Full d) each tells = λ was has. tells was (each was has)

    pub inspected-of : (one : Inspected) → IsFineLabel (label_of config volume 1) held → IsSpelledLabel → AreBlocksFine config volume held → TellsRoom config volume files (HasContents config volume held) one → TellsInspected config volume files held one
    inspected-of is.Lost label spelled fine tells = absurd tells
    inspected-of is.Ready label spelled fine tells = (record { label = label; spelled = spelled; blocks = fine }, tells)
    inspected-of (is.Full d) label spelled fine tells = (record { label = label; spelled = spelled; blocks = fine }, tells)

    -- so a refusal of the recovery is told
    pub refused-of : (e : VolumeFault) → IsFineLabel (label_of config volume 1) held → IsSpelledLabel → ((was : Contents) → HasContents config volume held was → AreShown config volume held was) → TellsVolume config volume files held e
        → TellsRefused config volume files held e
    refused-of Failed label spelled each tells = tt
    refused-of (Damaged d) label spelled each tells =
        ⊎_elim (λ bad. inl (inr (label, bad))) (λ full. inr (record { label = label; spelled = spelled; blocks = full.0 }, (λ was has. full.1 was (each was has)))) tells
    refused-of NoMemory label spelled each tells = tt

  some_file : (a b : File) (o : Option File) → o ≡ Some a → o ≡ Some b → a ≡ b
  some_file a b o is_a is_b = let e : Some a ≡ Some b = sym is_a ∙ is_b in cc

  -- a volume with a fine label is not lost
  pub not-lost : IsFineLabel (label_of config volume 1) held → IsLost held → ⊥
  not-lost label lost = lost label.0 label.1 label.2.0

  -- nor is its label damaged
  pub not-damaged : (e : of_opening.AttachFault) → IsFineLabel (label_of config volume 1) held → TellsAttach (label_of config volume 1) held e → e ≢ opening.Failed → e ≢ opening.NoMemory → ⊥
  not-damaged opening.Lost label tells failed memory = not-lost label tells
  not-damaged (opening.Damaged d) label tells failed memory =
      let same : label.0 ≡ tells.2.0 = some_file label.0 tells.2.0 (held 1) label.1 tells.2.1 in
      none-some (bad_label_file (label_of config volume 1) tells.2.0.bytes) d.at (subst (λ (f : File). bad_label_file (label_of config volume 1) f.bytes ≡ None) same label.2.1) tells.2.2.1
  not-damaged opening.Failed label tells failed memory = failed refl
  not-damaged opening.NoMemory label tells failed memory = memory refl

  -- each block of a volume that is spelled shows its content
  pub has-shown : (was : Contents) → HasContents config volume held was → AreShown config volume held was
  has-shown was has file number within = shows-volume (label_of config volume has.0) held was file number has.1.0 within

  -- the label that was opened is that which the device spells
  pub opened-label : ((x y : Label) (rest : List ℕ) → IsLabel x → IsLabel y → label_text y ≡ label_text x ++ rest → (y ≡ x) × (rest ≡ [])) → ((x : Label) → IsLabel x → length (label_text x) ≡ 256)
      → (label : Label) (low : ℕ) (was : Contents) → IsLabel label → IsThere held 1 (λ f. SpellsLabel label f.bytes) → SpellsVolume (label_of config volume low) held was → label ≡ label_of config volume low
  opened-label one long label low was valid there spells = label_there held (label_of config volume low) label one long spells.valid valid spells.label_file there

pub if-ok : {A E : Type 0} (result : Result A E) (P Q : A → Type 0) → ((a : A) → P a → Q a) → IfOk result P → IfOk result Q
if-ok (Ok a) P Q next holds = next a holds
if-ok (Err e) P Q next holds = tt

pub match-both : {A E : Type 0} (result : Result A E) (P R : A → Type 0) (Q S : E → Type 0) → ((a : A) → P a → R a) → ((e : E) → Q e → S e) → MatchResult result P Q → MatchResult result R S
match-both (Ok a) P R Q S ok err holds = ok a holds
match-both (Err e) P R Q S ok err holds = err e holds

err-of : {T E : Type 0} (r s : Result T E) (a b : E) → r ≡ Err a → s ≡ Err b → r ≡ s → b ≡ a
err-of r s a b ra sb rs = cc

-- what is said of the fault of a refused call
pub match-err : {T E : Type 0} (r : Result T E) (e : E) (P : T → Type 0) (Q : E → Type 0) → r ≡ Err e → Q e → MatchResult r P Q
match-err (Ok x) e P Q is q = absurd (cc)
match-err (Err x) e P Q is q = subst Q (err-of (Err x) (Err e) x e refl refl is) q

pub if-err : {A E : Type 0} (result : Result A E) (P Q : E → Type 0) → ((e : E) → P e → Q e) → IfErr result P → IfErr result Q
if-err (Ok a) P Q next holds = tt
if-err (Err e) P Q next holds = next e holds

pub err-any : {A E : Type 0} (result : Result A E) (Q : E → Type 0) → ((e : E) → Q e) → IfErr result Q
err-any (Ok a) Q each = tt
err-any (Err e) Q each = each e

pub ok-part : {A E : Type 0} (result : Result A E) (P Q : Type 0) (R : E → Type 0) → MatchResult result (λ _. P) R → (P → Q) → OnOk result Q
ok-part (Ok a) P Q R holds next = next holds
ok-part (Err e) P Q R holds next = tt

-- what holds is said of a value
pub on-any : {A E : Type 0} (result : Result A E) (P : Type 0) → P → OnOk result P
on-any (Ok a) P holds = holds
on-any (Err e) P holds = tt

pub err-part : {A E : Type 0} (result : Result A E) (P : A → Type 0) (Q : E → Type 0) → MatchResult result P Q → IfErr result Q
err-part (Ok a) P Q holds = tt
err-part (Err e) P Q holds = holds

-- the answer of a recovery, from that of the blocks
module _ {E : Type 0} where
  ok-as : (answer : Result Bool E) (P : Bool → Type 0) → answer ≡ Ok true → P true → IfOk answer P
  ok-as answer P told holds = subst (λ (r : Result Bool E). IfOk r P) (sym told) holds

  pub answered-ok : (restored : Result (Unit {0}) E) (answer : Result Bool E) (P : Type 0) → OnOk restored (answer ≡ Ok true) → IfErr restored (λ e. answer ≡ Err e) → OnOk restored P → IfOk answer (λ b. (b ≡ true) × P)
  answered-ok (Ok x) answer P told err holds = ok-as answer (λ b. (b ≡ true) × P) told (refl, holds)
  answered-ok (Err e) answer P told err holds = subst (λ (r : Result Bool E). IfOk r (λ b. (b ≡ true) × P)) (sym err) tt

  pub answered-match : (restored : Result (Unit {0}) E) (answer : Result Bool E) (P : Type 0) (Q : E → Type 0) → OnOk restored (answer ≡ Ok true) → IfErr restored (λ e. answer ≡ Err e) → MatchResult restored (λ _. P) Q
      → MatchResult answer (λ b. (b ≡ true) × P) Q
  answered-match (Ok x) answer P Q told err holds = subst (λ (r : Result Bool E). MatchResult r (λ b. (b ≡ true) × P) Q) (sym told) (refl, holds)
  answered-match (Err e) answer P Q told err holds = subst (λ (r : Result Bool E). MatchResult r (λ b. (b ≡ true) × P) Q) (sym err) holds

  pub answered-err : (restored : Result (Unit {0}) E) (answer : Result Bool E) (Q : E → Type 0) → OnOk restored (answer ≡ Ok true) → IfErr restored (λ e. answer ≡ Err e) → IfErr restored Q → IfErr answer Q
  answered-err (Ok x) answer Q told err holds = subst (λ (r : Result Bool E). IfErr r Q) (sym told) tt
  answered-err (Err e) answer Q told err holds = subst (λ (r : Result Bool E). IfErr r Q) (sym err) holds
