-- What the rules of a trail say of a record: its file lies on its disc, and its disc is audited to the trail.
use Rattle.std.specs.Prelude.{map, filter, slice_get, cond, ◌==◌, ◌&&◌, ◌||◌, Some}
use Rattle.std.specs.List.{enumerate_from, list_any}
use Rattle.std.specs.Option.{option_map_or}
use Rattle.std.proofs.Common.{suc, true, false, ◌≡◌, ◌+◌, ℕ, Bool, List, [], ◌∷◌, refl, ap, ◌∙◌, arith}
use Rattle.std.proofs.lemmas.Bool.{and_parts}
use Rattle.std.proofs.lemmas.Bool.Decides.{Decides-eqb}
use Rattle.tmf_model.specs.declared.config.Config.{Config}
use Rattle.tmf_model.specs.declared.config.FileLine.{FileLine}
use Rattle.tmf_model.specs.declared.config.Volume.{Volume}
use Rattle.tmf_model.specs.Commits.{numbered}
use Rattle.trail_files.specs.declared.audit_record.AuditRecord.{AuditRecord}
use Rattle.trail_files.specs.declared.rules.Rules.{Rules}
use Rattle.trail_files.specs.AuditFormat.{is_audit_record}
use Rattle.trail_replay.specs.Rules.{discs_among, discs_on, files_among, rules_of}
use Rattle.node_machine.specs.Made.{volume_of}
use Rattle.node_machine.specs.Trail.{trail_of}

-- A record that a trail's rules allow is of a file on its disc, and of a disc on that trail.
abbrev pub AreRulesOf : Config → (ℕ → Rules) → Type 0
AreRulesOf config rules =
    (number : ℕ) (r : AuditRecord) → is_audit_record (rules number) r ≡ true → (volume_of config r.file ≡ r.disc) × (trail_of config r.disc ≡ number)

-- the item of this number among numbered ones has this
pub record HasItem {T : Type 0} (items : List T) (start number : ℕ) (says : T → Type 0) : Type 0 where
  pub before : ℕ
  pub number_is : number ≡ start + before
  pub item : T
  pub at : slice_get items before ≡ Some item
  pub is : says item

further : {T : Type 0} (x : T) (items : List T) (start number : ℕ) (says : T → Type 0) → HasItem items (start + 1) number says → HasItem (x ∷ items) start number says
further x items start number says has = record { before = suc has.before; number_is = omega (arith, has.number_is); item = has.item; at = has.at; is = has.is }

disc-found : (volumes : List Volume) (start disc trail : ℕ) → list_any (λ one. one == disc) (discs_among trail (enumerate_from start volumes)) ≡ true → HasItem volumes start disc (λ v. v.trail ≡ trail)
disc-found [] start disc trail is = absurd (cc is)
disc-found (v ∷ vs) start disc trail is = on (λ found. further v vs start disc (λ v. v.trail ≡ trail) (disc-found vs (start + 1) disc trail found)) (v.trail == trail) refl is
  where
    here : (list_any (λ one. one == disc) (discs_among trail (enumerate_from (start + 1) vs)) ≡ true → HasItem (v ∷ vs) start disc (λ v. v.trail ≡ trail)) → (b : Bool) → (start == disc) ≡ b → v.trail ≡ trail → (b || list_any (λ one. one == disc) (discs_among trail (enumerate_from (start + 1) vs))) ≡ true → HasItem (v ∷ vs) start disc (λ v. v.trail ≡ trail)
    here later true same trail_is found = record { before = 0; number_is = omega (arith, (Decides-eqb start disc).0 same); item = v; at = refl; is = trail_is }
    here later false differ trail_is found = later found

    on : (list_any (λ one. one == disc) (discs_among trail (enumerate_from (start + 1) vs)) ≡ true → HasItem (v ∷ vs) start disc (λ v. v.trail ≡ trail)) → (b : Bool) → (v.trail == trail) ≡ b
        → list_any (λ one. one == disc) (map (λ (numbered : ℕ × Volume). numbered.0) (cond b ((start, v) ∷ filter (λ numbered. numbered.1.trail == trail) (enumerate_from (start + 1) vs)) (filter (λ numbered. numbered.1.trail == trail) (enumerate_from (start + 1) vs)))) ≡ true
        → HasItem (v ∷ vs) start disc (λ v. v.trail ≡ trail)
    on later true same found = here later (start == disc) refl ((Decides-eqb v.trail trail).0 same) found
    on later false differ found = later found

file-found : (files : List FileLine) (discs : List ℕ) (start file disc : ℕ) → list_any (λ (pair : ℕ × ℕ). (pair.0 == file) && (pair.1 == disc)) (files_among discs (enumerate_from start files)) ≡ true
    → HasItem files start file (λ f. f.volume ≡ disc)
file-found [] discs start file disc is = absurd (cc is)
file-found (f ∷ fs) discs start file disc is = on (λ found. further f fs start file (λ f. f.volume ≡ disc) (file-found fs discs (start + 1) file disc found)) (list_any (λ d. d == f.volume) discs) is
  where
    here : (list_any (λ (pair : ℕ × ℕ). (pair.0 == file) && (pair.1 == disc)) (files_among discs (enumerate_from (start + 1) fs)) ≡ true → HasItem (f ∷ fs) start file (λ f. f.volume ≡ disc)) → (b : Bool) → ((start == file) && (f.volume == disc)) ≡ b → (b || list_any (λ (pair : ℕ × ℕ). (pair.0 == file) && (pair.1 == disc)) (files_among discs (enumerate_from (start + 1) fs))) ≡ true
        → HasItem (f ∷ fs) start file (λ f. f.volume ≡ disc)
    here later true same found =
        let parts = and_parts (start == file) (f.volume == disc) same in
        record { before = 0; number_is = omega (arith, (Decides-eqb start file).0 parts.0); item = f; at = refl; is = (Decides-eqb f.volume disc).0 parts.1 }
    here later false differ found = later found

    on : (list_any (λ (pair : ℕ × ℕ). (pair.0 == file) && (pair.1 == disc)) (files_among discs (enumerate_from (start + 1) fs)) ≡ true → HasItem (f ∷ fs) start file (λ f. f.volume ≡ disc)) → (b : Bool)
        → list_any (λ (pair : ℕ × ℕ). (pair.0 == file) && (pair.1 == disc)) (map (λ (numbered : ℕ × FileLine). (numbered.0, numbered.1.volume)) (cond b ((start, f) ∷ filter (λ numbered. list_any (λ d. d == numbered.1.volume) discs) (enumerate_from (start + 1) fs)) (filter (λ numbered. list_any (λ d. d == numbered.1.volume) discs) (enumerate_from (start + 1) fs)))) ≡ true
        → HasItem (f ∷ fs) start file (λ f. f.volume ≡ disc)
    on later true found = here later ((start == file) && (f.volume == disc)) refl found
    on later false found = later found

of-number : {T : Type 0} (items : List T) (number : ℕ) (says : T → Type 0) (f : T → ℕ) (m : ℕ) → ((x : T) → says x → f x ≡ m) → HasItem items 1 number says → option_map_or f (numbered items number) 0 ≡ m
of-number items number says f m means has =
    let next : number ≡ suc has.before = omega (arith, has.number_is) in
    ap (λ n. option_map_or f (numbered items n) 0) next ∙ ap (λ o. option_map_or f o 0) has.at ∙ means has.item has.is

pub are-rules : (config : Config) → AreRulesOf config (rules_of config)
are-rules config number r is =
    let parts = and_parts _ _ is in
    let on_file = (and_parts _ _ parts.1).0 in (
      of-number config.files r.file (λ f. f.volume ≡ r.disc) (λ f. f.volume) r.disc (λ x e. e) (file-found config.files (discs_on config number) 1 r.file r.disc on_file),
      of-number config.volumes r.disc (λ v. v.trail ≡ number) (λ v. v.trail) number (λ x e. e) (disc-found config.volumes 1 r.disc number parts.0),
    )
