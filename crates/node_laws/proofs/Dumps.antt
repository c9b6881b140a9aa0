-- The dumps of a run: what a label that was written, or is being written, names was copied whole, and stays.
use Rattle.std.specs.Prelude.{◌≡◌, ℕ, ◌≤◌, ◌==◌, ◌&&◌, Bool, true, false, List, [], ◌∷◌, Option, Some, None, if◌then◌else◌}
use Rattle.std.specs.Option.{option_or}
use Rattle.std.proofs.Common.{refl, ap, sym, ◌∙◌, subst, eqb-true}
use Rattle.std.proofs.lemmas.Bool.{and_parts}
use Rattle.tmf_model.specs.RecordMap.{empty_map}
use Rattle.any_node.specs.Node.{Label, IsWhole, now_landed}
use Rattle.any_node.specs.Node.Label.{Found as OldLabel, Taken}
use Rattle.node_machine.specs.declared.event.DumpEvent.{DumpEvent}
use Rattle.node_machine.specs.declared.event.DumpEvent.TheVariants.{Copy, Seal, Sealed, Failed as DumpFailed}
use Rattle.node_machine.specs.Parts.{DumpPart}
use Rattle.node_machine.specs.Dump.{landed_here, copied, DumpMay}
use Rattle.node_machine.specs.Opening.{Found}
use Rattle.node_machine.specs.Same.{is_same_block}
use Rattle.node_laws.specs.Layouts.{layout, FileBlock, same_blocks}
use Rattle.node_laws.specs.Views.{copies_of, offered_dump, landed_dump}
use Rattle.node_laws.proofs.Others.{HaveBlocks, dump_allows, mark_of, offered_mark, now_mark}

module _ (found : Found) where
  -- the label of this run that was written last
  abbrev pub taken_here : List DumpEvent → Option (Label (layout found))
  taken_here [] = None
  taken_here (Sealed number true ∷ events) = now_landed (layout found) (taken_here events) (offered_dump found events)
  taken_here (_ ∷ events) = taken_here events

  abbrev pub or_old : Option (Label (layout found)) → Option (Label (layout found)) → Option (Label (layout found))
  or_old old None = old
  or_old old (Some l) = Some l

  pub landed_taken : (old : Option (Label (layout found))) (events : List DumpEvent) → landed_dump found old events ≡ or_old old (taken_here events)
  landed_taken old [] = refl
  landed_taken old (Sealed number true ∷ events) = ap (λ a. now_landed (layout found) a (offered_dump found events)) (landed_taken old events) ∙ by_offered (taken_here events) (offered_dump found events) where
    by_offered : (t b : Option (Label (layout found))) → now_landed (layout found) (or_old old t) b ≡ or_old old (now_landed (layout found) t b)
    by_offered t None = refl
    by_offered t (Some l) = refl
  landed_taken old (Sealed number false ∷ events) = landed_taken old events
  landed_taken old (Seal number start ∷ events) = landed_taken old events
  landed_taken old (Copy number file block position ∷ events) = landed_taken old events
  landed_taken old (DumpFailed by ∷ events) = landed_taken old events

  pub taken_mark : (events : List DumpEvent) → mark_of found (taken_here events) ≡ landed_here events
  taken_mark [] = refl
  taken_mark (Sealed number true ∷ events) = now_mark found (taken_here events) (offered_dump found events) ∙ (λ i. option_or (offered_mark found events i) (taken_mark events i))
  taken_mark (Sealed number false ∷ events) = taken_mark events
  taken_mark (Seal number start ∷ events) = taken_mark events
  taken_mark (Copy number file block position ∷ events) = taken_mark events
  taken_mark (DumpFailed by ∷ events) = taken_mark events

  -- what the label names was copied, and each block of the volume is among it
  abbrev pub IsSolid : ℕ → List DumpEvent → Label (layout found) → Type 0
  IsSolid number events (OldLabel start values) = ⊥
  IsSolid number events (Taken i start copies) =
      ((b : FileBlock) (n : ℕ) → copies b ≡ Some n → copied events i b.0 b.1 ≡ Some n) × IsWhole (layout found) number copies

  abbrev pub AreSolid : ℕ → List DumpEvent → Type 0
  AreSolid number events =
      ((l : Label (layout found)) → offered_dump found events ≡ Some l → IsSolid number events l) × ((l : Label (layout found)) → taken_here events ≡ Some l → IsSolid number events l)

  -- a copy of a new block leaves the others
  copy_keeps : (events : List DumpEvent) (i file block position : ℕ) → copied events i file block ≡ None → (j : ℕ) (b : FileBlock) (n : ℕ) → copied events j b.0 b.1 ≡ Some n → copied (Copy i file block position ∷ events) j b.0 b.1 ≡ Some n
  copy_keeps events i file block position new j b n at = by_case ((j == i) && is_same_block b.0 b.1 file block) refl where
    by_case : (c : Bool) → ((j == i) && is_same_block b.0 b.1 file block) ≡ c → (if c then Some position else copied events j b.0 b.1) ≡ Some n
    by_case true e =
        let parts = and_parts (j == i) (is_same_block b.0 b.1 file block) e in
        let dump : j ≡ i = eqb-true j i parts.0 in
        let same : b ≡ (file, block) = same_blocks b (file, block) parts.1 in
        let here : copied events i file block ≡ Some n = ap (λ (m : ℕ). copied events m file block) (sym dump) ∙ (ap (λ (c : FileBlock). copied events j c.0 c.1) (sym same) ∙ at) in
        let both : None ≡ Some n = sym new ∙ here in
        absurd (cc (both))
    by_case false e = at

  solid_copy : (number : ℕ) (events : List DumpEvent) (i file block position : ℕ) → copied events i file block ≡ None → (l : Label (layout found)) → IsSolid number events l → IsSolid number (Copy i file block position ∷ events) l
  solid_copy number events i file block position new (OldLabel start values) h = h
  solid_copy number events i file block position new (Taken j start copies) h = ((λ b n e. copy_keeps events i file block position new j b n (h.0 b n e)), h.1)

  solid_same : (number : ℕ) (events more : List DumpEvent) → ((i file block : ℕ) → copied more i file block ≡ copied events i file block) → (l : Label (layout found)) → IsSolid number events l → IsSolid number more l
  solid_same number events more same (OldLabel start values) h = h
  solid_same number events more same (Taken j start copies) h = ((λ b n e. same j b.0 b.1 ∙ h.0 b n e), h.1)

  now_solid : (number : ℕ) (events : List DumpEvent) (a b : Option (Label (layout found))) (l : Label (layout found)) → ((x : Label (layout found)) → a ≡ Some x → IsSolid number events x) → ((x : Label (layout found)) → b ≡ Some x → IsSolid number events x)
      → now_landed (layout found) a b ≡ Some l → IsSolid number events l
  now_solid number events a None l f g e = f l e
  now_solid number events a (Some x) l f g e = g l e

  pub solid_kept : (s : DumpPart) (e : DumpEvent) → s.config ≡ found.config → 1 ≤ s.number → HaveBlocks found → DumpMay s e → AreSolid s.number s.events → AreSolid s.number (e ∷ s.events)
  solid_kept s (Copy i file block position) same one have may h =
      ((λ l e. solid_copy s.number s.events i file block position may.is_new l (h.0 l e)), (λ l e. solid_copy s.number s.events i file block position may.is_new l (h.1 l e)))
  solid_kept s (Seal i start) same one have may h = (
    (λ l e. (let is : Taken i start (copies_of found s.events i) ≡ l = cc (e) in
        subst (λ (x : Label (layout found)). IsSolid s.number (Seal i start ∷ s.events) x) is ((λ b n f. f), (dump_allows found empty_map s (Seal i start) same one have may).2))),
    (λ l e. solid_same s.number s.events (Seal i start ∷ s.events) (λ j f b. refl) l (h.1 l e)),
  )
  solid_kept s (Sealed i true) same one have may h = (
    (λ l e. absurd (cc (e))),
    (λ l e. solid_same s.number s.events (Sealed i true ∷ s.events) (λ j f b. refl) l (now_solid s.number s.events (taken_here s.events) (offered_dump found s.events) l h.1 h.0 e)),
  )
  solid_kept s (Sealed i false) same one have may h =
      ((λ l e. solid_same s.number s.events (Sealed i false ∷ s.events) (λ j f b. refl) l (h.0 l e)), (λ l e. solid_same s.number s.events (Sealed i false ∷ s.events) (λ j f b. refl) l (h.1 l e)))
  solid_kept s (DumpFailed by) same one have may h =
      ((λ l e. solid_same s.number s.events (DumpFailed by ∷ s.events) (λ j f b. refl) l (h.0 l e)), (λ l e. solid_same s.number s.events (DumpFailed by ∷ s.events) (λ j f b. refl) l (h.1 l e)))
