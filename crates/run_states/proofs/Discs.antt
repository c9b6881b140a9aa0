-- What a disc gives back is what a run needs of a device and its seat.
use Rattle.std.specs.Prelude.{◌≡◌, ℕ, zero, suc, ◌-◌, ◌<◌, ◌≤◌, ◌==◌, Bool, List, length, Option, Some, None, IsSome, slice_get, if◌then◌else◌}
use Rattle.std.proofs.Common.{refl, sym, ap, subst, ◌∙◌, arith, inl, ⊎_elim}
use Rattle.std.proofs.lemmas.Bool.{ne_eqb}
use Rattle.std.proofs.lemmas.Bool.Decides.{leb_tells}
use Rattle.std.proofs.lemmas.Nat.{mod_below}
use Rattle.block_cache.specs.Blocks.{with_low}
use Rattle.block_cache.specs.Volume.{HasBase}
use Rattle.chronicle.specs.Histories.{states_after}
use Rattle.disc_process.specs.Disc.{DiscView, ToldBy, drawn_to}
use Rattle.disc_process.specs.Later.{IsLawful}
use Rattle.disc_process.specs.Shown.{IsShown, ShowsDisc}
use Rattle.disk_model.specs.Held.{Held, Leaves}
use Rattle.disk_model.specs.declared.disk.Disk as disk
use Rattle.keyed_file.specs.Block.{value_at}
use Rattle.keyed_file.specs.Volume.{Contents, SpellsVolume, files_on, blocks_of as label_blocks, map_of as records_in}
use Rattle.keyed_file.specs.declared.label.Label.{Label}
use Rattle.node_machine.specs.Deeds.{Log}
use Rattle.node_machine.specs.Made.{blocks_of, map_of, volume_of}
use Rattle.node_machine.specs.Node.{node}
use Rattle.node_machine.specs.Opening.{Found, disc_part}
use Rattle.node_machine.specs.Parts.{Entry, PartState}
use Rattle.node_machine.specs.Parts.PartState.{Disc}
use Rattle.node_machine.specs.Shows.{HasContent, ShowsBlock, ShowsVolume}
use Rattle.tmf_model.specs.Config.{IsDeclared, IsValidConfig}
use Rattle.tmf_model.specs.Place.{block_of, key_sum}
use Rattle.tmf_model.specs.RecordMap.{RecordMap}
use Rattle.tmf_model.specs.declared.config.Config.{Config}
use Rattle.trail_files.specs.StandsFor.{Base}
use Rattle.trail_files.specs.declared.audit_record.AuditRecord.{AuditRecord}
use Rattle.run_outcomes.specs.Devices.{IsUntouched, part_of_device, told_in, volume_device}
use Rattle.run_states.specs.DiscPost.{DiscPostLaw, IsOfRun}
use Rattle.run_outcomes.specs.Found.{ToldAudit, ToldBase}
use Rattle.run_states.specs.Post.{IsPost}
use Rattle.run_outcomes.specs.Shows.{ShowsRecords}
use Rattle.run_states.proofs.InHistory.{part_in}
use Rattle.run_states.proofs.Lists.{item_there}

-- the part of a volume's device
part_volume : (number : ℕ) → 1 ≤ number → number ≤ 8 → part_of_device (volume_device number) ≡ disc_part number
part_volume zero some few = absurd (omega (arith, some))
part_volume (suc zero) some few = refl
part_volume (suc (suc zero)) some few = refl
part_volume (suc (suc (suc zero))) some few = refl
part_volume (suc (suc (suc (suc zero)))) some few = refl
part_volume (suc (suc (suc (suc (suc zero))))) some few = refl
part_volume (suc (suc (suc (suc (suc (suc zero)))))) some few = refl
part_volume (suc (suc (suc (suc (suc (suc (suc zero))))))) some few = refl
part_volume (suc (suc (suc (suc (suc (suc (suc (suc zero)))))))) some few = refl
part_volume (suc (suc (suc (suc (suc (suc (suc (suc (suc n))))))))) some few = absurd (omega (arith, few))

key_within : (key : List ℕ) (blocks : ℕ) → 1 ≤ blocks → block_of key blocks < blocks
key_within key blocks some = mod_below (key_sum key) blocks some

-- the record of a key is that of its block
record_in : (files : List (ℕ × ℕ)) (contents : Contents) (file blocks : ℕ) (key : List ℕ) → label_blocks files file ≡ blocks → 1 ≤ blocks
    → records_in files contents file key ≡ value_at (contents file (block_of key blocks)) key
record_in files contents file blocks key is some =
    ap (λ (n : ℕ). if n == 0 then None else value_at (contents file (block_of key n)) key) is
    ∙ ap (λ (b : Bool). if b then None else value_at (contents file (block_of key blocks)) key) (ne_eqb blocks 0 (λ none. omega (arith, some, none)))

module _ {D : Type 0} (kind : disk.Ghosts D) (opening : List PartState) (found : Found) (faults : ℕ → ℕ) (handed_in : ℕ → Option D) (disc : DiscView D)
    (lawful : IsLawful kind opening disc) (shown : IsShown kind disc) (of_run : IsOfRun kind found faults handed_in disc) where
  abbrev number : ℕ
  number = disc.part.number

  abbrev files : List (ℕ × ℕ)
  files = files_on number 1 disc.part.config.files

  -- how many blocks the label has of a file
  blocks_in : (file : ℕ) → volume_of disc.part.config file ≡ number → label_blocks files file ≡ blocks_of disc.part.config file
  blocks_in file on = sym (ap (λ (l : Label). label_blocks l.files file) of_run.label) ∙ lawful.files file on

  some_blocks : (file : ℕ) → volume_of disc.part.config file ≡ number → 1 ≤ blocks_of disc.part.config file
  some_blocks file on = (of_run.homes file on).above

  -- the base that an image has
  abbrev base_of : {base : RecordMap} {image : Held} → ShowsDisc disc base image → Base
  base_of s = record { records = records_in files s.contents; position = s.low }

  volume_shown : (entries : List Entry) (image : Held) → disc.part.base ≡ Some entries → (s : ShowsDisc disc (map_of entries) image) → ShowsVolume disc.part (base_of s)
  volume_shown entries image told s = record { entries = entries; told = told; low = s.low_is; blocks = each } where
    within : (file block : ℕ) → volume_of disc.part.config file ≡ number → block < blocks_of disc.part.config file
        → (position : ℕ) × ShowsBlock disc.part file block position × HasContent disc.part entries file block position (base_of s).records
    within file block on few =
        let v = s.values file block on few in (
          v.0,
          v.1,
          λ key home.
              record_in files s.contents file (blocks_of disc.part.config file) key (blocks_in file on) (some_blocks file on)
              ∙ ap (λ (n : ℕ). value_at (s.contents file n) key) home ∙ v.2 key home,
        )

    beyond : (file block : ℕ) → volume_of disc.part.config file ≡ number → blocks_of disc.part.config file ≤ block
        → (position : ℕ) × ShowsBlock disc.part file block position × HasContent disc.part entries file block position (base_of s).records
    beyond file block on behind = (
      drawn_to disc.part file block,
      inl refl,
      λ key home.
          let less = key_within key (blocks_of disc.part.config file) (some_blocks file on) in absurd (omega (arith, less, home, behind)),
    )

    each : (file block : ℕ) → volume_of disc.part.config file ≡ disc.part.number
        → (position : ℕ) × ShowsBlock disc.part file block position × HasContent disc.part entries file block position (base_of s).records
    each file block on = ⊎_elim (λ less. within file block on less.1) (λ more. beyond file block on (omega (arith, more.1))) (leb_tells (suc block) (blocks_of disc.part.config file))

  shows_records : (log : Log) (image : Held) → slice_get (states_after node opening log) (disc_part number) ≡ Some (Disc disc.part) → Leaves (kind.held disc.blocks.device) image → IsSome disc.part.base
      → ShowsRecords found.config (told_in kind handed_in) (states_after node opening log) image number
  shows_records log image same leaves some = by_case disc.part.base refl some where
    by_case : (base : Option (List Entry)) → disc.part.base ≡ base → IsSome base → ShowsRecords found.config (told_in kind handed_in) (states_after node opening log) image number
    by_case None told some = absurd (cc (some))
    by_case (Some entries) told some =
        let s = (subst (λ (o : Option (List Entry)). ToldBy o (λ base. (image : Held) → Leaves (kind.held disc.blocks.device) image → ShowsDisc disc base image)) told shown) image leaves in
        let spells = subst (λ (l : Label). SpellsVolume (with_low l s.low) image s.contents) of_run.label s.spells in
        (Some (base_of s), subst (λ (c : Config). HasBase c number image (Some (base_of s))) of_run.config (s.contents, spells, refl), (Disc disc.part, same, volume_shown entries image told s))

  pub disc_post : IsPost kind opening found faults handed_in (volume_device number) disc.blocks.device disc.seat
  disc_post =
      let low = of_run.number.above in
      let high = of_run.number.below in
      let part = part_volume number low high in
      record {
        few = omega (arith, high);
        part = lawful.place ∙ ap (λ (p : ℕ). Some p) (sym part);
        state = Disc disc.part;
        at = lawful.at;
        later = of_run.device;
        untouched = λ untouched. absurd (touched untouched);
        rise = of_run.rise;
        shown = λ log history whole image leaves. record {
          monitor = λ list first told. absurd (omega (arith, first));
          trail = λ old one within told. absurd (few_trails old one within told);
          volume = λ volume line base is_line at told.
              let one : number ≡ volume = omega (arith, at) in
              let here = part_in opening log disc.seat (disc_part number) (Disc disc.part) whole lawful.place lawful.at in
              subst (λ (n : ℕ). ShowsRecords found.config (told_in kind handed_in) (states_after node opening log) image n) one
              (shows_records log image here leaves (of_run.told base (subst (λ (n : ℕ). ToldBase found.config (told_in kind handed_in) n base) (sym one) told)).1);
          dump = λ volume line base old is_line at told dumped. absurd (let one = is_line.0 in omega (arith, high, one, at));
        };
      }
    where
      touched : IsUntouched found.config (volume_device number) → ⊥
      touched untouched =
          let declared = subst (λ (c : Config). IsDeclared c.volumes number) of_run.config lawful.declared in
          let some = declared.above in
          let few = declared.below in
          let line = item_there found.config.volumes (number - 1) (omega (arith, some, few)) in
          untouched.volume number line.0 (some, line.1) refl

      few_trails : (old : List AuditRecord) → 1 ≤ volume_device number → volume_device number ≤ length found.config.trails → ToldAudit found.config (told_in kind handed_in) (volume_device number) old → ⊥
      few_trails old one within told =
          let few = (subst (λ (c : Config). IsValidConfig c) of_run.config lawful.valid).trails.few in
          let some = of_run.number.above in
          omega (arith, within, few, some)

pub disc_post_law : {D : Type 0} (kind : disk.Ghosts D) → DiscPostLaw kind
disc_post_law kind = λ opening found faults handed_in disc lawful shown of_run. disc_post kind opening found faults handed_in disc lawful shown of_run
