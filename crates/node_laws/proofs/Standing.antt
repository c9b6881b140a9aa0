-- Images that stand for a list and a map stand for them seen as those of any layout, and back.
use Rattle.std.specs.Prelude.{◌≡◌, ◌≢◌, ◌⊎◌, ℕ, zero, suc, ◌+◌, ◌-◌, ◌<◌, ◌≤◌, ◌==◌, nat_le, Bool, true, false, List, [], ◌∷◌, length, map, Option, Some, None, All, IsSome, slice_get, unwrap_or, bytes_eq, if◌then◌else◌}
use Rattle.std.specs.List.{IsDistinct, AllByRecursion}
use Rattle.std.specs.Option.{option_map_or}
use Rattle.std.proofs.Common.{refl, ap, sym, ◌∙◌, subst, arith, eqb-true, ⊎_elim, inl, inr}
use Rattle.std.proofs.lemmas.Bool.{false_from_ne_true, le-leb, leb-true, leb-false}
use Rattle.std.proofs.lemmas.Slice.Eq.{bytes_eq-Decides}
use Rattle.disk_model.specs.Held.{Held}
use Rattle.tmf_model.specs.Commits.{numbered}
use Rattle.tmf_model.specs.Config.{IsValidConfig, IsDeclared}
use Rattle.tmf_model.specs.Place.{block_of}
use Rattle.tmf_model.specs.RecordMap.{RecordMap}
use Rattle.tmf_model.specs.declared.config.FileLine.{FileLine}
use Rattle.tmf_model.specs.declared.config.Volume.{Volume}
use Rattle.trail_files.specs.AuditRecord.{audit_format}
use Rattle.trail_files.specs.MonitorOrder.{last_epoch}
use Rattle.trail_files.specs.MonitorRecord.{monitor_format}
use Rattle.trail_files.specs.StandsFor.{Base, HasRoom, IsNumber, GivesValues, IsKept, VolumeStandsFor, StandsFor}
use Rattle.trail_files.specs.Text.{Spells}
use Rattle.trail_files.specs.declared.audit_record.AuditRecord.{AuditRecord}
use Rattle.trail_files.specs.declared.monitor_record.MonitorRecord.{MonitorRecord}
use Rattle.trail_files.specs.declared.rules.Rules.{Rules}
use Rattle.any_node.specs.Value.{AuditRecord as AnyRecord, Each, AreDistinct, last_start}
use Rattle.any_node.specs.Stands.{Image, FitsRoom}
use Rattle.any_node.specs.Stands.{GivesValues as AnyGives, IsKept as AnyKept, VolumeStandsFor as AnyVolume, StandsFor as AnyStands}
use Rattle.node_machine.specs.Made.{volume_of, blocks_of, home_block}
use Rattle.node_machine.specs.Trail.{trail_of, records_of}
use Rattle.node_machine.specs.Opening.{Found, each_from}
use Rattle.node_machine.specs.Same.{Among}
use Rattle.node_laws.specs.Layouts.{layout, FileKey, FileBlock, Content}
use Rattle.node_laws.specs.Views.{rec_of, recs_of, entries_of}
use Rattle.node_laws.proofs.Discs.{among_recs, recs_among}
use Rattle.node_laws.proofs.Folds.{IsFile, Agree}
use Rattle.node_laws.proofs.Places.{among_records}
use Rattle.node_laws.proofs.Rooms.{in_file, distinct_in_file, length-in_file, some_not_none, not_none_some}
use Rattle.node_laws.proofs.Sums.{all_among, among_all, any_among, among_any, any_base, value_is, next_is, epoch_is}

-- of the records of a disc each is among all, and of the disc
pub of_records : (d : ℕ) (rs : List AuditRecord) (x : AuditRecord) → Among (records_of d rs) x → Among rs x × (x.disc ≡ d)
of_records d [] x h = absurd h
of_records d (r ∷ rs) x h = by_case (r.disc == d) refl (λ k. of_records d rs x k) h where
  by_case : (b : Bool) → (r.disc == d) ≡ b → (Among (records_of d rs) x → Among rs x × (x.disc ≡ d)) → Among (if b then r ∷ records_of d rs else records_of d rs) x → Among (r ∷ rs) x × (x.disc ≡ d)
  by_case true e more h =
      ⊎_elim
      (λ (same : r ≡ x). (inl same, ap (λ (y : AuditRecord). y.disc) (sym same) ∙ eqb-true r.disc d e))
      (λ (k : Among (records_of d rs) x). (inr (more k).0, (more k).1))
      h
  by_case false e more h = (inr (more h).0, (more h).1)

pub line_at : (files : List FileLine) (f : ℕ) → 1 ≤ option_map_or (λ line. line.volume) (numbered files f) 0 → (line : FileLine) × (1 ≤ f) × (slice_get files (f - 1) ≡ Some line) × (numbered files f ≡ Some line)
line_at files zero h = absurd (omega (arith, h))
line_at files (suc i) h = by_line (slice_get files i) refl h where
  by_line : (o : Option FileLine) → slice_get files i ≡ o → 1 ≤ option_map_or (λ line. line.volume) o 0 → (line : FileLine) × (1 ≤ suc i) × (slice_get files (suc i - 1) ≡ Some line) × (slice_get files i ≡ Some line)
  by_line None e h = absurd (omega (arith, h))
  by_line (Some line) e h = (let at : suc i - 1 ≡ i = omega arith in (line, omega arith, ap (λ (n : ℕ). slice_get files n) at ∙ e, e))

pub numbered_is : {A : Type 0} (xs : List A) (n : ℕ) (x : A) → IsNumber xs n x → numbered xs n ≡ Some x
numbered_is xs zero x h = absurd (let one = h.0 in omega (arith, one))
numbered_is xs (suc i) x h = (let at : i ≡ suc i - 1 = omega arith in ap (λ (n : ℕ). slice_get xs n) at ∙ h.1)

each_mem : (first count d : ℕ) → Among (each_from (λ n. n) first count) d → (first ≤ d) × (d < first + count)
each_mem first zero d h = absurd h
each_mem first (suc count) d h =
    ⊎_elim
    (λ (e : first ≡ d). (omega (arith, e), omega (arith, e)))
    (λ (k : Among (each_from (λ n. n) (first + 1) count) d). (let m = each_mem (first + 1) count d k in let a = m.0 in let b = m.1 in (omega (arith, a), omega (arith, b))))
    h

pub get_some : {A : Type 0} (xs : List A) (i : ℕ) → i < length xs → (x : A) × (slice_get xs i ≡ Some x)
get_some [] i lt = absurd (omega (arith, lt))
get_some (x ∷ xs) zero lt = (x, refl)
get_some (x ∷ xs) (suc i) lt = get_some xs i (omega (arith, lt))

module _ (found : Found) where
  -- a disc's audit, on its trail
  abbrev pub audit_on : (ℕ → List AuditRecord) → ℕ → List (AnyRecord (layout found))
  audit_on audit d = recs_of found (records_of d (audit (trail_of found.config d)))

  abbrev pub image : List MonitorRecord → (ℕ → List AuditRecord) → (ℕ → Option Base) → (ℕ → Option Base) → Image (layout found)
  image list audit bases dumps =
      record { list = entries_of found list; audit = audit_on audit; volume = λ d. (any_base found (bases d)); dump = λ d. (any_base found (dumps d)) }

  -- the records of files that are declared
  abbrev pub inside : RecordMap → FileKey → Content
  inside m k = if nat_le 1 (volume_of found.config k.0) then m k.0 k.1 else None

  pub inside_is : (m : RecordMap) (file : ℕ) (key : List ℕ) → IsFile found file → inside m (file, key) ≡ m file key
  inside_is m file key is = ap (λ (b : Bool). if b then m file key else None) (le-leb 1 (volume_of found.config file) is)

  inside_some : (m : RecordMap) (k : FileKey) → inside m k ≢ None → IsFile found k.0 × (m k.0 k.1 ≢ None)
  inside_some m k h = by_case (nat_le 1 (volume_of found.config k.0)) refl h where
    by_case : (b : Bool) → nat_le 1 (volume_of found.config k.0) ≡ b → (if b then m k.0 k.1 else None) ≢ None → IsFile found k.0 × (m k.0 k.1 ≢ None)
    by_case true e h = (leb-true 1 (volume_of found.config k.0) e, h)
    by_case false e h = absurd (h refl)

  on_trail : (d : ℕ) (volume : Volume) → IsNumber found.config.volumes d volume → trail_of found.config d ≡ volume.trail
  on_trail d volume is = ap (λ (o : Option Volume). option_map_or (λ v. v.trail) o 0) (numbered_is found.config.volumes d volume is)

  module _ (valid : IsValidConfig found.config) where
    pub trail_is : (d : ℕ) (volume : Volume) → IsNumber found.config.volumes d volume → (1 ≤ volume.trail) × (volume.trail ≤ length found.config.trails)
    trail_is d volume is =
        let member : Among found.config.volumes volume = get_among found.config.volumes (d - 1) volume is.1 in
        let declared = all_among (λ (v : Volume). IsDeclared found.config.trails v.trail) found.config.volumes valid.volumes.declared volume member in
        (declared.above, declared.below)
      where
        get_among : (xs : List Volume) (i : ℕ) (x : Volume) → slice_get xs i ≡ Some x → Among xs x
        get_among [] i x e = absurd (cc (e))
        get_among (y ∷ xs) zero x e = inl (cc (e))
        get_among (y ∷ xs) (suc i) x e = inr (get_among xs i x e)

    pub audit_is : (audit : ℕ → List AuditRecord) (d : ℕ) (volume : Volume) → IsNumber found.config.volumes d volume → audit_on audit d ≡ recs_of found (records_of d (audit volume.trail))
    audit_is audit d volume is = ap (λ (n : ℕ). recs_of found (records_of d (audit n))) (on_trail d volume is)

    -- a disc of the layout is that of a declared volume
    pub declared_disc : (d : ℕ) → Among (layout found).discs d → (volume : Volume) × IsNumber found.config.volumes d volume
    declared_disc d h =
        let m = each_mem 1 (length found.config.volumes) d h in
        let a = m.0 in
        let b = m.1 in
        let v = get_some found.config.volumes (d - 1) (omega (arith, a, b)) in
        (v.0, (m.0, v.1))

    -- FROM THE NODE'S OWN

    volumes_same : (audit : ℕ → List AuditRecord) (d : ℕ) (volume : Volume) (base dump this : Option Base) (list : List MonitorRecord) (m : RecordMap) → IsNumber found.config.volumes d volume
        → GivesValues found.config d (audit volume.trail) list m this → AnyGives {N = layout found} d (recs_of found (records_of d (audit volume.trail))) (entries_of found list) (inside m) (any_base found this)
    volumes_same audit d volume base dump None list m is g = tt
    volumes_same audit d volume base dump (Some b) list m is g = λ k here.
        (let one = is.0 in
        let is_file : IsFile found k.0 = omega (arith, one, here) in
        let l = line_at found.config.files k.0 is_file in
        let of : l.0.volume ≡ d = ap (λ (o : Option FileLine). option_map_or (λ line. line.volume) o 0) (sym l.3) ∙ here in
        value_is found d b.position (audit volume.trail) list b.records k.0 k.1 ∙ (sym (g k.0 l.0 k.1 (l.1, l.2) of) ∙ sym (inside_is m k.0 k.1 is_file)))

    kept_same : (audit : List AuditRecord) (d next : ℕ) (this : Option Base) → IsKept d audit next this → AnyKept {N = layout found} (recs_of found (records_of d audit)) next (any_base found this)
    kept_same audit d next None h = tt
    kept_same audit d next (Some b) h = (
      h.0,
      λ n low high.
          (let a = any_among (λ (r : AuditRecord). (r.disc ≡ d) × (r.position ≡ n)) audit (h.1 n low high) in
          (rec_of found a.0, recs_among found (records_of d audit) a.0 (among_records d audit a.0 a.1 a.2.0), a.2.1)),
    )

    volume_stands : (d : ℕ) (volume : Volume) (audit : ℕ → List AuditRecord) (bases dumps : ℕ → Option Base) (list : List MonitorRecord) (m : RecordMap) → IsNumber found.config.volumes d volume
        → VolumeStandsFor found.config d (audit volume.trail) (bases d) (dumps d) list m
        → AnyVolume {N = layout found} d (recs_of found (records_of d (audit volume.trail))) (any_base found (bases d)) (any_base found (dumps d)) (entries_of found list) (inside m)
    volume_stands d volume audit bases dumps list m is v = record {
      values = volumes_same audit d volume (bases d) (dumps d) (bases d) list m is v.base_values;
      dump_values = volumes_same audit d volume (bases d) (dumps d) (dumps d) list m is v.dump_values;
      kept_from = kept_same (audit volume.trail) d _ (bases d) (subst (λ (n : ℕ). IsKept d (audit volume.trail) n (bases d)) (next_is found d (audit volume.trail) (bases d) (dumps d)) v.base_kept);
      dump_kept = kept_same (audit volume.trail) d _ (dumps d) (subst (λ (n : ℕ). IsKept d (audit volume.trail) n (dumps d)) (next_is found d (audit volume.trail) (bases d) (dumps d)) v.dump_kept);
    }

    -- the keys of one file
    apart_keys : (k : FileKey) (ks : List FileKey) → ((j : FileKey) → Among ks j → j.0 ≡ k.0) → (Among ks k → ⊥) → AllByRecursion (λ other. bytes_eq k.1 other ≡ false) (map (λ j. j.1) ks)
    apart_keys k [] file apart = tt
    apart_keys k (j ∷ ks) file apart = (
      false_from_ne_true (bytes_eq k.1 j.1) (λ e. (let key = (bytes_eq-Decides k.1 j.1).0 e in apart (inl (λ i. (file j (inl refl) i, sym key i))))),
      apart_keys k ks (λ l h. file l (inr h)) (λ h. apart (inr h)),
    )

    distinct_keys : (file : ℕ) (ks : List FileKey) → ((j : FileKey) → Among ks j → j.0 ≡ file) → AreDistinct ks → IsDistinct bytes_eq (map (λ j. j.1) ks)
    unfolding IsDistinct
    distinct_keys file [] of d = tt
    distinct_keys file (k ∷ ks) of d = (apart_keys k ks (λ j h. of j (inr h) ∙ sym (of k (inl refl))) d.0, distinct_keys file ks (λ j h. of j (inr h)) d.1)

    each_at : {A : Type 0} (P : A → Type 0) (xs : List A) → Each P xs → (x : A) → Among xs x → P x
    each_at P [] each x h = absurd h
    each_at P (y ∷ xs) each x h = ⊎_elim (λ (e : y ≡ x). subst P e each.0) (λ (k : Among xs x). each_at P xs each.1 x k) h

    among_keys : (ks : List FileKey) (key : List ℕ) → Among (map (λ j. j.1) ks) key → (j : FileKey) × Among ks j × (j.1 ≡ key)
    among_keys [] key h = absurd h
    among_keys (j ∷ ks) key h = ⊎_elim (λ (e : j.1 ≡ key). (j, inl refl, e)) (λ (r : Among (map (λ j. j.1) ks) key). (let m = among_keys ks key r in (m.0, inr m.1, m.2))) h

    length-keys : (ks : List FileKey) → length (map (λ j. j.1) ks) ≡ length ks
    length-keys [] = refl
    length-keys (j ∷ ks) = ap (λ (n : ℕ). suc n) (length-keys ks)

    room_fits : (m : RecordMap) → ((number : ℕ) (file : FileLine) → IsNumber found.config.files number file → HasRoom file (m number)) → FitsRoom (layout found) (inside m)
    room_fits m room b [] distinct each = omega arith
    room_fits m room b (k ∷ ks) distinct each =
        let all = k ∷ ks in
        let here : (j : FileKey) → Among all j → (◌≡◌ {A = FileBlock} (j.0, home_block found.config j.0 j.1) b) × (inside m j ≢ None) = each_at _ all each in
        let file_of : (j : FileKey) → Among all j → j.0 ≡ k.0 = λ j h. ap (λ (c : FileBlock). c.0) ((here j h).0) ∙ sym (ap (λ (c : FileBlock). c.0) ((here k (inl refl)).0)) in
        let is = (inside_some m k (here k (inl refl)).1).0 in
        let l = line_at found.config.files k.0 is in
        let blocks : blocks_of found.config k.0 ≡ l.0.blocks = ap (λ (o : Option FileLine). option_map_or (λ line. line.blocks) o 0) l.3 in
        let few = room k.0 l.0 (l.1, l.2) b.1 (map (λ j. j.1) all) (distinct_keys k.0 all file_of distinct)
        (among_all (λ key. (block_of key l.0.blocks ≡ b.1) × IsSome (m k.0 key)) (map (λ j. j.1) all)
        (λ key h. (let j = among_keys all key h in
        let at = here j.0 j.1 in
        let block : home_block found.config j.0.0 j.0.1 ≡ b.1 = ap (λ (c : FileBlock). c.1) at.0 in (
          ap (λ (n : ℕ). block_of key n) (sym blocks) ∙ (ap (λ (x : List ℕ). home_block found.config k.0 x) (sym j.2) ∙ (ap (λ (f : ℕ). home_block found.config f j.0.1) (sym (file_of j.0 j.1)) ∙ block)),
          subst (λ (x : List ℕ). IsSome (m k.0 x)) j.2 (subst (λ (f : ℕ). IsSome (m f j.0.1)) (file_of j.0 j.1) (not_none_some _ (inside_some m j.0 at.1).1)),
        )))) in
        let n = length-keys all in
        omega (arith, few, n)

    pub each_from_all : {A : Type 0} (P : A → Type 0) (xs : List A) → ((x : A) → Among xs x → P x) → Each P xs
    each_from_all P [] h = tt
    each_from_all P (x ∷ xs) h = (h x (inl refl), each_from_all P xs (λ y k. h y (inr k)))

    pub stands_any : (rules : ℕ → Rules) (images : ℕ → Held) (bases dumps : ℕ → Option Base) (list : List MonitorRecord) (m : RecordMap) → (s : StandsFor found.config rules images bases dumps list m)
        → AnyStands {N = layout found} (image list s.audit bases dumps) (inside m)
    stands_any rules images bases dumps list m s = record {
      room = room_fits m s.room;
      epochs = λ d h. each_from_all (λ r. r.tx.epoch ≤ last_start {N = layout found} 0 (entries_of found list)) (audit_on s.audit d) (λ x k.
          (let v = declared_disc d h in
          let t = trail_is d v.0 v.1 in
          let r = among_recs found (records_of d (s.audit v.0.trail)) x (subst (λ (xs : List (AnyRecord (layout found))). Among xs x) (audit_is s.audit d v.0 v.1) k) in
          let o = of_records d (s.audit v.0.trail) r.0 r.1 in
          let le = all_among (λ r. r.tx.epoch ≤ unwrap_or (last_epoch list) 0) (s.audit v.0.trail) (s.epochs v.0.trail t.0 t.1) r.0 o.0 in
          let tx : r.0.tx.epoch ≡ x.tx.epoch = ap (λ (y : AnyRecord (layout found)). y.tx.epoch) r.2 in
          let epoch = epoch_is found list in
          omega (arith, le, tx, epoch)));
      volumes = λ d h.
          (let v = declared_disc d h in
          subst (λ (xs : List (AnyRecord (layout found))). AnyVolume {N = layout found} d xs (any_base found (bases d)) (any_base found (dumps d)) (entries_of found list) (inside m)) (sym (audit_is s.audit d v.0 v.1))
          (volume_stands d v.0 s.audit bases dumps list m v.1 (s.volumes d v.0 v.1)));
    }

    -- BACK

    values_back : (audit : List AuditRecord) (d : ℕ) (this : Option Base) (list : List MonitorRecord) (m : RecordMap) (a : FileKey → Content) → Agree found m a → 1 ≤ d
        → AnyGives {N = layout found} d (recs_of found (records_of d audit)) (entries_of found list) a (any_base found this) → GivesValues found.config d audit list m this
    values_back audit d None list m a agree one g = tt
    values_back audit d (Some b) list m a agree one g = λ number file key is of.
        (let here : volume_of found.config number ≡ d = ap (λ (o : Option FileLine). option_map_or (λ line. line.volume) o 0) (numbered_is found.config.files number file is) ∙ of in
        let is_file : IsFile found number = omega (arith, here, one) in
        agree number key is_file ∙ (sym (g (number, key) here) ∙ value_is found d b.position audit list b.records number key))

    kept_back : (audit : List AuditRecord) (d next : ℕ) (this : Option Base) → AnyKept {N = layout found} (recs_of found (records_of d audit)) next (any_base found this) → IsKept d audit next this
    kept_back audit d next None h = tt
    kept_back audit d next (Some b) h = (
      h.0,
      λ n low high.
          (let w = h.1 n low high in
          let r = among_recs found (records_of d audit) w.0 w.1 in
          let o = of_records d audit r.0 r.1 in
          among_any (λ (r : AuditRecord). (r.disc ≡ d) × (r.position ≡ n)) audit r.0 o.0 (o.1, ap (λ (y : AnyRecord (layout found)). y.position) r.2 ∙ w.2)),
    )

    volume_back : (audit : List AuditRecord) (d : ℕ) (base dump : Option Base) (list : List MonitorRecord) (m : RecordMap) (a : FileKey → Content) → Agree found m a → 1 ≤ d
        → AnyVolume {N = layout found} d (recs_of found (records_of d audit)) (any_base found base) (any_base found dump) (entries_of found list) a → VolumeStandsFor found.config d audit base dump list m
    volume_back audit d base dump list m a agree one v = record {
      base_values = values_back audit d base list m a agree one v.values;
      dump_values = values_back audit d dump list m a agree one v.dump_values;
      base_kept = subst (λ (n : ℕ). IsKept d audit n base) (sym (next_is found d audit base dump)) (kept_back audit d _ base v.kept_from);
      dump_kept = subst (λ (n : ℕ). IsKept d audit n dump) (sym (next_is found d audit base dump)) (kept_back audit d _ dump v.dump_kept);
    }

    each_in : (number block : ℕ) (file : FileLine) (m : RecordMap) (a : FileKey → Content) → Agree found m a → IsFile found number → blocks_of found.config number ≡ file.blocks → (keys : List (List ℕ))
        → ((key : List ℕ) → Among keys key → (block_of key file.blocks ≡ block) × IsSome (m number key)) → Each (λ (k : FileKey). (◌≡◌ {A = FileBlock} (k.0, home_block found.config k.0 k.1) (number, block)) × (a k ≢ None)) (in_file number keys)
    each_in number block file m a agree is blocks [] all = tt
    each_in number block file m a agree is blocks (key ∷ keys) all =
        let one = all key (inl refl) in
        let home : home_block found.config number key ≡ block = ap (λ (n : ℕ). block_of key n) blocks ∙ one.0 in
        ((λ i. (number, home i), (λ e. some_not_none (m number key) one.1 (agree number key is ∙ e))), each_in number block file m a agree is blocks keys (λ k h. all k (inr h)))

    room_back : (m : RecordMap) (a : FileKey → Content) → Agree found m a → FitsRoom (layout found) a → (number : ℕ) (file : FileLine) → IsNumber found.config.files number file → HasRoom file (m number)
    room_back m a agree fits number file is block keys distinct all =
        let at = numbered_is found.config.files number file is in
        let blocks : blocks_of found.config number ≡ file.blocks = ap (λ (o : Option FileLine). option_map_or (λ line. line.blocks) o 0) at in
        let declared = all_among (λ (f : FileLine). IsDeclared found.config.volumes f.volume) found.config.files valid.files.declared file (get_file found.config.files (number - 1) file is.1) in
        let above = declared.above in
        let on : volume_of found.config number ≡ file.volume = ap (λ (o : Option FileLine). option_map_or (λ line. line.volume) o 0) at in
        let few = fits (number, block) (in_file number keys) (distinct_in_file number keys distinct)
        (each_in number block file m a agree (omega (arith, above, on)) blocks keys (all_among (λ key. (block_of key file.blocks ≡ block) × IsSome (m number key)) keys all)) in
        let n = length-in_file number keys in
        omega (arith, few, n)
      where
        get_file : (xs : List FileLine) (i : ℕ) (x : FileLine) → slice_get xs i ≡ Some x → Among xs x
        get_file [] i x e = absurd (cc (e))
        get_file (y ∷ xs) zero x e = inl (cc (e))
        get_file (y ∷ xs) (suc i) x e = inr (get_file xs i x e)

    -- the disc of a record of a trail
    pub mem_each : (first count d : ℕ) → first ≤ d → d < first + count → Among (each_from (λ n. n) first count) d
    mem_each first zero d low high = absurd (omega (arith, low, high))
    mem_each first (suc count) d low high = by_case (nat_le (first + 1) d) refl (λ le. mem_each (first + 1) count d le (omega (arith, high))) where
      by_case : (b : Bool) → nat_le (first + 1) d ≡ b → (first + 1 ≤ d → Among (each_from (λ n. n) (first + 1) count) d) → (first ≡ d) ⊎ Among (each_from (λ n. n) (first + 1) count) d
      by_case true e more = inr (more (leb-true (first + 1) d e))
      by_case false e more = (let lt = leb-false (first + 1) d e in inl (omega (arith, low, lt)))

    pub stands_back : (rules : ℕ → Rules) (images : ℕ → Held) (bases dumps : ℕ → Option Base) (list : List MonitorRecord) (audit : ℕ → List AuditRecord) (m : RecordMap) (a : FileKey → Content) → Agree found m a
        → Spells monitor_format (images 0) list → ((t : ℕ) → 1 ≤ t → t ≤ length found.config.trails → Spells (audit_format (rules t)) (images t) (audit t))
        → ((t : ℕ) → 1 ≤ t → t ≤ length found.config.trails → All (λ r. r.tx.epoch ≤ unwrap_or (last_epoch list) 0) (audit t))
        → AnyStands {N = layout found} (image list audit bases dumps) a → StandsFor found.config rules images bases dumps list m
    stands_back rules images bases dumps list audit m a agree mon spelled epochs s = record {
      monitor_spelled = mon;
      audit = audit;
      audit_spelled = spelled;
      epochs = epochs;
      room = room_back m a agree s.room;
      volumes = λ d volume is. (let one = is.0 in
          let v = s.volumes d (mem_each 1 (length found.config.volumes) d is.0 (within found.config.volumes d volume is)) in
          volume_back (audit volume.trail) d (bases d) (dumps d) list m a agree is.0
          (subst (λ (xs : List (AnyRecord (layout found))). AnyVolume {N = layout found} d xs (any_base found (bases d)) (any_base found (dumps d)) (entries_of found list) a) (audit_is audit d volume is) v));
    } where
      below : {A : Type 0} (xs : List A) (i : ℕ) (x : A) → slice_get xs i ≡ Some x → i < length xs
      below [] i x e = absurd (cc (e))
      below (y ∷ xs) zero x e = omega arith
      below (y ∷ xs) (suc i) x e = (let lt = below xs i x e in omega (arith, lt))

      within : (xs : List Volume) (d : ℕ) (volume : Volume) → IsNumber xs d volume → d < 1 + length xs
      within xs d volume is = (let lt = below xs (d - 1) volume is.1 in let one = is.0 in omega (arith, lt, one))

    -- with the audit that was given
    pub stands_audit : (rules : ℕ → Rules) (images : ℕ → Held) (bases dumps : ℕ → Option Base) (list : List MonitorRecord) (audit : ℕ → List AuditRecord) (m : RecordMap) (a : FileKey → Content) (agree : Agree found m a)
        (mon : Spells monitor_format (images 0) list) (spelled : (t : ℕ) → 1 ≤ t → t ≤ length found.config.trails → Spells (audit_format (rules t)) (images t) (audit t))
        (epochs : (t : ℕ) → 1 ≤ t → t ≤ length found.config.trails → All (λ r. r.tx.epoch ≤ unwrap_or (last_epoch list) 0) (audit t))
        (s : AnyStands {N = layout found} (image list audit bases dumps) a) → (stands_back rules images bases dumps list audit m a agree mon spelled epochs s).audit ≡ audit
    unfolding stands_back
    stands_audit rules images bases dumps list audit m a agree mon spelled epochs s = refl
