-- Blocks of which some have the recovered content and the others the old one.
use Rattle.std.specs.Prelude.{Option, None, Some, ◌==◌, nat_eq, unwrap_or, slice_get, All}
use Rattle.std.specs.Map.{lookup}
use Rattle.std.proofs.Common.{zero, suc, ◌≡◌, ◌<◌, ◌+◌, ◌-◌, ℕ, true, false, cond, List, [], ◌∷◌, refl, sym, ap, subst, ◌∙◌, arith, ⊎_elim, eqb-true, eq-eqb}
use Rattle.std.proofs.lemmas.Bool.{cases_Bool, cond_both, cond-true, cond-false, false_from_ne_true}
use Rattle.std.proofs.lemmas.Nat.{mod_below}
use Rattle.std.proofs.lemmas.Option.{slice_get_within, get_or_from_slice_get}
use Rattle.disk_model.specs.Held.{Held}
use Rattle.tmf_model.specs.declared.config.Config.{Config}
use Rattle.tmf_model.specs.declared.config.FileLine.{FileLine}
use Rattle.tmf_model.specs.Config.{IsValidConfig, IsWithin}
use Rattle.tmf_model.specs.Place.{block_of, key_sum}
use Rattle.tmf_model.specs.RecordMap.{RecordMap}
use Rattle.keyed_file.specs.Block.{KeyedBlock, value_at}
use Rattle.trail_files.specs.declared.audit_record.AuditRecord.{AuditRecord}
use Rattle.trail_files.specs.declared.monitor_record.MonitorRecord.{MonitorRecord}
use Rattle.trail_files.specs.Recovered.{kept_records, recovered_value}
use Rattle.trail_files.specs.StandsFor.{Base, IsNumber, VolumeStandsFor, next_position, position_of}
use Rattle.block_cache.specs.Rewriting.{AgreesOff, IsRewriting, IsRewritten}
use Rattle.keyed_file.specs.Volume.{Contents, blocks_of, files_on, label_of, map_of}
use Rattle.block_cache.specs.Rewrite.{AreContentsOf, AreMixed}
use Rattle.block_cache.specs.Volume.{HasBase}
use Rattle.block_cache.specs.Whole.{IsOnTheWay}
use Rattle.block_cache.proofs.Rewritings.{agrees_recovered, rewriting, rewritten}

-- a file that lies on the volume has its blocks there
blocks_at : (volume first k : ℕ) (lines : List FileLine) (line : FileLine) → slice_get lines k ≡ Some line → line.volume ≡ volume → blocks_of (files_on volume first lines) (first + k) ≡ line.blocks
blocks_at volume first k [] line is on = absurd (cc)
blocks_at volume first zero (x ∷ lines) line is on =
    let same : x ≡ line = cc in
    let here : (x.volume == volume) ≡ true = eq-eqb x.volume volume (ap (λ (l : FileLine). l.volume) same ∙ on) in
    ap (λ b. blocks_of (cond b ((first, x.blocks) ∷ files_on volume (first + 1) lines) (files_on volume (first + 1) lines)) (first + 0)) here
    ∙ ap (λ b. unwrap_or (cond b (Some x.blocks) (lookup (nat_eq (first + 0)) (files_on volume (first + 1) lines))) 0) (eq-eqb (first + 0) first (omega arith))
    ∙ ap (λ (l : FileLine). l.blocks) same
blocks_at volume first (suc k) (x ∷ lines) line is on =
    let rest : List (ℕ × ℕ) = files_on volume (first + 1) lines in
    let later : blocks_of rest (first + suc k) ≡ line.blocks = ap (blocks_of rest) (omega arith) ∙ blocks_at volume (first + 1) k lines line is on in
    cond_both (x.volume == volume) ((first, x.blocks) ∷ rest) rest (λ files. blocks_of files (first + suc k) ≡ line.blocks)
    (λ here.
    ap (λ b. unwrap_or (cond b (Some x.blocks) (lookup (nat_eq (first + suc k)) rest)) 0) (false_from_ne_true ((first + suc k) == first) (λ e. absurd (omega (arith, eqb-true (first + suc k) first e))))
    ∙ later)
    (λ there. later)

pub blocks-declared : (config : Config) (volume number : ℕ) (line : FileLine) → IsNumber config.files number line → line.volume ≡ volume → blocks_of (files_on volume 1 config.files) number ≡ line.blocks
blocks-declared config volume number line is on = ap (blocks_of (files_on volume 1 config.files)) (omega (arith, is.0)) ∙ blocks_at volume 1 (number - 1) config.files line is.1 on

-- what holds of all items holds of that with a number
pub number-all : {X : Type 0} (P : X → Type 0) (items : List X) (number : ℕ) (item : X) → All P items → IsNumber items number item → P item
number-all P items number item all is =
    subst P (get_or_from_slice_get items (number - 1) item item is.1) (all (number - 1) item (slice_get_within items (number - 1) item is.1))

-- a key that the volume has in a block: what the blocks say of it
map_of-some : (files : List (ℕ × ℕ)) (contents : Contents) (file : ℕ) (key : List ℕ) → (blocks_of files file == 0) ≡ false
    → map_of files contents file key ≡ value_at (contents file (block_of key (blocks_of files file))) key
map_of-some files contents file key some = cond-false (blocks_of files file == 0) None (value_at (contents file (block_of key (blocks_of files file))) key) some

some-blocks : (n : ℕ) → (n == 0) ≡ false → 0 < n
some-blocks zero e = absurd (cc)
some-blocks (suc n) e = omega arith

key-within : (key : List ℕ) (blocks : ℕ) → (blocks == 0) ≡ false → block_of key blocks < blocks
key-within key blocks some = mod_below (key_sum key) blocks (some-blocks blocks some)

-- at a key where the map is what the old blocks say so do the mixed ones
mixed-key : (files : List (ℕ × ℕ)) (was shown : Contents) (map : RecordMap) (file : ℕ) (key : List ℕ) → AreMixed files was map shown → map file key ≡ map_of files was file key
    → map_of files shown file key ≡ map_of files was file key
mixed-key files was shown map file key mixed same =
    ⊎_elim
    (λ none. cond-true (blocks_of files file == 0) None (value_at (shown file (block_of key (blocks_of files file))) key) none ∙ sym (cond-true (blocks_of files file == 0) None (value_at (was file (block_of key (blocks_of files file))) key) none))
    (λ some.
    ⊎_elim
    (λ old. map_of-some files shown file key some ∙ ap (λ (b : KeyedBlock). value_at b key) old ∙ sym (map_of-some files was file key some))
    (λ new. map_of-some files shown file key some ∙ new key refl ∙ same)
    (mixed file (block_of key (blocks_of files file)) (key-within key (blocks_of files file) some)))
    (cases_Bool (blocks_of files file == 0))

pub agrees-mixed : (files : List (ℕ × ℕ)) (was shown : Contents) (audit : List AuditRecord) (monitor : List MonitorRecord) → AreMixed files was (recovered_value (map_of files was) audit monitor) shown
    → AgreesOff audit (map_of files was) (map_of files shown)
agrees-mixed files was shown audit monitor mixed file key none =
    mixed-key files was shown (recovered_value (map_of files was) audit monitor) file key mixed (agrees_recovered (map_of files was) audit monitor file key none)

-- the blocks say what the map does
whole-key : (files : List (ℕ × ℕ)) (shown : Contents) (map : RecordMap) (file : ℕ) (key : List ℕ) → AreContentsOf files map shown → 0 < blocks_of files file
    → map_of files shown file key ≡ map file key
whole-key files shown map file key whole some =
    let is : (blocks_of files file == 0) ≡ false = false_from_ne_true (blocks_of files file == 0) (λ e. absurd (omega (arith, some, eqb-true (blocks_of files file) 0 e))) in
    map_of-some files shown file key is ∙ whole file (block_of key (blocks_of files file)) (key-within key (blocks_of files file) is) key refl

-- an image on the way of a volume that gets what recovery finds stands for the same map
pub image-stands : (config : Config) (volume : ℕ) (audit : List AuditRecord) (base : Base) (dump : Option Base) (monitor : List MonitorRecord) (map : RecordMap) (was : Contents) (low : ℕ) (image : Held) → IsValidConfig config
    → All (λ r. r.disc ≡ volume → r.position < next_position (kept_records volume 0 audit) (position_of (Some base)) (position_of dump)) audit
    → VolumeStandsFor config volume audit (Some base) dump monitor map → base.records ≡ map_of (files_on volume 1 config.files) was
    → low ≡ next_position (kept_records volume 0 audit) (position_of (Some base)) (position_of dump)
    → IsOnTheWay (label_of config volume base.position) low was (recovered_value base.records (kept_records volume base.position audit) monitor) image
    → (other : Base) × HasBase config volume image (Some other) × VolumeStandsFor config volume audit (Some other) dump monitor map
image-stands config volume audit base dump monitor map was low image valid before stands records low_is way =
    let files : List (ℕ × ℕ) = files_on volume 1 config.files in
    let kept : List AuditRecord = kept_records volume base.position audit in
    let found : RecordMap = recovered_value base.records kept monitor in
    let shown : Contents = way.0 in
    ⊎_elim
    (λ old.
    let other : Base = record { records = map_of files shown; position = base.position } in
    let agrees : AgreesOff kept (map_of files was) (map_of files shown) = agrees-mixed files was shown kept monitor (subst (λ r. AreMixed files was (recovered_value r kept monitor) shown) records old.1) in
    let is : IsRewriting volume audit base other = record { position = refl; agrees = subst (λ r. AgreesOff kept r (map_of files shown)) (sym records) agrees } in
    (other, (shown, old.0, refl), rewriting config volume audit base other dump monitor map stands is))
    (λ new.
    let other : Base = record { records = map_of files shown; position = low } in
    let is : IsRewritten config volume audit base dump map other = record {
      position = low_is;
      records = λ number line key is on.
          let some : IsWithin 1 256 line.blocks = number-all (λ one. IsWithin 1 256 one.blocks) config.files number line valid.files.blocks is in
          whole-key files shown found number key new.1 (omega (arith, some.above, blocks-declared config volume number line is on)) ∙ sym (stands.base_values number line key is on);
    } in
    (other, (shown, new.0, refl), rewritten config volume audit base other dump monitor map before stands is))
    way.1
