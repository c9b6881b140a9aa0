-- What is read of a volume's other blocks, over a write in one block's pair.
use Rattle.std.proofs.Common.{◌≡◌, ◌≢◌, ◌⊎◌, inl, inr, ℕ, ◌+◌, ◌<◌, ◌≤◌, List, Some, length, refl, sym, ap, subst, ◌∙◌, arith, ⊎_elim}
use Rattle.std.specs.Prelude.{slice_index}
use Rattle.disk_model.specs.Held.{Held, File, Elsewhere}
use Rattle.keyed_file.specs.declared.block.TheConstants.{BLOCK_BYTES}
use Rattle.keyed_file.specs.declared.home.Home.{Home}
use Rattle.keyed_file.specs.declared.label.Label.{Label}
use Rattle.keyed_file.specs.BlockFormat.{bad_block, block_text}
use Rattle.keyed_file.specs.LabelFormat.{IsLabel}
use Rattle.keyed_file.specs.Layout.{ShowsPair, block_pair, bytes_at, data_length, selected_by, slot_at}
use Rattle.keyed_file.specs.Volume.{blocks_of}
use Rattle.keyed_file.proofs.BlockCalls.{length-block_text}
use Rattle.block_cache.specs.Damage.{IsRead, bad_data, bad_data_in}
use Rattle.block_cache.specs.Drawn.{NamesOthers, ReadsOthers, ShowsOthers}
use Rattle.block_cache.specs.Shows.{SpellsContent}
use Rattle.block_cache.proofs.Caches.{same_or_other}
use Rattle.block_cache.proofs.Damages.{long_data, small_slot, whole_count, whole_fault}
use Rattle.block_cache.proofs.FileRows.{label_small}
use Rattle.block_cache.proofs.Pairing.{IsApart, Keeps}
use Rattle.block_cache.proofs.Places.{some_is}
use Rattle.block_cache.proofs.Stands.{AreApart, same_range}

pub away : (at size other more i : ℕ) → AreApart at size other more → at ≤ i → i < at + size → (i < other) ⊎ (other + more ≤ i)
away at size other more i (inl before) from below = inl (omega (arith, before, below))
away at size other more i (inr behind) from below = inr (omega (arith, behind, from))

-- a block of a file that is whole is read as before, where its pair was not written
module _ (home : Home) (f g : File) (at n : ℕ) (keeps : Keeps at n f g) (apart : IsApart (block_pair home.file home.number) at n) (within : home.number < home.blocks) (few : home.blocks ≤ 256) (long : data_length home.blocks ≤ length f.bytes) where
  abbrev slot : ℕ
  slot = selected_by (slice_index f.bytes home.number)

  same_selector : slot ≡ selected_by (slice_index g.bytes home.number)
  same_selector = ap selected_by (sym (keeps.bytes home.number (omega (arith, within, few, long)) apart.selector))

  abbrev start : ℕ
  start = slot_at (block_pair home.file home.number) slot

  reaches : start + BLOCK_BYTES ≤ length f.bytes
  reaches = let small : slot < 2 = small_slot home f.bytes (slice_index f.bytes home.number) in omega (arith, within, long, small)

  same_bytes : bytes_at start BLOCK_BYTES g.bytes ≡ bytes_at start BLOCK_BYTES f.bytes
  same_bytes = same_range g.bytes f.bytes start BLOCK_BYTES (omega (arith, reaches, keeps.longer)) reaches
      (λ i from below. keeps.bytes i (omega (arith, below, reaches)) (away start BLOCK_BYTES at n i (apart.slots slot (small_slot home f.bytes (slice_index f.bytes home.number))) from below))

  read_old : IsRead home f.bytes slot (length (bytes_at start BLOCK_BYTES f.bytes)) (bytes_at start BLOCK_BYTES f.bytes)
  read_old = record { named = refl; counted = refl; spelled = λ all. refl }

  read_new : IsRead home g.bytes slot (length (bytes_at start BLOCK_BYTES f.bytes)) (bytes_at start BLOCK_BYTES f.bytes)
  read_new = record { named = same_selector; counted = ap length (sym same_bytes); spelled = λ all. sym same_bytes }

  pub read_as_before : bad_data home g.bytes ≡ bad_data home f.bytes
  read_as_before =
      let bad = bad_block (Some home) (bytes_at start BLOCK_BYTES f.bytes) in
      let whole = whole_count home f.bytes slot (length (bytes_at start BLOCK_BYTES f.bytes)) (bytes_at start BLOCK_BYTES f.bytes) read_old within long in
      long_data home g.bytes (omega (arith, long, keeps.longer))
      ∙ whole_fault home g.bytes slot (length (bytes_at start BLOCK_BYTES f.bytes)) (bytes_at start BLOCK_BYTES f.bytes) bad read_new whole refl
      ∙ sym (whole_fault home f.bytes slot (length (bytes_at start BLOCK_BYTES f.bytes)) (bytes_at start BLOCK_BYTES f.bytes) bad read_old whole refl)
      ∙ sym (long_data home f.bytes long)

  pub shown_as_before : (text : List ℕ) → length text ≡ BLOCK_BYTES → ShowsPair f.bytes (block_pair home.file home.number) text → ShowsPair g.bytes (block_pair home.file home.number) text
  shown_as_before text size shows =
      ap (λ (s : ℕ). bytes_at (slot_at (block_pair home.file home.number) s) (length text) g.bytes) (sym same_selector)
      ∙ ap (λ (k : ℕ). bytes_at start k g.bytes) size
      ∙ same_bytes
      ∙ ap (λ (k : ℕ). bytes_at start k f.bytes) (sym size)
      ∙ shows

-- the same of all of a volume's blocks but the one whose pair was written
pub others_read : (label : Label) (file number at n : ℕ) (old new : Held) (f g : File) → IsLabel label → number < blocks_of label.files file → Elsewhere (1 + file) old new → old (1 + file) ≡ Some f → new (1 + file) ≡ Some g → Keeps at n f g
    → ((m : ℕ) → m < 256 → m ≢ number → IsApart (block_pair file m) at n) → data_length (blocks_of label.files file) ≤ length f.bytes → ReadsOthers label.files file number old new
others_read label file number at n old new f g is within elsewhere was now keeps apart long h m below other = elim (same_or_other h file) [
  | inr off ↦ ap (bad_data_in (record { file = h; number = m; blocks = blocks_of label.files h })) (elsewhere (1 + h) (λ e. off (omega (arith, e))))
  | inl e ↦ subst (λ x. m < blocks_of label.files x → bad_data_in (record { file = x; number = m; blocks = blocks_of label.files x }) (new (1 + x)) ≡ bad_data_in (record { file = x; number = m; blocks = blocks_of label.files x }) (old (1 + x))) (sym e)
      (λ lt.
      let small = label_small label file is (omega (arith, lt)) in
      let home : Home = record { file = file; number = m; blocks = blocks_of label.files file } in
      let not_it : m ≢ number = ⊎_elim (λ off. absurd (off e)) (λ off. off) other in
      ap (bad_data_in home) now
      ∙ read_as_before home f g at n keeps (apart m (omega (arith, lt, small.2)) not_it) lt small.2 long
      ∙ sym (ap (bad_data_in home) was)) below
]

-- so is the slot that each of their selectors names
pub others_named : (label : Label) (file number at n : ℕ) (old new : Held) (f g : File) → IsLabel label → Elsewhere (1 + file) old new → old (1 + file) ≡ Some f → new (1 + file) ≡ Some g → Keeps at n f g
    → ((m : ℕ) → m < 256 → m ≢ number → IsApart (block_pair file m) at n) → NamesOthers label.files file number old new
others_named label file number at n old new f g is elsewhere was now keeps apart h m slot below other named = elim (same_or_other h file) [
  | inr off ↦ (named.0, elsewhere (1 + h) (λ e. off (omega (arith, e))) ∙ named.1, named.2)
  | inl e ↦
      let small = label_small label h is (omega (arith, below)) in
      let not_it : m ≢ number = ⊎_elim (λ off. absurd (off e)) (λ off. off) other in
      let same : named.0 ≡ f = some_is named.0 f (sym named.1 ∙ ap (λ k. old (1 + k)) e ∙ was) in
      let longer : length f.bytes ≤ length g.bytes = keeps.longer in
      let long : length named.0.bytes ≡ length f.bytes = ap (λ (x : File). length x.bytes) same in (
        g,
        ap (λ k. new (1 + k)) e ∙ now,
        (
          omega (arith, named.2.0, long, longer),
          named.2.1 ∙ ap (λ (x : File). selected_by (slice_index x.bytes m)) same
              ∙ ap selected_by (sym (keeps.bytes m (omega (arith, below, small.2, named.2.0, long)) (apart m (omega (arith, below, small.2)) not_it).selector)),
        ),
      )
]

-- so is what each of them shows
pub others_shown : (label : Label) (file number at n : ℕ) (old new : Held) (f g : File) → IsLabel label → Elsewhere (1 + file) old new → old (1 + file) ≡ Some f → new (1 + file) ≡ Some g → Keeps at n f g
    → ((m : ℕ) → m < 256 → m ≢ number → IsApart (block_pair file m) at n) → ShowsOthers label.files file number old new
others_shown label file number at n old new f g is elsewhere was now keeps apart h m content below other shown = elim (same_or_other h file) [
  | inr off ↦ record { valid = shown.valid; spelled = (shown.spelled.0, elsewhere (1 + h) (λ e. off (omega (arith, e))) ∙ shown.spelled.1, shown.spelled.2) }
  | inl e ↦ subst
      (λ x. m < blocks_of label.files x → SpellsContent (record { file = x; number = m; blocks = blocks_of label.files x }) content old → SpellsContent (record { file = x; number = m; blocks = blocks_of label.files x }) content new) (sym e)
      (λ lt shows.
      let small = label_small label file is (omega (arith, lt)) in
      let home : Home = record { file = file; number = m; blocks = blocks_of label.files file } in
      let not_it : m ≢ number = ⊎_elim (λ off. absurd (off e)) (λ off. off) other in
      let there : (data_length home.blocks ≤ length f.bytes) × ShowsPair f.bytes (block_pair file m) (block_text content) =
      subst (λ (x : File). (data_length home.blocks ≤ length x.bytes) × ShowsPair x.bytes (block_pair file m) (block_text content)) (some_is shows.spelled.0 f (sym shows.spelled.1 ∙ was)) shows.spelled.2 in
      let long : data_length home.blocks ≤ length f.bytes = there.0 in
      let longer : length f.bytes ≤ length g.bytes = keeps.longer in
      record {
        valid = shows.valid;
        spelled = (
          g,
          now,
          (
            omega (arith, long, longer),
            shown_as_before home f g at n keeps (apart m (omega (arith, lt, small.2)) not_it) lt small.2 long (block_text content) (length-block_text content shows.valid.valid) there.1,
          ),
        );
      })
      below shown
]
