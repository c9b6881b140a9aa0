-- A draw's calls, as they see the blocks of a volume.
use Rattle.std.proofs.Common.{◌≡◌, ◌≢◌, inl, inr, ℕ, ◌+◌, ◌-◌, ◌<◌, ◌≤◌, Bool, false, List, [], ◌∷◌, length, Some, refl, sym, ap, subst, ◌∙◌, arith}
use Rattle.std.specs.Prelude.{IsTrue, slice_get, slice_set}
use Rattle.std.specs.Option.{option_and_then}
use Rattle.disk_model.specs.Held.{Held, File, IsThere, Elsewhere, synced, written}
use Rattle.trail_files.specs.Put.{Put, Left}
use Rattle.keyed_file.specs.declared.block.TheConstants.{BLOCK_BYTES}
use Rattle.keyed_file.specs.Block.{KeyedBlock, IsBlock}
use Rattle.keyed_file.specs.BlockFormat.{block_text, is_at_home}
use Rattle.block_cache.specs.declared.frame.Frame.{Frame}
use Rattle.block_cache.specs.declared.pair.PairPhase.{PairPhase}
use Rattle.block_cache.specs.declared.pair.PairPhase.TheVariants.{Settled, Written, Offered}
use Rattle.block_cache.specs.Blocks.{View, IsBlocks, IsCached, IsNextContent, Holds, home_of, with_content}
use Rattle.block_cache.specs.Cache.{SetsEntry, CacheView, IsCache, entry_at, frame_at, is_settled, place_of}
use Rattle.keyed_file.specs.Layout.{block_pair, data_length, slot_at}
use Rattle.keyed_file.specs.Volume.{Contents, blocks_of}
use Rattle.block_cache.proofs.Draws.{body_ok, body_err, select_ok, select_err}
use Rattle.block_cache.proofs.Entries.{sets_entry, blocks_same, blocks_after}
use Rattle.block_cache.proofs.Caches.{same_or_other}
use Rattle.block_cache.proofs.Drawn.{shows-next}
use Rattle.block_cache.proofs.FileRows.{label_small}
use Rattle.block_cache.proofs.Holdings.{Grows, apart_slot, grows_put, grows_left}
use Rattle.block_cache.proofs.Nexts.{AreNextThere, AreSlotsApart, nexts-file}
use Rattle.block_cache.proofs.Shown.{shows-fine}
use Rattle.block_cache.proofs.Stands.{spelled_written}
use Rattle.block_cache.proofs.Pairing.{IsApart, IsUnderWay, Keeps, keeps_left, keeps_put}
use Rattle.block_cache.proofs.Places.{some_is}
use Rattle.block_cache.proofs.OtherReads.{others_named, others_read, others_shown}
use Rattle.block_cache.specs.Drawn.{EndsDraw, WritesPair}
use Rattle.block_cache.specs.Rest.{KeepsRest}
use Rattle.block_cache.specs.Shows.{SpellsContent}

pub under_way : (phase : PairPhase) → is_settled phase ≡ false → IsUnderWay phase
under_way Settled is = cc
under_way Written is = tt
under_way Offered is = tt

module _ {D : Type 0} (tells : D → Bool) (held : D → Held) (view now : View D) (same : view ≡ now) (first : D) (is_first : first ≡ view.device) (file number i : ℕ) (F : Frame) (is : IsBlocks tells held view) (below : number < 256) (at : frame_at now.cache (place_of file number) ≡ Some i) (there : slice_get view.cache.frames i ≡ Some F) where
  at_view : frame_at view.cache (place_of file number) ≡ Some i
  at_view = ap (λ (v : View D). frame_at v.cache (place_of file number)) same ∙ at

  pub entry : entry_at view.cache file number ≡ Some F
  entry = ap (option_and_then (slice_get view.cache.frames)) at_view ∙ there

  pub frame_is : (f : Frame) → entry_at now.cache file number ≡ Some f → F ≡ f
  frame_is f found = some_is F f (sym entry ∙ ap (λ (v : View D). entry_at v.cache file number) same ∙ found)

  pub cached : IsCached view.label.files file number F
  cached = is.cached file number F below entry

  told_view : IsTrue (tells first) → IsTrue (tells view.device)
  told_view told = subst (λ (d : D). IsTrue (tells d)) is_first told

  told_first : IsTrue (tells now.device) → IsTrue (tells first)
  told_first told = subst (λ (d : D). IsTrue (tells d)) (ap (λ (v : View D). v.device) (sym same) ∙ sym is_first) told

  pub slot_there : (slot : ℕ) → slot < 2 → IsTrue (tells first) → IsThere (held first) (1 + file) (λ f. slot_at (block_pair file number) slot ≤ length f.bytes)
  slot_there slot lt told = subst (λ (d : D). IsThere (held d) (1 + file) (λ f. slot_at (block_pair file number) slot ≤ length f.bytes)) (sym is_first)
      (let has = is.file_there (told_view told) file number F below entry in (has.0, has.1, omega (arith, has.2, cached.within, lt)))

  pub selector_there : IsTrue (tells first) → IsThere (held first) (1 + file) (λ f. number ≤ length f.bytes)
  selector_there told = subst (λ (d : D). IsThere (held d) (1 + file) (λ f. number ≤ length f.bytes)) (sym is_first)
      (let has = is.file_there (told_view told) file number F below entry in (has.0, has.1, omega (arith, has.2, below)))

  -- the slots of half-drawn blocks are away from the other slot of a settled pair, and from each selector
  pub nexts_slot : F.phase ≡ Settled → (size : ℕ) → size ≡ BLOCK_BYTES → (m : ℕ) (x : Frame) → m < 256 → entry_at view.cache file m ≡ Some x → is_settled x.phase ≡ false → AreSlotsApart file m (slot_at (block_pair file number) (1 - F.slot)) size
  nexts_slot settled size long m x small at_m half = elim (same_or_other m number) [
    | inl e ↦ absurd (cc (sym half ∙ ap (λ (f : Frame). is_settled f.phase) (some_is x F (sym at_m ∙ ap (entry_at view.cache file) e ∙ entry)) ∙ ap is_settled settled))
    | inr other ↦ subst (AreSlotsApart file m (slot_at (block_pair file number) (1 - F.slot))) (sym long) (apart_slot file number (1 - F.slot) m (omega arith) small other).slots
  ]

  pub nexts_selector : (m : ℕ) (x : Frame) → m < 256 → entry_at view.cache file m ≡ Some x → is_settled x.phase ≡ false → AreSlotsApart file m number 1
  nexts_selector m x small at_m half slot lt = inr (omega (arith, below))

  module _ (device : D) (telling : tells device ≡ tells first) (others : IsTrue (tells first) → Elsewhere (1 + file) (held first) (held device)) (offset : ℕ) (bytes : List ℕ) (reaches : IsTrue (tells first) → IsThere (held first) (1 + file) (λ f. offset ≤ length f.bytes)) where
    telling_view : tells device ≡ tells view.device
    telling_view = telling ∙ ap tells is_first

    told_back : IsTrue (tells view.device) → IsTrue (tells first)
    told_back told = subst (λ (d : D). IsTrue (tells d)) (sym is_first) told

    grown : (IsTrue (tells first) → Grows (held first) (held device)) → IsTrue (tells view.device) → Grows (held view.device) (held device)
    grown grows told = subst (λ (d : D). Grows (held d) (held device)) is_first (grows (told_back told))

    others_view : IsTrue (tells first) → Elsewhere (1 + file) (held view.device) (held device)
    others_view told = subst (λ (d : D). Elsewhere (1 + file) (held d) (held device)) is_first (others told)

    put_view : (at : ℕ) (text : List ℕ) → Put (1 + file) (held first) (held device) at text → Put (1 + file) (held view.device) (held device) at text
    put_view at text put = subst (λ (d : D). Put (1 + file) (held d) (held device) at text) is_first put

    left_view : (at : ℕ) (text : List ℕ) → Left (1 + file) (held first) (held device) at text → Left (1 + file) (held view.device) (held device) at text
    left_view at text left = subst (λ (d : D). Left (1 + file) (held d) (held device) at text) is_first left

    reaches_view : IsTrue (tells first) → (has : IsThere (held view.device) (1 + file) (λ f. data_length (blocks_of view.label.files file) ≤ length f.bytes)) → offset ≤ length has.0.bytes
    reaches_view told has =
        let there = subst (λ (d : D). IsThere (held d) (1 + file) (λ f. offset ≤ length f.bytes)) is_first (reaches told) in
        subst (λ (x : File). offset ≤ length x.bytes) (some_is there.0 has.0 (sym there.1 ∙ has.1)) there.2

    -- no next content stands where it is written
    abbrev AreNextsApart : Type 0
    AreNextsApart = (m : ℕ) (x : Frame) → m < 256 → entry_at view.cache file m ≡ Some x → is_settled x.phase ≡ false → AreSlotsApart file m offset (length bytes)

    nexts_after : (IsTrue (tells first) → (x : File) → held view.device (1 + file) ≡ Some x → offset ≤ length x.bytes → (y : File) × (held device (1 + file) ≡ Some y) × Keeps offset (length bytes) x y) → AreNextsApart → AreNextThere tells held view device
    nexts_after left apart told =
        let told' = told_back told in
        let has = is.file_there told file number F below entry in
        let after = left told' has.0 has.1 (reaches_view told' has) in
        nexts-file tells held view device is file offset (length bytes) has.0 after.0 (others_view told') has.1 after.1 after.2 apart told

    nexts_put : (IsTrue (tells first) → Put (1 + file) (held first) (held device) offset bytes) → AreNextsApart → AreNextThere tells held view device
    nexts_put put = nexts_after (λ told x at le. (synced (written offset bytes x), put_view offset bytes (put told) x at, keeps_put offset bytes x le))

    nexts_left : (IsTrue (tells first) → Left (1 + file) (held first) (held device) offset bytes) → AreNextsApart → AreNextThere tells held view device
    nexts_left left = nexts_after (λ told x at le. let y = left_view offset bytes (left told) x at in (y.0, y.1, keeps_left offset bytes x y.0 le y.2))

    pub same_valid : (IsTrue (tells first) → Left (1 + file) (held first) (held device) offset bytes) → AreNextsApart → IsBlocks tells held (record view { device = device })
    same_valid left apart = blocks_same tells held view device is telling_view (grown (λ told. grows_left (1 + file) offset bytes (held first) (held device) (reaches told) (others told) (left told))) (nexts_left left apart)

    module _ (cache : CacheView) (F' : Frame) (frames : cache.frames ≡ slice_set view.cache.frames i F') (table : cache.table ≡ view.cache.table) (order : cache.order ≡ view.cache.order) (is_cache : IsCache cache) (content : F'.block ≡ F.block) where
      pub sets : SetsEntry view.cache cache file number F'
      sets = sets_entry view.cache cache file number i F F' is.frames below at_view there frames table

      home : IsCached view.label.files file number F'
      home = record { within = cached.within; home = ap (λ (b : KeyedBlock). is_at_home (Some (record { file = file; number = number; blocks = blocks_of view.label.files file })) b) content ∙ cached.home }

      -- the next content of this block, as its frame has it now
      abbrev IsNextHere : Type 0
      IsNextHere = IsTrue (tells view.device) → is_settled F'.phase ≡ false → IsThere (held device) (1 + file) (λ d. IsNextContent view.label.files file number F' d.bytes)

      pub put_valid : (IsTrue (tells first) → Put (1 + file) (held first) (held device) offset bytes) → AreNextsApart → IsNextHere → IsBlocks tells held (record view { device = device; cache = cache })
      put_valid put apart next = blocks_after tells held view device is telling_view (grown (λ told. grows_put (1 + file) offset bytes (held first) (held device) (reaches told) (others told) (put told))) (nexts_put put apart) cache file number F F' is_cache below entry sets home next

      pub left_valid : (IsTrue (tells first) → Left (1 + file) (held first) (held device) offset bytes) → AreNextsApart → (AreNextThere tells held view device → IsNextHere) → IsBlocks tells held (record view { device = device; cache = cache })
      left_valid left apart next = blocks_after tells held view device is telling_view (grown (λ told. grows_left (1 + file) offset bytes (held first) (held device) (reaches told) (others told) (left told))) (nexts_left left apart) cache file number F F' is_cache below entry sets home (next (nexts_left left apart))

      pub sets_now : SetsEntry now.cache cache file number F'
      sets_now = subst (λ (v : View D). SetsEntry v.cache cache file number F') same sets

    holds_view : (landed next : Contents) → Holds held now landed next → Holds held view landed next
    holds_view landed next holds = subst (λ (v : View D). Holds held v landed next) (sym same) holds

    -- the other blocks are read as before
    module _ (n : ℕ) (long : length bytes ≡ n) (apart : (m : ℕ) → m < 256 → m ≢ number → IsApart (block_pair file m) offset n) where
      writes_others : IsTrue (tells first) → ((x : File) → held view.device (1 + file) ≡ Some x → offset ≤ length x.bytes → (y : File) × (held device (1 + file) ≡ Some y) × Keeps offset (length bytes) x y) → WritesPair now.label.files file number (held now.device) (held device)
      writes_others told left =
          let has = is.file_there (told_view told) file number F below entry in
          let after = left has.0 has.1 (reaches_view told has) in
          let keeps : Keeps offset n has.0 after.0 = subst (λ k. Keeps offset k has.0 after.0) long after.2 in
          subst (λ (v : View D). WritesPair v.label.files file number (held v.device) (held device)) same (record {
            elsewhere = others_view told;
            reads = others_read view.label file number offset n (held view.device) (held device) has.0 after.0 is.label cached.within (others_view told) has.1 after.1 keeps apart has.2;
            names = others_named view.label file number offset n (held view.device) (held device) has.0 after.0 is.label (others_view told) has.1 after.1 keeps apart;
            shows = others_shown view.label file number offset n (held view.device) (held device) has.0 after.0 is.label (others_view told) has.1 after.1 keeps apart;
          })

      pub writes_put : (IsTrue (tells first) → Put (1 + file) (held first) (held device) offset bytes) → IsTrue (tells now.device) → WritesPair now.label.files file number (held now.device) (held device)
      writes_put put told = writes_others (told_first told) (λ x at le. (synced (written offset bytes x), put_view offset bytes (put (told_first told)) x at, keeps_put offset bytes x le))

      pub writes_left : (IsTrue (tells first) → Left (1 + file) (held first) (held device) offset bytes) → IsTrue (tells now.device) → WritesPair now.label.files file number (held now.device) (held device)
      writes_left left told = writes_others (told_first told) (λ x at le. let y = left_view offset bytes (left (told_first told)) x at in (y.0, y.1, keeps_left offset bytes x y.0 le y.2))

    -- the body that was written is the next content
    pub next_body : IsBlock F.block → (IsTrue (tells first) → Put (1 + file) (held first) (held device) (slot_at (block_pair file number) (1 - F.slot)) (block_text F.block))
        → IsTrue (tells view.device) → IsThere (held device) (1 + file) (λ d. IsNextContent view.label.files file number (record F { dirty = false; phase = Written }) d.bytes)
    next_body valid put told =
        let at : ℕ = slot_at (block_pair file number) (1 - F.slot) in
        let has = is.file_there told file number F below entry in
        let one : 1 - F.slot < 2 = omega arith in
        let le : slot_at (block_pair file number) (1 - F.slot) ≤ length has.0.bytes = omega (arith, has.2, cached.within, one) in (
          synced (written at (block_text F.block) has.0),
          put_view at (block_text F.block) (put (told_back told)) has.0 has.1,
          record { content = F.block; valid = record { valid = valid; home = cached.home }; spelled = spelled_written at (block_text F.block) has.0 le; latest = λ clean. refl },
        )

    -- a next content that was offered stays the next one
    pub next_offered : is_settled F.phase ≡ false → AreNextThere tells held view device → IsTrue (tells view.device) → IsThere (held device) (1 + file) (λ d. IsNextContent view.label.files file number (record F { phase = Offered }) d.bytes)
    next_offered half nexts told =
        let next = nexts told file number F below entry half in
        (next.0, next.1, record { content = next.2.content; valid = next.2.valid; spelled = next.2.spelled; latest = next.2.latest })

    -- the block is drawn once its selector was written
    pub drawn_shows : (cache : CacheView) → is_settled F.phase ≡ false → (IsTrue (tells first) → Put (1 + file) (held first) (held device) number ((1 - F.slot) ∷ []))
        → (IsTrue (tells now.device) → KeepsRest now.label (held now.device) (held device)) → IsTrue (tells now.device) → EndsDraw held now (record view { device = device; cache = cache }) file number
    drawn_shows cache half put rests told =
        let told_1 : IsTrue (tells first) = told_first told in
        let told_2 : IsTrue (tells view.device) = told_view told_1 in
        let next = is.next_there told_2 file number F below entry half in
        let has = is.file_there told_2 file number F below entry in
        let small = label_small view.label file is.label (omega (arith, cached.within)) in
        let long : data_length (blocks_of view.label.files file) ≤ length next.0.bytes = subst (λ (y : File). data_length (blocks_of view.label.files file) ≤ length y.bytes) (some_is has.0 next.0 (sym has.1 ∙ next.1)) has.2 in
        let shows : SpellsContent (home_of view file number) next.2.content (held device) =
        shows-next view.label.files file number F next.0 (held device) (is.frames.each i F there).slot cached.within small.2 long next.2 (put_view number ((1 - F.slot) ∷ []) (put told_1) next.0 next.1) in
        subst (λ (v : View D). EndsDraw held v (record view { device = device; cache = cache }) file number) same (record {
          content = next.2.content;
          shows = shows;
          latest = λ f found. subst (λ (x : Frame). x.dirty ≡ false → x.block ≡ next.2.content) (some_is F f (sym entry ∙ found)) next.2.latest;
          fine = shows-fine (home_of view file number) next.2.content (held device) cached.within shows;
          rests = subst (λ (v : View D). KeepsRest v.label (held v.device) (held device)) (sym same) (rests told);
        })

    -- the body of a draw was written
    pub drawn_body : (cache : CacheView) → SetsEntry view.cache cache file number (record F { dirty = false; phase = Written })
        → IsBlock F.block → length (block_text F.block) ≡ BLOCK_BYTES → F.phase ≡ Settled → (IsTrue (tells first) → Put (1 + file) (held first) (held device) (slot_at (block_pair file number) (1 - F.slot)) (block_text F.block))
        → (landed next : Contents) → IsTrue (tells now.device) → Holds held now landed next → (f : Frame) → entry_at now.cache file number ≡ Some f → Holds held (record view { device = device; cache = cache }) landed (with_content next file number f.block)
    drawn_body cache sets valid long settled put landed next told holds f found =
        let told' = told_first told in
        subst (λ (f : Frame). Holds held (record view { device = device; cache = cache }) landed (with_content next file number f.block)) (frame_is f found)
        (body_ok held view device cache landed next file number F is.label cached.within (others_view told') entry (put_view (slot_at (block_pair file number) (1 - F.slot)) (block_text F.block) (put told')) long (record { valid = valid; home = cached.home }) settled sets (holds_view landed next holds))

    pub undrawn_body : length (block_text F.block) ≡ BLOCK_BYTES → F.phase ≡ Settled → (IsTrue (tells first) → Left (1 + file) (held first) (held device) (slot_at (block_pair file number) (1 - F.slot)) (block_text F.block))
        → (landed next : Contents) → IsTrue (tells now.device) → Holds held now landed next → Holds held (record view { device = device }) landed next
    undrawn_body long settled left landed next told holds =
        let told' = told_first told in
        body_err held view device view.cache landed next file number F is.label cached.within (others_view told') entry (left_view (slot_at (block_pair file number) (1 - F.slot)) (block_text F.block) (left told')) long settled (holds_view landed next holds)

    -- the selector of a draw was written
    pub drawn_select : (cache : CacheView) → SetsEntry view.cache cache file number (record F { phase = Settled; slot = 1 - F.slot }) → IsUnderWay F.phase
        → (IsTrue (tells first) → Put (1 + file) (held first) (held device) number ((1 - F.slot) ∷ []))
        → (landed next : Contents) → IsTrue (tells now.device) → Holds held now landed next → Holds held (record view { device = device; cache = cache }) (with_content landed file number (next file number)) next
    drawn_select cache sets under_way put landed next told holds =
        let told' = told_first told in
        select_ok held view device cache landed next file number F is.label cached.within (others_view told') entry (put_view number ((1 - F.slot) ∷ []) (put told')) under_way sets (holds_view landed next holds)

    pub undrawn_select : (cache : CacheView) → SetsEntry view.cache cache file number (record F { phase = Offered }) → IsUnderWay F.phase
        → (IsTrue (tells first) → Left (1 + file) (held first) (held device) number ((1 - F.slot) ∷ []))
        → (landed next : Contents) → IsTrue (tells now.device) → Holds held now landed next → Holds held (record view { device = device; cache = cache }) landed next
    undrawn_select cache sets under_way left landed next told holds =
        let told' = told_first told in
        select_err held view device cache landed next file number F is.label cached.within (others_view told') entry (left_view number ((1 - F.slot) ∷ []) (left told')) under_way sets (holds_view landed next holds)
