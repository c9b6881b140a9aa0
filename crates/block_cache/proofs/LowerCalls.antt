-- The calls that move a low position, as they see the blocks of a volume.
use Rattle.std.proofs.Common.{◌≡◌, ℕ, ◌-◌, ◌<◌, ◌≤◌, Bool, List, [], ◌∷◌, length, sym, ap, subst, ◌∙◌, arith}
use Rattle.std.specs.Prelude.{IsTrue}
use Rattle.disk_model.specs.Held.{Held, IsThere, Elsewhere}
use Rattle.tmf_model.specs.Config.{IsWithin}
use Rattle.trail_files.specs.Put.{Put, Left}
use Rattle.keyed_file.specs.LabelFormat.{label_text}
use Rattle.block_cache.specs.declared.pair.PairPhase.{PairPhase}
use Rattle.block_cache.specs.declared.pair.PairPhase.TheVariants.{Settled, Written, Offered}
use Rattle.block_cache.specs.Blocks.{View, IsBlocks, Holds, with_low}
use Rattle.keyed_file.specs.Layout.{label_pair, slot_at}
use Rattle.keyed_file.specs.Volume.{Contents}
use Rattle.block_cache.proofs.Holdings.{Grows, grows_put, grows_left}
use Rattle.block_cache.proofs.Lowering.{body_ok, body_err, select_ok, select_err, label_valid}
use Rattle.block_cache.proofs.Pairing.{IsUnderWay}

module _ {D : Type 0} (tells : D → Bool) (held : D → Held) (view now : View D) (same : view ≡ now) (first : D) (is_first : first ≡ view.device) (is : IsBlocks tells held view) where
  told_view : IsTrue (tells first) → IsTrue (tells view.device)
  told_view told = subst (λ (d : D). IsTrue (tells d)) is_first told

  told_first : IsTrue (tells now.device) → IsTrue (tells first)
  told_first told = subst (λ (d : D). IsTrue (tells d)) (ap (λ (v : View D). v.device) (sym same) ∙ sym is_first) told

  pub label_there : (at : ℕ) → at ≤ 768 → IsTrue (tells first) → IsThere (held first) 1 (λ f. at ≤ length f.bytes)
  label_there at le told = subst (λ (d : D). IsThere (held d) 1 (λ f. at ≤ length f.bytes)) (sym is_first)
      (let has = is.label_there (told_view told) in (has.0, has.1, omega (arith, has.2, le)))

  module _ (device : D) (telling : tells device ≡ tells first) (others : IsTrue (tells first) → Elsewhere 1 (held first) (held device)) where
    telling_view : tells device ≡ tells view.device
    telling_view = telling ∙ ap tells is_first

    grown : (IsTrue (tells first) → Grows (held first) (held device)) → IsTrue (tells view.device) → Grows (held view.device) (held device)
    grown grows told = subst (λ (d : D). Grows (held d) (held device)) is_first (grows (subst (λ (d : D). IsTrue (tells d)) (sym is_first) told))

    others_view : IsTrue (tells first) → Elsewhere 1 (held view.device) (held device)
    others_view told = subst (λ (d : D). Elsewhere 1 (held d) (held device)) is_first (others told)

    elsewhere : IsTrue (tells view.device) → Elsewhere 1 (held view.device) (held device)
    elsewhere told = others_view (subst (λ (d : D). IsTrue (tells d)) (sym is_first) told)

    -- each file but the label's is as it was
    pub others_now : IsTrue (tells now.device) → Elsewhere 1 (held now.device) (held device)
    others_now told = subst (λ (v : View D). Elsewhere 1 (held v.device) (held device)) same (others_view (told_first told))

    holds_view : (landed next : Contents) → Holds held now landed next → Holds held view landed next
    holds_view landed next holds = subst (λ (v : View D). Holds held v landed next) (sym same) holds

    pub put_valid : (at : ℕ) (text : List ℕ) → at ≤ 768 → (IsTrue (tells first) → Put 1 (held first) (held device) at text) → (low slot : ℕ) (phase : PairPhase) (next_low : ℕ) → IsWithin 1 4611686018427387904 low → slot < 2 → IsWithin 1 4611686018427387904 next_low
        → IsBlocks tells held (record view { device = device; label = with_low view.label low; label_slot = slot; label_phase = phase; next_low = next_low })
    put_valid at text le put low slot phase next_low = label_valid tells held view device low slot phase next_low is telling_view (grown (λ told. grows_put 1 at text (held first) (held device) (label_there at le told) (others told) (put told))) elsewhere

    pub left_valid : (at : ℕ) (text : List ℕ) → at ≤ 768 → (IsTrue (tells first) → Left 1 (held first) (held device) at text) → (low slot : ℕ) (phase : PairPhase) (next_low : ℕ) → IsWithin 1 4611686018427387904 low → slot < 2 → IsWithin 1 4611686018427387904 next_low
        → IsBlocks tells held (record view { device = device; label = with_low view.label low; label_slot = slot; label_phase = phase; next_low = next_low })
    left_valid at text le left low slot phase next_low = label_valid tells held view device low slot phase next_low is telling_view (grown (λ told. grows_left 1 at text (held first) (held device) (label_there at le told) (others told) (left told))) elsewhere

    module _ (landed next : Contents) (told : IsTrue (tells now.device)) (holds : Holds held now landed next) where
      put_view : (at : ℕ) (text : List ℕ) → (IsTrue (tells first) → Put 1 (held first) (held device) at text) → Put 1 (held view.device) (held device) at text
      put_view at text put = subst (λ (d : D). Put 1 (held d) (held device) at text) is_first (put (told_first told))

      left_view : (at : ℕ) (text : List ℕ) → (IsTrue (tells first) → Left 1 (held first) (held device) at text) → Left 1 (held view.device) (held device) at text
      left_view at text left = subst (λ (d : D). Left 1 (held d) (held device) at text) is_first (left (told_first told))

      pub body_put : (low : ℕ) → length (label_text (with_low view.label low)) ≡ 256 → view.label_phase ≡ Settled → (IsTrue (tells first) → Put 1 (held first) (held device) (slot_at label_pair (1 - view.label_slot)) (label_text (with_low view.label low)))
          → Holds held (record view { device = device; label_phase = Written; next_low = low }) landed next
      body_put low long settled put = body_ok held view device is.label (others_view (told_first told)) landed next (holds_view landed next holds) low (put_view (slot_at label_pair (1 - view.label_slot)) (label_text (with_low view.label low)) put) long settled

      pub body_left : (low : ℕ) → length (label_text (with_low view.label low)) ≡ 256 → view.label_phase ≡ Settled → (IsTrue (tells first) → Left 1 (held first) (held device) (slot_at label_pair (1 - view.label_slot)) (label_text (with_low view.label low)))
          → Holds held (record view { device = device }) landed next
      body_left low long settled left = body_err held view device is.label (others_view (told_first told)) landed next (holds_view landed next holds) low (left_view (slot_at label_pair (1 - view.label_slot)) (label_text (with_low view.label low)) left) long settled

      pub select_put : IsUnderWay view.label_phase → (IsTrue (tells first) → Put 1 (held first) (held device) 1 ((1 - view.label_slot) ∷ []))
          → Holds held (record view { device = device; label = with_low view.label view.next_low; label_slot = 1 - view.label_slot; label_phase = Settled }) landed next
      select_put under_way put = select_ok held view device is.label (others_view (told_first told)) landed next (holds_view landed next holds) (put_view 1 ((1 - view.label_slot) ∷ []) put) under_way

      pub select_left : IsUnderWay view.label_phase → (IsTrue (tells first) → Left 1 (held first) (held device) 1 ((1 - view.label_slot) ∷ []))
          → Holds held (record view { device = device; label_phase = Offered }) landed next
      select_left under_way left = select_err held view device is.label (others_view (told_first told)) landed next (holds_view landed next holds) (left_view 1 ((1 - view.label_slot) ∷ []) left) under_way
