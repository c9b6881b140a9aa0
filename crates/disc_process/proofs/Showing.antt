-- What the images of a volume show of its disc.
use Rattle.std.proofs.Common.{◌≡◌, ℕ, ◌<◌, inl, inr, is_some, true, List, Option, Some, None, refl, ap, sym, ◌∙◌, subst, arith}
use Rattle.disk_model.specs.Held.{Held, Leaves}
use Rattle.disk_model.specs.declared.disk.Disk as disk
use Rattle.tmf_model.specs.Config.{IsWithin}
use Rattle.tmf_model.specs.RecordMap.{RecordMap}
use Rattle.keyed_file.specs.Block.{KeyedBlock, value_at}
use Rattle.keyed_file.specs.LabelFormat.{IsLabel}
use Rattle.keyed_file.specs.Volume.{Contents, SpellsVolume, blocks_of as label_blocks}
use Rattle.block_cache.specs.declared.frame.Frame.{Frame}
use Rattle.block_cache.specs.declared.pair.PairPhase.{PairPhase}
use Rattle.block_cache.specs.declared.pair.PairPhase.TheVariants.{Settled, Written, Offered}
use Rattle.block_cache.specs.Blocks.{Holds, MayShow, MayShowContents, MayShowEntry, View, with_low}
use Rattle.block_cache.specs.Cache.{entry_at}
use Rattle.block_cache.specs.Shown.{shown_in, shown_low}
use Rattle.node_machine.specs.Made.{blocks_of, drawing, home_block, values_at, volume_of}
use Rattle.disc_process.specs.declared.moves.Moves.{Moves}
use Rattle.disc_process.specs.Blocks.{half_in}
use Rattle.disc_process.specs.Disc.{AreHomes, DiscView, HoldsValues, ToldBy, drawn_to}
use Rattle.disc_process.specs.Draws.{AreDrawn}
use Rattle.disc_process.specs.Moves.{HoldsMoves, low_in}
use Rattle.disc_process.specs.Shown.{IsShown, MayBeDrawn, MayBeLow, ShowsDisc}
use Rattle.disc_process.proofs.Telling.{told_by}

some_of : (o : Option ℕ) → is_some o ≡ true → (p : ℕ) × (o ≡ Some p)
some_of None e = absurd (cc (e))
some_of (Some p) e = (p, refl)

module _ {D : Type 0} (kind : disk.Ghosts D) (disc : DiscView D) (moves : Moves) (h : HoldsMoves moves disc.blocks disc.part) (homes : AreHomes disc.part) (draws : AreDrawn disc.part disc.blocks)
    (files : (f : ℕ) → volume_of disc.part.config f ≡ disc.part.number → label_blocks disc.blocks.label.files f ≡ blocks_of disc.part.config f) where
  low_shown : (low : ℕ) → MayShow disc.blocks.label_phase disc.blocks.label.low disc.blocks.next_low low → MayBeLow disc.part low
  low_shown low shows = of disc.blocks.label_phase refl shows
    where
      of : (x : PairPhase) → disc.blocks.label_phase ≡ x → MayShow x disc.blocks.label.low disc.blocks.next_low low → MayBeLow disc.part low
      of Settled e is = inl (is ∙ sym h.landed)
      of Written e is = inl (is ∙ sym h.landed)
      of Offered e (inl is) = inl (is ∙ sym h.landed)
      of Offered e (inr is) = inr (h.way ∙ ap (λ y. low_in y disc.blocks.next_low) e ∙ ap (λ (n : ℕ). Some n) (sym is))

  abbrev Shows : RecordMap → ℕ → ℕ → KeyedBlock → Type 0
  Shows base f n shown = (position : ℕ) × MayBeDrawn disc.part f n position × ((k : List ℕ) → home_block disc.part.config f k ≡ n → value_at shown k ≡ values_at base disc.part.events position f k)

  -- what is said of each key in its block is said of the block
  in_block : (base : RecordMap) (f n position : ℕ) (k : List ℕ) (contents : Contents) → home_block disc.part.config f k ≡ n
      → value_at (contents f (home_block disc.part.config f k)) k ≡ values_at base disc.part.events position f k → value_at (contents f n) k ≡ values_at base disc.part.events position f k
  in_block base f n position k contents home is = subst (λ (m : ℕ). value_at (contents f m) k ≡ values_at base disc.part.events position f k) home is

  block_shown : (base : RecordMap) (v : HoldsValues kind.tells kind.held disc.part disc.blocks base) (f n : ℕ) → volume_of disc.part.config f ≡ disc.part.number → n < 256 → (shown : KeyedBlock)
      → MayShowEntry (entry_at disc.blocks.cache f n) (v.landed f n) (v.next f n) shown → Shows base f n shown
  block_shown base v f n here few shown shows = of (entry_at disc.blocks.cache f n) refl shows
    where
      landed : shown ≡ v.landed f n → Shows base f n shown
      landed is = (
        drawn_to disc.part f n,
        inl refl,
        λ k home. ap (λ (b : KeyedBlock). value_at b k) is
            ∙ in_block base f n (drawn_to disc.part f n) k v.landed home (v.landed_is f k here ∙ ap (λ (m : ℕ). values_at base disc.part.events (drawn_to disc.part f m) f k) home),
      )

      next : (x : Frame) → entry_at disc.blocks.cache f n ≡ Some x → half_in (Some x) ≡ true → shown ≡ v.next f n → Shows base f n shown
      next x e half is =
          let way = some_of (drawing disc.part.events f n) ((draws f n few).half_is ∙ ap half_in e ∙ half) in (
            way.0,
            inr way.1,
            λ k home. ap (λ (b : KeyedBlock). value_at b k) is ∙ in_block base f n way.0 k v.next home (v.next_is f k way.0 here (ap (drawing disc.part.events f) home ∙ way.1)),
          )

      of_phase : (x : Frame) → entry_at disc.blocks.cache f n ≡ Some x → (y : PairPhase) → x.phase ≡ y → MayShow y (v.landed f n) (v.next f n) shown → Shows base f n shown
      of_phase x e Settled is says = landed says
      of_phase x e Written is says = landed says
      of_phase x e Offered is (inl says) = landed says
      of_phase x e Offered is (inr says) = next x e (ap (λ (y : PairPhase). half_in (Some (record x { phase = y }))) is) says

      of : (o : Option Frame) → entry_at disc.blocks.cache f n ≡ o → MayShowEntry o (v.landed f n) (v.next f n) shown → Shows base f n shown
      of None e says = landed says
      of (Some x) e says = of_phase x e x.phase refl says

  pub is_shown : IsLabel disc.blocks.label → IsWithin 1 4611686018427387904 disc.blocks.next_low
      → ((view : View D) (landed next : Contents) (image : Held) → IsLabel view.label → IsWithin 1 4611686018427387904 view.next_low → Holds kind.held view landed next → Leaves (kind.held view.device) image
      → SpellsVolume (with_low view.label (shown_low image view)) image (shown_in image view landed next))
      → ((view : View D) (landed next : Contents) (image : Held) → IsLabel view.label → IsWithin 1 4611686018427387904 view.next_low → Holds kind.held view landed next → Leaves (kind.held view.device) image
      → MayShowContents view landed next (shown_in image view landed next))
      → ((view : View D) (image : Held) → MayShow view.label_phase view.label.low view.next_low (shown_low image view))
      → ToldBy disc.part.base (HoldsValues kind.tells kind.held disc.part disc.blocks) → IsShown kind disc
  is_shown label next_low volume contents low values =
      told_by disc.part.base (HoldsValues kind.tells kind.held disc.part disc.blocks) (λ base. (image : Held) → Leaves (kind.held disc.blocks.device) image → ShowsDisc disc base image)
      (λ base v image leaves. record {
        low = shown_low image disc.blocks;
        low_is = low_shown (shown_low image disc.blocks) (low disc.blocks image);
        contents = shown_in image disc.blocks v.landed v.next;
        spells = volume disc.blocks v.landed v.next image label next_low v.holds leaves;
        values = λ f n here small.
            (let within : n < label_blocks disc.blocks.label.files f = subst (λ (b : ℕ). n < b) (sym (files f here)) small in
            let most = (homes f here).below in
            block_shown base v f n here (omega (arith, small, most)) (shown_in image disc.blocks v.landed v.next f n)
            (contents disc.blocks v.landed v.next image label next_low v.holds leaves f n within));
      }) values
