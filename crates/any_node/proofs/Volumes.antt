-- What holds of a disc's volume through a history: its low positions, the contents of its blocks, and the starts of its dumps.
use Rattle.std.proofs.Common.{◌≡◌, ◌≢◌, ◌⊎◌, ℕ, ◌+◌, ◌-◌, ◌≤◌, ◌<◌, Bool, true, false, List, [], ◌∷◌, ◌++◌, length, Option, Some, None, refl, ap, sym, ◌∙◌, subst, ⊎_elim, inl, inr, arith, length-append}
use Rattle.any_node.specs.Layout.{Layout, put}
use Rattle.any_node.specs.Value.{AuditRecord, Among}
use Rattle.any_node.specs.Node.{Disc, Event, Fact, allows_disc, asks_disc, step_disc, undoing, undo_record, next, IsQuiet, IsClean, told}
use Rattle.any_node.specs.Shows.{ShowsLow, ShowsBlock}
use Rattle.any_node.specs.Node.Event.{Write, Read, Lock, Turn, Dumping, Undo, Close, Release, Draw, Drawn, Low, Lowered, Start, Raise, Failed}
use Rattle.any_node.specs.Node.Fact.{Durable}
use Rattle.any_node.proofs.Lists.{put_at, put_else, some≢none, some_is, among_last, each_at}
use Rattle.any_node.proofs.Positions.{from_most}
use Rattle.any_node.proofs.Facts.{turn_cases}
use Rattle.any_node.proofs.Discs.{IsGood, OneClose, IsKnown, live_left}

module _ {N : Layout} where
  pub record IsVolume (T : Fact N → Type 0) (s : Disc N) : Type 0 where
    pub lows : (l : ℕ) → ShowsLow s l → IsQuiet s l × T (Durable s.number (l - 1)) × (s.first ≤ l)
    pub blocks : (b : N.Block) (n : ℕ) → ShowsBlock s b n → (n < next s) × T (Durable s.number n) × (s.first ≤ n + 1)
    pub covers : (b : N.Block) (n l : ℕ) → ShowsBlock s b n → ShowsLow s l → IsClean s b n l
    pub begun : (i l : ℕ) → Among s.starts (i, l) → IsQuiet s l × (s.first ≤ l)
    pub alone : (i l m : ℕ) → Among s.starts (i, l) → Among s.starts (i, m) → l ≡ m

  pub volume_more : (T U : Fact N → Type 0) (s : Disc N) → ((f : Fact N) → T f → U f) → IsVolume T s → IsVolume U s
  volume_more T U s up v = record {
    lows = λ l h. (let x = v.lows l h in (x.0, up (Durable s.number (l - 1)) x.1, x.2));
    blocks = λ b n h. (let x = v.blocks b n h in (x.0, up (Durable s.number n) x.1, x.2));
    covers = v.covers;
    begun = v.begun;
    alone = v.alone;
  }

  longer : (s : Disc N) (r : AuditRecord N) → s.first + length (s.made ++ r ∷ []) ≡ next s + 1
  longer s r = (let e : length (s.made ++ r ∷ []) ≡ length s.made + 1 = length-append s.made (r ∷ []) in omega (arith, e))

  -- still quiet with one more record
  quiet_add : (s : Disc N) (l : ℕ) (t : N.Tx) (r : AuditRecord N) (undone : N.Tx → Bool) → r.tx ≡ t → r.position ≡ next s → s.released t ≡ false → ((u : N.Tx) → u ≢ t → undone u ≡ true → s.undone u ≡ true) → IsQuiet s l →
      (l ≤ s.first + length (s.made ++ r ∷ [])) × ((x : AuditRecord N) → Among (s.made ++ r ∷ []) x → x.position < l → (s.released x.tx ≡ true) × (undone x.tx ≡ true → (y : AuditRecord N) → Among (s.made ++ r ∷ []) y → y.tx ≡ x.tx → y.position < l))
  quiet_add s l t r undone of at live down q = (
    (let e : s.first + length (s.made ++ r ∷ []) ≡ next s + 1 = longer s r in let le : l ≤ next s = q.0 in omega (arith, e, le)),
    (λ x has lt. ⊎_elim
        (λ (a : Among s.made x).
        (let d = q.1 x a lt in
        let n : x.tx ≢ t = (λ e. (let both : true ≡ false = sym d.0 ∙ ap s.released e ∙ live in cc (both))) in (
          d.0,
          (λ u y in_y e. ⊎_elim
              (λ (b : Among s.made y). d.1 (down x.tx n u) y b e)
              (λ (i : r ≡ y). absurd (n (sym e ∙ ap (λ (z : AuditRecord N). z.tx) (sym i) ∙ of)))
              (among_last s.made r y in_y)),
        )))
        (λ (i : r ≡ x). (let same : r.position ≡ x.position = ap (λ (z : AuditRecord N). z.position) i in let le : l ≤ next s = q.0 in absurd (omega (arith, same, at, le, lt))))
        (among_last s.made r x has)),
  )

  -- a new record does not stand below a low position
  clean_add : (s : Disc N) (b : N.Block) (n l : ℕ) (r : AuditRecord N) → r.position ≡ next s → l ≤ next s → IsClean s b n l → (x : AuditRecord N) → Among (s.made ++ r ∷ []) x → N.block_of x.key ≡ b → n < x.position → x.position < l → ⊥
  clean_add s b n l r at le c x has of lt to = ⊎_elim
      (λ (a : Among s.made x). c x a of lt to)
      (λ (i : r ≡ x). (let same : r.position ≡ x.position = ap (λ (z : AuditRecord N). z.position) i in omega (arith, same, at, le, to)))
      (among_last s.made r x has)

  -- one more record
  module _ (T : Fact N → Type 0) (s : Disc N) (t : N.Tx) (r : AuditRecord N) (of : r.tx ≡ t) (at : r.position ≡ next s) (live : s.released t ≡ false) (v : IsVolume T s) where
    add_blocks : (b : N.Block) (n : ℕ) → ShowsBlock s b n → (n < s.first + length (s.made ++ r ∷ [])) × T (Durable s.number n) × (s.first ≤ n + 1)
    add_blocks b n h = (let x = v.blocks b n h in let e : s.first + length (s.made ++ r ∷ []) ≡ next s + 1 = longer s r in let lt : n < next s = x.0 in (omega (arith, e, lt), x.1, x.2))

    add_covers : (b : N.Block) (n l : ℕ) → ShowsBlock s b n → ShowsLow s l → (x : AuditRecord N) → Among (s.made ++ r ∷ []) x → N.block_of x.key ≡ b → n < x.position → x.position < l → ⊥
    add_covers b n l h k = clean_add s b n l r at (v.lows l k).0.0 (v.covers b n l h k)

  told_block : (s : Disc N) (b : N.Block) → ShowsBlock s b (told (s.drawn b) (s.drawing b))
  told_block s b = pick (s.drawing b) refl where
    pick : (o : Option ℕ) → s.drawing b ≡ o → (told (s.drawn b) o ≡ s.drawn b) ⊎ (s.drawing b ≡ Some (told (s.drawn b) o))
    pick None e = inl refl
    pick (Some n) e = inr e

  told_low : (s : Disc N) → ShowsLow s (told s.low s.lowering)
  told_low s = pick s.lowering refl where
    pick : (o : Option ℕ) → s.lowering ≡ o → (told s.low o ≡ s.low) ⊎ (s.lowering ≡ Some (told s.low o))
    pick None e = inl refl
    pick (Some n) e = inr e

module _ (N : Layout) where
  -- each block that is there after Drawn was there before
  drawn_block : (s : Disc N) (b c : N.Block) (n : ℕ) → ShowsBlock (step_disc N s (Drawn b)) c n → ShowsBlock s c n
  drawn_block s b c n i = ⊎_elim (λ (e : n ≡ put N.blocks b (told (s.drawn b) (s.drawing b)) s.drawn c). landed_block e) (λ (e : put N.blocks b None s.drawing c ≡ Some n). under_block e) i
    where
      landed_block : n ≡ put N.blocks b (told (s.drawn b) (s.drawing b)) s.drawn c → ShowsBlock s c n
      landed_block = put_at N.blocks (λ x. n ≡ x → ShowsBlock s c n) b (told (s.drawn b) (s.drawing b)) s.drawn c
          (λ here e. subst (λ (x : ℕ). ShowsBlock s c x) (sym e) (subst (λ (j : N.Block). ShowsBlock s c (told (s.drawn j) (s.drawing j))) here (told_block s c)))
          (λ else e. inl e)

      under_block : put N.blocks b None s.drawing c ≡ Some n → ShowsBlock s c n
      under_block = put_at N.blocks (λ o. o ≡ Some n → ShowsBlock s c n) b None s.drawing c (λ here e. absurd (cc (e))) (λ else e. inr e)

  lowered : (s : Disc N) (l : ℕ) → (l ≡ told s.low s.lowering) ⊎ (◌≡◌ {A = Option ℕ} None (Some l)) → ShowsLow s l
  lowered s l h = ⊎_elim (λ (e : l ≡ told s.low s.lowering). subst (λ (x : ℕ). ShowsLow s x) (sym e) (told_low s)) (λ (e : ◌≡◌ {A = Option ℕ} None (Some l)). absurd (cc (e))) h

  draw_volume : (T : Fact N → Type 0) (s : Disc N) (b : N.Block) (n : ℕ) → allows_disc N s (Draw b n) → T (Durable s.number n) → IsGood T s → IsVolume T s → IsVolume T (step_disc N s (Draw b n))
  draw_volume T s b n may asked g v = record {
    lows = v.lows;
    blocks = λ c m h. ⊎_elim (λ (e : m ≡ s.drawn c). v.blocks c m (inl e)) (λ (e : put N.blocks b (Some n) s.drawing c ≡ Some m). new_block c m e) h;
    covers = λ c m l h k. ⊎_elim (λ (e : m ≡ s.drawn c). v.covers c m l (inl e) k) (λ (e : put N.blocks b (Some n) s.drawing c ≡ Some m). new_cover c m l e k) h;
    begun = v.begun;
    alone = v.alone;
  }
    where
      new_block : (c : N.Block) (m : ℕ) → put N.blocks b (Some n) s.drawing c ≡ Some m → (m < next s) × T (Durable s.number m) × (s.first ≤ m + 1)
      new_block c m = put_at N.blocks (λ o. o ≡ Some m → (m < next s) × T (Durable s.number m) × (s.first ≤ m + 1)) b (Some n) s.drawing c
          (λ here e.
          (let same : n ≡ m = some_is n m e in
          let r : AuditRecord N = may.2.0 in
          let at : r.position ≡ n = may.2.3 in
          let lt : r.position < next s = each_at (λ z. z.position < next s) s.made r (from_most s.first s.made g.numbered) may.2.1 in
          let low : s.first ≤ s.drawn b + 1 = (v.blocks b (s.drawn b) (inl refl)).2 in
          let rise : s.drawn b < n = may.1 in
          subst (λ (x : ℕ). (x < next s) × T (Durable s.number x) × (s.first ≤ x + 1)) same (omega (arith, at, lt), asked, omega (arith, low, rise))))
          (λ else e. v.blocks c m (inr e))

      new_cover : (c : N.Block) (m l : ℕ) → put N.blocks b (Some n) s.drawing c ≡ Some m → ShowsLow s l → IsClean s c m l
      new_cover c m l = put_at N.blocks (λ o. o ≡ Some m → ShowsLow s l → IsClean s c m l) b (Some n) s.drawing c
          (λ here e k x has of lt to. (let same : n ≡ m = some_is n m e in let le : x.position ≤ n = may.3 x has (of ∙ here) in omega (arith, same, le, lt)))
          (λ else e k. v.covers c m l (inr e) k)

  low_volume : (T : Fact N → Type 0) (s : Disc N) (by : N.By) (l : ℕ) → allows_disc N s (Low by l) → T (Durable s.number (l - 1)) → IsVolume T s → IsVolume T (step_disc N s (Low by l))
  low_volume T s by l may asked v = record {
    lows = λ m h. ⊎_elim (λ (e : m ≡ s.low). v.lows m (inl e))
        (λ (e : Some l ≡ Some m). (let up : s.low ≤ l = may.1 in let from : s.first ≤ s.low = (v.lows s.low (inl refl)).2 in subst (λ (x : ℕ). IsQuiet s x × T (Durable s.number (x - 1)) × (s.first ≤ x)) (some_is l m e) (may.2.0, asked, omega (arith, up, from)))) h;
    blocks = v.blocks;
    covers = λ b n m h k. ⊎_elim (λ (e : m ≡ s.low). v.covers b n m h (inl e))
        (λ (e : Some l ≡ Some m). subst (λ (x : ℕ). IsClean s b n x) (some_is l m e)
        (⊎_elim (λ (d : n ≡ s.drawn b). subst (λ (x : ℕ). IsClean s b x l) (sym d) (may.3 b).1) (λ (d : s.drawing b ≡ Some n). absurd (some≢none n (sym d ∙ (may.3 b).0))) h)) k;
    begun = v.begun;
    alone = v.alone;
  }

  start_volume : (T : Fact N → Type 0) (s : Disc N) (by : N.By) (i l : ℕ) → allows_disc N s (Start by i l) → IsVolume T s → IsVolume T (step_disc N s (Start by i l))
  start_volume T s by i l may v = record {
    lows = v.lows;
    blocks = v.blocks;
    covers = v.covers;
    begun = λ j m has. ⊎_elim (λ (e : (i, l) ≡ (j, m)). (let same : l ≡ m = ap (λ (y : ℕ × ℕ). y.1) e in let up : s.low ≤ l = may.1 in let from : s.first ≤ s.low = (v.lows s.low (inl refl)).2 in subst (λ (x : ℕ). IsQuiet s x × (s.first ≤ x)) same (may.2.0, omega (arith, up, from)))) (λ (h : Among s.starts (j, m)). v.begun j m h) has;
    alone = λ j m n a b. ⊎_elim
        (λ (e : (i, l) ≡ (j, m)). ⊎_elim
        (λ (f : (i, l) ≡ (j, n)). sym (ap (λ (y : ℕ × ℕ). y.1) e) ∙ ap (λ (y : ℕ × ℕ). y.1) f)
        (λ (h : Among s.starts (j, n)). absurd (may.3 n (subst (λ (x : ℕ). Among s.starts (x, n)) (sym (ap (λ (y : ℕ × ℕ). y.0) e)) h))) b)
        (λ (h : Among s.starts (j, m)). ⊎_elim
        (λ (f : (i, l) ≡ (j, n)). absurd (may.3 m (subst (λ (x : ℕ). Among s.starts (x, m)) (sym (ap (λ (y : ℕ × ℕ). y.0) f)) h)))
        (λ (g : Among s.starts (j, n)). v.alone j m n h g) b) a;
  }

  release_volume : (T : Fact N → Type 0) (s : Disc N) (t : N.Tx) → IsVolume T s → IsVolume T (step_disc N s (Release t))
  release_volume T s t v = record {
    lows = λ l h. (let x = v.lows l h in (still l x.0, x.1, x.2));
    blocks = v.blocks;
    covers = v.covers;
    begun = λ i l has. (let x = v.begun i l has in (still l x.0, x.1));
    alone = v.alone;
  }
    where
      still : (l : ℕ) → IsQuiet s l → IsQuiet (step_disc N s (Release t)) l
      still l q = (q.0, (λ r has lt. (put_at N.txs (λ b. b ≡ true) t true s.released r.tx (λ e. refl) (λ n. (q.1 r has lt).0), (q.1 r has lt).1)))

  pub volume_step : (T : Fact N → Type 0) (s : Disc N) (e : Event N) → OneClose T → IsKnown T → allows_disc N s e → asks_disc N T s e → IsGood T s → IsVolume T s → IsVolume T (step_disc N s e)
  volume_step T s (Write t r) clash known may asked g v = record {
    lows = λ l h. (let x = v.lows l h in (quiet_add s l t r s.undone may.2 may.7 may.0.2 (λ u n e. e) x.0, x.1, x.2));
    blocks = add_blocks T s t r may.2 may.7 may.0.2 v;
    covers = add_covers T s t r may.2 may.7 may.0.2 v;
    begun = λ i l has. (let x = v.begun i l has in (quiet_add s l t r s.undone may.2 may.7 may.0.2 (λ u n e. e) x.0, x.1));
    alone = v.alone;
  }
  volume_step T s (Undo t) clash known may asked g v =
      let live : s.released t ≡ false = live_left N T s clash known g t may.0 may.1 may.2 asked in
      let new : AuditRecord N = undo_record N t s may.0 in
      let down : (u : N.Tx) → u ≢ t → put N.txs t true s.undone u ≡ true → s.undone u ≡ true = (λ u n e. sym (put_else N.txs t true s.undone u n) ∙ e) in
      subst (λ (rs : List (AuditRecord N)). IsVolume T (undoing N t s rs)) (sym may.2)
      (record {
        lows = λ l h. (let x = v.lows l h in (quiet_add s l t new (put N.txs t true s.undone) refl refl live down x.0, x.1, x.2));
        blocks = add_blocks T s t new refl refl live v;
        covers = add_covers T s t new refl refl live v;
        begun = λ i l has. (let x = v.begun i l has in (quiet_add s l t new (put N.txs t true s.undone) refl refl live down x.0, x.1));
        alone = v.alone;
      })
  volume_step T s (Release t) clash known may asked g v = release_volume T s t v
  volume_step T s (Draw b n) clash known may asked g v = draw_volume T s b n may asked g v
  volume_step T s (Drawn b) clash known may asked g v = record { lows = v.lows; blocks = λ c n h. v.blocks c n (drawn_block s b c n h); covers = λ c n l h k. v.covers c n l (drawn_block s b c n h) k; begun = v.begun; alone = v.alone }
  volume_step T s (Low by l) clash known may asked g v = low_volume T s by l may asked v
  volume_step T s Lowered clash known may asked g v = record { lows = λ l h. v.lows l (lowered s l h); blocks = v.blocks; covers = λ b n l h k. v.covers b n l h (lowered s l k); begun = v.begun; alone = v.alone }
  volume_step T s (Start by i l) clash known may asked g v = start_volume T s by i l may v
  volume_step T s (Read t k w) clash known may asked g v = record { lows = v.lows; blocks = v.blocks; covers = v.covers; begun = v.begun; alone = v.alone }
  volume_step T s (Lock t f) clash known may asked g v = record { lows = v.lows; blocks = v.blocks; covers = v.covers; begun = v.begun; alone = v.alone }
  volume_step T s (Turn t why) clash known may asked g v = turn_cases N (λ z. IsVolume T z) t why s v (λ k. record { lows = v.lows; blocks = v.blocks; covers = v.covers; begun = v.begun; alone = v.alone })
  volume_step T s (Close t) clash known may asked g v = record { lows = v.lows; blocks = v.blocks; covers = v.covers; begun = v.begun; alone = v.alone }
  volume_step T s (Raise i r) clash known may asked g v = record { lows = v.lows; blocks = v.blocks; covers = v.covers; begun = v.begun; alone = v.alone }
  volume_step T s (Dumping by) clash known may asked g v = v
  volume_step T s (Failed by) clash known may asked g v = v
  volume_step T s _ clash known may asked g v = absurd may
