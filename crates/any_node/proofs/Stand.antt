-- The images that a history shows stand for the fold.
use Rattle.std.proofs.Common.{◌≡◌, ◌≢◌, ℕ, ◌≤◌, Bool, true, false, cond, List, [], ◌∷◌, ◌++◌, Option, Some, None, slice_get, refl, ap, sym, ◌∙◌, subst, ⊎_elim, inl, inr, arith, zero-le}
use Rattle.chronicle.specs.Histories.{states_after, IsHistory}
use Rattle.any_node.specs.Layout.{Layout}
use Rattle.any_node.specs.Value.{AuditRecord, Ending, Entry, Among, Each, closes, entries, last_start, on, commits, folded}
use Rattle.any_node.specs.Node.{Disc, Monitor, State, Event, node, IsTaken, Backed}
use Rattle.any_node.specs.Fold.{acts, After}
use Rattle.any_node.specs.Stands.{Image, FitsRoom}
use Rattle.any_node.specs.Opening.{HasParts, DiscAt, IsOpening, AreInOrder}
use Rattle.any_node.specs.Shows.{ShowsCloses}
use Rattle.any_node.specs.Node.State.{disc, monitor}
use Rattle.any_node.specs.Value.Entry.{start, close}
use Rattle.any_node.proofs.Lists.{among_or, each_map}
use Rattle.any_node.proofs.Values.{Absent, on_among}
use Rattle.any_node.proofs.Parts.{True}
use Rattle.any_node.proofs.Invariant.{Inv}
use Rattle.any_node.proofs.Chains.{waiting, Back, Runs, IsFine}
use Rattle.any_node.proofs.Folds.{landed}
use Rattle.any_node.proofs.Whole.{IsNowhere, FoldIs, fold_is}
use Rattle.any_node.proofs.Serial.{nothing_written}
use Rattle.any_node.proofs.Serving.{idle_after}
use Rattle.any_node.proofs.Deep.{Deep, deep_after, deep_opening}
use Rattle.any_node.proofs.Rests.{Rests, rests, parts_after}
use Rattle.any_node.proofs.Images.{backed_shown}

module _ {N : Layout} where
  pub closes-append : (xs : List (Entry N)) (ms : List (Ending N)) → closes (xs ++ entries ms) ≡ closes xs ++ ms
  closes-append [] [] = refl
  closes-append [] (x ∷ ms) = ap (λ us. x ∷ us) (closes-append [] ms)
  closes-append (start e ∷ xs) ms = closes-append xs ms
  closes-append (close x ∷ xs) ms = ap (λ us. x ∷ us) (closes-append xs ms)

  pub last_start-append : (e : ℕ) (xs : List (Entry N)) (ms : List (Ending N)) → last_start e (xs ++ entries ms) ≡ last_start e xs
  last_start-append e [] [] = refl
  last_start-append e [] (x ∷ ms) = last_start-append e [] ms
  last_start-append e (start f ∷ xs) ms = last_start-append f xs ms
  last_start-append e (close x ∷ xs) ms = last_start-append e xs ms

  pub order_left : (f g : ℕ) (A B : List (ℕ × AuditRecord N)) → AreInOrder f (A ++ B) g → AreInOrder f A g
  order_left f g [] B a = least f g B a where
    least : (f g : ℕ) (us : List (ℕ × AuditRecord N)) → AreInOrder f us g → f ≤ g
    least f g [] a = a
    least f g (x ∷ us) a = (let le : x.0 ≤ g = least x.0 g us a.1 in omega (arith, a.0, le))
  order_left f g (x ∷ A) B a = (a.0, order_left x.0 g A B a.1)

  on_key : (k : N.Key) (rs : List (AuditRecord N)) (r : AuditRecord N) → Among (on k rs) r → r.key ≡ k
  on_key k [] r has = absurd has
  on_key k (x ∷ rs) r has = pick (N.keys.same x.key k) refl (on_key k rs r) has where
    pick : (b : Bool) → N.keys.same x.key k ≡ b → (Among (on k rs) r → r.key ≡ k) → Among (cond b (x ∷ on k rs) (on k rs)) r → r.key ≡ k
    pick true e rest h = ⊎_elim (λ (i : x ≡ r). ap (λ (z : AuditRecord N). z.key) (sym i) ∙ N.keys.equal x.key k e) (λ (t : Among (on k rs) r). rest t) h
    pick false e rest h = rest h

  -- what waits on a key is of its holder
  waiting_of : (xs : List (Ending N)) (left : N.Tx → List (AuditRecord N)) (k : N.Key) (o : Option N.Tx) (r : AuditRecord N) → Among (waiting xs left k o) r → (h : N.Tx) × (o ≡ Some h) × Among (on k (left h)) r
  waiting_of xs left k None r has = absurd has
  waiting_of xs left k (Some h) r has = (h, refl, pick (commits xs h) has) where
    pick : (b : Bool) → Among (cond b [] (on k (left h))) r → Among (on k (left h)) r
    pick true has = absurd has
    pick false has = has

module _ (N : Layout) (ss : List (State N)) (i : Image N) (m : N.Key → Option N.Val) (log : List (ℕ × Event N)) (o : IsOpening ss i m) (history : IsHistory (node N) ss log) where
  abbrev pub end : List (State N)
  end = states_after (node N) ss log

  pub deep : Deep N end log
  deep = deep_after N ss [] log history (deep_opening N ss i m o)

  pub inv : Inv N end
  inv = deep.whole.inv

  pub ended : Rests N ss end
  ended = rests N ss log

  pub parts : HasParts end
  parts = parts_after N ss log o.parts

  pub covers : (k : N.Key) → Among N.discs (N.disc_of k) → DiscAt end (N.disc_of k)
  covers k has = parts.discs (N.disc_of k) has

  pub idle : (k : N.Key) (t : N.Tx) → IsNowhere N k → acts k t log ≡ []
  idle = idle_after N ss [] log history o.parts (λ k t gone. refl)

  -- the fold by operations is that by records
  pub folds : (xs : List (Ending N)) → Each (Backed N (True N end)) xs → ((q : ℕ) (s : Disc N) → slice_get end q ≡ Some (disc s) → (k : N.Key) → N.disc_of k ≡ s.number → Runs N (on k s.made) xs (m k)) → FoldIs N end log xs m
  folds xs backed runs = fold_is N end log deep.whole parts.listed covers (λ k t gone. nothing_written k t log (idle k t gone)) xs m backed runs

  pub base_is : (q : ℕ) (s : Disc N) → slice_get end q ≡ Some (disc s) → (k : N.Key) → N.disc_of k ≡ s.number → s.base k ≡ m k
  base_is q s at k here = (let x = ended.discs q s at in ap (λ (b : N.Key → Option N.Val). b k) x.3 ∙ (o.discs q x.0 x.1).base k (here ∙ x.2))

  module _ (z : ℕ) (w : Monitor N) (at_w : slice_get end z ≡ Some (monitor w)) (mons : List (Ending N)) (shown : ShowsCloses w mons) where
    pub backed : Each (Backed N (True N end)) mons
    backed = backed_shown N end inv z w at_w mons shown

    -- each key's chain, where the monitor's image spells these
    chain : (q : ℕ) (s : Disc N) → slice_get end q ≡ Some (disc s) → (k : N.Key) → Runs N (on k s.made) mons (s.base k) × Back N (folded (on k s.made) mons (s.base k)) (waiting mons s.left k (s.held k)) (s.map k)
    chain q s at k =
        let f : IsFine N s w = deep.whole.fine q z s w at at_w in
        ⊎_elim
        (λ (e : mons ≡ w.landed). subst (λ (xs : List (Ending N)). Runs N (on k s.made) xs (s.base k) × Back N (folded (on k s.made) xs (s.base k)) (waiting xs s.left k (s.held k)) (s.map k)) (sym e) (f.runs k, f.chain k))
        (λ (e : mons ≡ w.landed ++ w.offered). subst (λ (xs : List (Ending N)). Runs N (on k s.made) xs (s.base k) × Back N (folded (on k s.made) xs (s.base k)) (waiting xs s.left k (s.held k)) (s.map k)) (sym e)
        (landed N end inv q z s w at at_w (deep.whole.stacked q s at) f k))
        shown

    fold : FoldIs N end log mons m
    fold = folds mons backed (λ p t at_t j there. subst (λ (v : Option N.Val). Runs N (on j t.made) mons v) (base_is p t at_t j there) (chain p t at_t j).0)

    -- each key of a disc by its records
    pub after_is : (q : ℕ) (s : Disc N) → slice_get end q ≡ Some (disc s) → (k : N.Key) → N.disc_of k ≡ s.number → After log mons m k ≡ folded (on k s.made) mons (s.base k)
    after_is q s at k here = fold.0 q s at k here ∙ ap (λ v. folded (on k s.made) mons v) (sym (base_is q s at k here))

    -- a key with a value after the fold has one now, or is held by writing
    pub taken : (q : ℕ) (s : Disc N) → slice_get end q ≡ Some (disc s) → (k : N.Key) → N.disc_of k ≡ s.number → After log mons m k ≢ None → IsTaken s k
    taken q s at k here some = pick (waiting mons s.left k (s.held k)) refl (chain q s at k).1 where
      pick : (ws : List (AuditRecord N)) → waiting mons s.left k (s.held k) ≡ ws → Back N (folded (on k s.made) mons (s.base k)) ws (s.map k) → IsTaken s k
      pick [] e b = inl (λ none. some (after_is q s at k here ∙ b ∙ none))
      pick (r ∷ ws) e b =
          let of = waiting_of mons s.left k (s.held k) r (subst (λ (us : List (AuditRecord N)). Among us r) (sym e) (inl refl)) in
          ⊎_elim
          (λ (gone : Absent of.0 (on k s.made)). absurd ((inv.discs q s at).stack of.0 r (on_among k (s.left of.0) r of.2) (subst (λ (j : N.Key). Absent of.0 (on j s.made)) (sym (on_key k (s.left of.0) r of.2)) gone)))
          (λ (w : s.written k ≡ true). inr w)
          ((deep.rooms q s at).writing k of.0 of.1)

    pub fits : FitsRoom N (After log mons m)
    fits b [] distinct each = zero-le
    fits b (k ∷ ks) distinct each =
        ⊎_elim
        (λ (has : Among N.discs (N.disc_of k)).
        (let c = covers k has in
        (deep.rooms c.0 c.1 c.2).fits k c.3 (k ∷ ks) distinct
        (each_map (λ j. (N.block_of j ≡ b) × (After log mons m j ≢ None)) (λ j. (N.block_of j ≡ N.block_of k) × IsTaken c.1 j) (k ∷ ks)
        (λ j h. (h.0 ∙ sym each.0.0, taken c.0 c.1 c.2 j (N.one_disc j k (h.0 ∙ sym each.0.0) ∙ c.3) h.1)) each)))
        (λ (gone : IsNowhere N k).
        o.stands.room b (k ∷ ks) distinct
        (each_map (λ j. (N.block_of j ≡ b) × (After log mons m j ≢ None)) (λ j. (N.block_of j ≡ b) × (m j ≢ None)) (k ∷ ks)
        (λ j h. (h.0, (λ e. h.1 (fold.1 j (λ has. gone (subst (λ (n : ℕ). Among N.discs n) (N.one_disc j k (h.0 ∙ sym each.0.0)) has)) ∙ e)))) each))
        (among_or (N.disc_of k) N.discs)
