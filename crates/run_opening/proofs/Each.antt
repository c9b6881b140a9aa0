-- The devices that were opened so far, one by one.
use Rattle.std.proofs.Common.{◌≡◌, ℕ, zero, suc, ◌<◌, ◌≤◌, List, [], ◌∷◌, ◌++◌, length, Some, sym, subst, ap, ◌∙◌, arith, ⊎_elim, length-append}
use Rattle.std.specs.Prelude.{slice_get}
use Rattle.std.proofs.lemmas.Bool.{cases_lt}
use Rattle.std.proofs.lemmas.Option.{slice_get_within}
use Rattle.disk_model.specs.declared.disk.Disk as disk
use Rattle.tmf_model.specs.declared.config.Config.{Config}
use Rattle.run_outcomes.specs.Attaching.{IsFit}
use Rattle.run_outcomes.specs.Devices.{TellUpTo, dump_device, held_by, volume_device}
use Rattle.run_opening.specs.Kept.{low_kept}
use Rattle.run_opening.specs.Lasts.{next_at}
use Rattle.run_opening.specs.Opening.{AreFitBelow, AreOpenedSoFar, HasSeen, IsKeptAmong, IsReachedIn}
use Rattle.run_opening.specs.declared.kept.Kept.{Kept}
use Rattle.run_opening.specs.declared.kept.Kept.TheVariants as kept
use Rattle.run_opening.specs.declared.lasts.Lasts.{Lasts}
use Rattle.run_opening.proofs.Lists.{get_front, get_push, item_same}

no_item : {A : Type 0} (n : ℕ) (x : A) → slice_get [] n ≡ Some x → ⊥
no_item zero x e = cc
no_item (suc n) x e = cc

module _ {D : Type 0} (kind : disk.Ghosts D) (config : Config) where
  pub none_opened : (epoch : ℕ) (named : List ℕ) (old : List D) (kept_ : List (Kept D)) → kept_ ≡ [] → AreOpenedSoFar kind config epoch named old kept_
  none_opened epoch named old kept_ none = record {
    each = λ n device k at is. absurd (no_item n k (subst (λ (xs : List (Kept D)). slice_get xs n ≡ Some k) none is));
    fit = λ n lt tell. (let empty : length kept_ ≡ 0 = ap length none in absurd (omega (arith, lt, empty)));
  }

  pub none_seen : (old : List D) (lasts : Lasts) → ((disc : ℕ) → next_at lasts disc ≡ 0) → HasSeen kind config old 0 lasts
  none_seen old lasts none = record {
    seen = λ volume low line device audit is lt at tells spells. absurd (omega (arith, lt));
    unseen = λ volume line is le. none volume;
  }

  pub fits_at : (epoch : ℕ) (named : List ℕ) (old : List D) (kept_ : List (Kept D)) (number : ℕ) → length kept_ ≡ number → AreOpenedSoFar kind config epoch named old kept_ → AreFitBelow kind config epoch named number old
  fits_at epoch named old kept_ number count so_far = subst (λ (n : ℕ). AreFitBelow kind config epoch named n old) count so_far.fit

  -- what was kept before stands there still
  low_before : (kept_ : List (Kept D)) (k : Kept D) (n volume low : ℕ) → n ≤ length kept_ → n ≡ dump_device volume → low_kept (slice_get (kept_ ++ k ∷ []) (volume_device volume)) ≡ Some low
      → low_kept (slice_get kept_ (volume_device volume)) ≡ Some low
  low_before kept_ k n volume low le place is_low = ap low_kept (sym (get_front kept_ (k ∷ []) (volume_device volume) (omega (arith, le, place)))) ∙ is_low

  low_behind : (kept_ : List (Kept D)) (k : Kept D) (n volume low : ℕ) → n ≤ length kept_ → n ≡ dump_device volume → low_kept (slice_get kept_ (volume_device volume)) ≡ Some low
      → low_kept (slice_get (kept_ ++ k ∷ []) (volume_device volume)) ≡ Some low
  low_behind kept_ k n volume low le place is_low = ap low_kept (get_front kept_ (k ∷ []) (volume_device volume) (omega (arith, le, place))) ∙ is_low

  reached_more : (kept_ : List (Kept D)) (k : Kept D) (n : ℕ) (x : Kept D) → n ≤ length kept_ → IsReachedIn kind config kept_ n x → IsReachedIn kind config (kept_ ++ k ∷ []) n x
  reached_more kept_ k n (kept.Dump file) le is = λ volume place. (let low = is volume place in (low.0, low_behind kept_ k n volume low.0 le place low.1, low.2))
  reached_more kept_ k n (kept.Idle left) le is = λ volume low declared place is_low. is volume low declared place (low_before kept_ k n volume low le place is_low)
  reached_more kept_ k n (kept.Monitor m) le is = tt
  reached_more kept_ k n (kept.Audit a) le is = tt
  reached_more kept_ k n (kept.Volume blocks) le is = tt

  -- one more was opened, and is fit
  module _ (epoch : ℕ) (named : List ℕ) (old : List D) (kept_ : List (Kept D)) (number : ℕ) (device : D) (k : Kept D) (count : length kept_ ≡ number) (at : slice_get old number ≡ Some device)
      (so_far : AreOpenedSoFar kind config epoch named old kept_) (is : IsKeptAmong kind config epoch named old kept_ number device k) where
    among_more : (n : ℕ) (d : D) (x : Kept D) → n ≤ length kept_ → IsKeptAmong kind config epoch named old kept_ n d x → IsKeptAmong kind config epoch named old (kept_ ++ k ∷ []) n d x
    among_more n d x le among = (among.0, among.1, reached_more kept_ k n x le among.2)

    same_among : (n : ℕ) (d : D) (x : Kept D) → n ≡ number → device ≡ d → k ≡ x → IsKeptAmong kind config epoch named old (kept_ ++ k ∷ []) n d x
    same_among n d x place one same =
        subst (λ (m : ℕ). IsKeptAmong kind config epoch named old (kept_ ++ k ∷ []) m d x) (sym place) (subst (λ (y : D). IsKeptAmong kind config epoch named old (kept_ ++ k ∷ []) number y x) one
        (subst (λ (y : Kept D). IsKeptAmong kind config epoch named old (kept_ ++ k ∷ []) number device y) same (among_more number device k (omega (arith, count)) is)))

    pub one_more : (TellUpTo kind number old → IsFit config epoch named (held_by kind old) number) → AreOpenedSoFar kind config epoch named old (kept_ ++ k ∷ [])
    one_more fit = record {
      each = λ n d x here there.
          ⊎_elim (λ was. (let within = slice_get_within kept_ n x was in among_more n d x (omega (arith, within)) (so_far.each n d x here was)))
          (λ new.
          let place : n ≡ number = new.0 ∙ count in
          same_among n d x place (item_same (slice_get old number) device d at (subst (λ (m : ℕ). slice_get old m ≡ Some d) place here)) new.1)
          (get_push kept_ x k n there);
      fit = λ n lt tell.
          ⊎_elim (λ (before : n < length kept_). so_far.fit n before tell)
          (λ (le : length kept_ ≤ n).
          let long = length-append kept_ (k ∷ []) in
          let place : number ≡ n = omega (arith, lt, long, le, count) in
          subst (λ (m : ℕ). IsFit config epoch named (held_by kind old) m) place (fit (subst (λ (m : ℕ). TellUpTo kind m old) (sym place) tell)))
          (cases_lt n (length kept_));
    }
