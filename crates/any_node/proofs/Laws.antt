-- The laws over every history.
use Rattle.std.proofs.Common.{inr, ◌≡◌, ◌≢◌, ◌⊎◌, ℕ, ◌+◌, ◌≤◌, ◌<◌, List, [], ◌∷◌, ◌++◌, Option, Some, None, slice_get, refl, ap, sym, ◌∙◌, subst, ⊎_elim, inl, arith}
use Rattle.chronicle.specs.Histories.{states_after}
use Rattle.any_node.specs.Layout.{Layout, Equality}
use Rattle.any_node.specs.Value.{AuditRecord, Ending, Among, Each, on, hit, redo, folded, own, last_start}
use Rattle.any_node.specs.Node.{IsFree, State, Disc, node, makes, start_of, Backed}
use Rattle.any_node.specs.Node.State.{disc}
use Rattle.any_node.specs.Node.Fact.{Floor}
use Rattle.any_node.specs.Fold.{acts, Fit, Step, After, steps}
use Rattle.any_node.specs.Stands.{Image, VolumeStandsFor}
use Rattle.any_node.specs.Attempts.{LiveLaw, PresentLaw}
use Rattle.any_node.specs.Law.{CrashLaw, RollforwardLaw, SerialLaw, PurgeLaw}
use Rattle.any_node.specs.Opening.{IsOpening}
use Rattle.any_node.specs.Shows.{content}
use Rattle.any_node.proofs.Parts.{True, started_here, floor_here}
use Rattle.any_node.proofs.Dumps.{IsSound, floor_below, up_to_it, up_to_start}
use Rattle.any_node.proofs.Lists.{some≢none, some_is, same_or, each_left, among_or}
use Rattle.any_node.proofs.Chains.{Runs, Back, waiting}
use Rattle.any_node.proofs.Folds.{landed}
use Rattle.any_node.proofs.Whole.{IsNowhere}
use Rattle.any_node.proofs.Deep.{deep_opening}
use Rattle.any_node.proofs.Serial.{Serves, serves_at, served}
use Rattle.any_node.proofs.Serving.{untouched, AllServed, served_after, serving_landed}
use Rattle.any_node.proofs.Stand.{deep, inv, parts, covers, idle, folds, base_is, after_is, fits}
use Rattle.any_node.proofs.Devices.{stands, epochs}

pub crash_law : (N : Layout) → CrashLaw N
crash_law N ss i m log mons j o history shown =
    let ps = parts N ss i m log o history in
    let z = ps.of_monitor in
    let list = shown.list z.0 z.1 z.2 in
    record {
      room = fits N ss i m log o history z.0 z.1 z.2 mons list.0;
      epochs = λ d has.
          (let s = ps.discs d has in
          let t = ps.trails d has in
          let u = ps.dumps d has in
          let rows = shown.audit t.0 t.1 t.2 in
          subst (λ (us : List (AuditRecord N)). Each (λ r. N.epoch_of r.tx ≤ last_start 0 j.list) us) (ap (λ n. own n rows.0) (sym s.3) ∙ sym (rows.2 d (sym t.3)))
          (epochs N ss i m log o history z.0 z.1 z.2 mons list.0 s.0 t.0 u.0 s.1 t.1 u.1 s.2 t.2 u.2 (t.3 ∙ ap N.trail_of s.3) (sym s.3 ∙ u.3) rows.0 rows.1 j.list list.1));
      volumes = λ d has.
          (let s = ps.discs d has in
          let t = ps.trails d has in
          let u = ps.dumps d has in
          let rows = shown.audit t.0 t.1 t.2 in
          subst (λ (n : ℕ). VolumeStandsFor n (j.audit n) (j.volume n) (j.dump n) j.list (After log mons m)) (sym s.3)
          (subst (λ (us : List (AuditRecord N)). VolumeStandsFor s.1.number us (j.volume s.1.number) (j.dump s.1.number) j.list (After log mons m)) (sym (rows.2 s.1.number (ap N.trail_of (sym s.3) ∙ sym t.3)))
          (stands N ss i m log o history z.0 z.1 z.2 mons list.0 s.0 t.0 u.0 s.1 t.1 u.1 s.2 t.2 u.2 (t.3 ∙ ap N.trail_of s.3) (sym s.3 ∙ u.3) rows.0 rows.1 j.list list.1
          (j.volume s.1.number) (j.dump s.1.number) (shown.lost s.0 s.1 s.2) (shown.volumes s.0 s.1 s.2) (shown.dumps s.0 u.0 s.1 u.1 s.2 u.2 (sym s.3 ∙ u.3)))));
    }

pub rollforward_law : (N : Layout) → RollforwardLaw N
rollforward_law N ss i m log o history q r s u at at_u same n l c label =
    let end = states_after (node N) ss log in
    let d = deep N ss i m log o history in
    let v = inv N ss i m log o history in
    let x : IsSound N (True N end) s.number n l c = subst (λ (y : ℕ). IsSound N (True N end) y n l c) (sym same) ((d.dumps r u at_u).sound n l c label) in
    let begun = started_here N end v.apart q s at n l x.0 in
    record {
      quiet = ((d.volumes q s at).begun n l begun).0;
      blocks = λ k here.
          (let copy = x.2 k here in
          let a = x.3 (N.block_of (k)) copy.0 copy.1 in
          let y : ℕ = a.1.0 in
          let one : y ≡ l = (d.volumes q s at).alone n y l (started_here N end v.apart q s at n y a.1.1) begun in
          (copy.0, (let le : y ≤ copy.0 + 1 = a.1.2 in omega (arith, one, le)), a.0, λ j on_it e. ap (λ (b : Option ℕ). elim b [ None ↦ None | Some p ↦ content s p j ]) (ap c e ∙ copy.1)));
    }

pub runs_left : (N : Layout) (rs : List (AuditRecord N)) (xs ys : List (Ending N)) (v : Option N.Val) → Runs N rs (xs ++ ys) v → Runs N rs xs v
runs_left N rs [] ys v h = tt
runs_left N rs (x ∷ xs) ys v h = (h.0, runs_left N rs xs ys (redo (hit x) v rs) h.1)

-- what is served at the opening
first_served : (N : Layout) (ss : List (State N)) (i : Image N) (m : N.Key → Option N.Val) → IsOpening ss i m → AllServed N ss []
first_served N ss i m o q r s w at at_w = record {
  live = λ t k here live fine un. inl refl;
  done = λ k here. subst (λ (us : List (Ending N)). Serves (λ t. acts {N = N} k t []) (on k s.made) us (s.base k)) (sym (o.mons r w at_w).1) tt;
}

pub serial_law : (N : Layout) → SerialLaw N
serial_law N ss i m log xs ys x z u o history at_u all c =
    let end = states_after (node N) ss log in
    let d = deep N ss i m log o history in
    let v = inv N ss i m log o history in
    let served_all : AllServed N end log = served_after N ss [] log history (deep_opening N ss i m o) (first_served N ss i m o) in
    let whole : List (Ending N) = u.landed ++ u.offered in
    let backed : Each (Backed N (True N end)) xs = each_left (Backed N (True N end)) xs (x ∷ ys) (subst (λ (us : List (Ending N)). Each (Backed N (True N end)) us) all (v.mons z u at_u).backed) in
    let runs : (q : ℕ) (s : Disc N) → slice_get end q ≡ Some (disc s) → (k : N.Key) → N.disc_of k ≡ s.number → Runs N (on k s.made) xs (m k) = λ q s at k here.
    subst (λ (b : Option N.Val). Runs N (on k s.made) xs b) (base_is N ss i m log o history q s at k here)
    (runs_left N (on k s.made) xs (x ∷ ys) (s.base k) (subst (λ (us : List (Ending N)). Runs N (on k s.made) us (s.base k)) all (landed N end v q z s u at at_u (d.whole.stacked q s at) (d.whole.fine q z s u at at_u) k).0)) in
    let fit : (k : N.Key) → (c : Option N.Val) × Fit (After log xs m k) (acts k x.tx log) c = λ k. ⊎_elim
    (λ (has : Among N.discs (N.disc_of k)).
    (let s = covers N ss i m log o history k has in
    let after_is : After log xs m k ≡ folded (on k s.1.made) xs (s.1.base k) = (folds N ss i m log o history xs backed runs).0 s.0 s.1 s.2 k s.3 ∙ ap (λ b. folded (on k s.1.made) xs b) (sym (base_is N ss i m log o history s.0 s.1 s.2 k s.3)) in
    let serves : Serves (λ t. acts k t log) (on k s.1.made) (xs ++ x ∷ ys) (s.1.base k) = subst (λ (us : List (Ending N)). Serves (λ t. acts k t log) (on k s.1.made) us (s.1.base k)) all (serving_landed N end log d.whole s.0 z s.1 u s.2 at_u (served_all s.0 z s.1 u s.2 at_u) k s.3).0 in (
      redo (hit x) (folded (on k s.1.made) xs (s.1.base k)) (on k s.1.made),
      subst (λ (b : Option N.Val). Fit b (acts k x.tx log) (redo (hit x) (folded (on k s.1.made) xs (s.1.base k)) (on k s.1.made))) (sym after_is)
          (serves_at (λ t. acts k t log) (on k s.1.made) xs x ys (s.1.base k) serves c),
    )))
    (λ (gone : IsNowhere N k). (After log xs m k, subst (λ (us : List (Step N)). Fit (After log xs m k) us (After log xs m k)) (sym (idle N ss i m log o history k x.tx gone)) refl))
    (among_or (N.disc_of k) N.discs) in
    served (steps x.tx log) (After log xs m) (λ k. (fit k).0) (λ k. (fit k).1)

pub purge_law : (N : Layout) → PurgeLaw N
purge_law N ss i m log o history q p r s t u at at_t at_u same x has of lt =
    let end = states_after (node N) ss log in
    let d = deep N ss i m log o history in
    let v = inv N ss i m log o history in
    let b = (v.trails p t at_t).floors x has lt in
    let floor : makes N (disc s) (Floor s.number b.0) = floor_here N end v.apart q s at b.0 (subst (λ (n : ℕ). True N end (Floor n b.0)) of b.1) in
    let below : x.1.position < b.0 = b.2 in (
      (λ there l low. ⊎_elim
          (λ (e : l ≡ s.low). (let le : b.0 ≤ s.low = (floor.1 there).0 in omega (arith, below, le, e)))
          (λ (e : s.lowering ≡ Some l). (let le : b.0 ≤ l = up_to_it s.lowering l b.0 e (floor.1 there).1 in omega (arith, below, le)))
          low),
      (λ l label. (let le : b.0 ≤ start_of l = floor_below s u b.0 l (d.pairs q r s u at at_u same) floor.2 floor.3 label in omega (arith, below, le))),
      (λ n e. (let le : b.0 ≤ n = up_to_it s.rest n b.0 e floor.2 in omega (arith, below, le))),
      (λ n l e. (let le : b.0 ≤ l = up_to_start s.way n l b.0 e floor.3 in omega (arith, below, le))),
    )

pub live_law : (N : Layout) → LiveLaw N
live_law N ss i m log o history q z s u at at_u k here =
    let end = states_after (node N) ss log in
    let d = deep N ss i m log o history in
    let is : After log u.landed m k ≡ folded (on k s.made) u.landed (s.base k) = after_is N ss i m log o history z u at_u u.landed (inl refl) q s at k here in
    let all : AllServed N end log = served_after N ss [] log history (deep_opening N ss i m o) (first_served N ss i m o) in (
      (λ free. sym (is ∙ subst (λ (us : List (AuditRecord N)). Back N (folded (on k s.made) u.landed (s.base k)) us (s.map k)) (ap (λ h. waiting u.landed s.left k h) free) ((d.whole.fine q z s u at at_u).chain k))),
      (λ t live fine un.
          (let either = (all q z s u at at_u).live t k here live fine un in (
            (λ free. subst (λ (v : Option N.Val). Fit v (acts k t log) (s.map k)) (sym is)
                (⊎_elim
                (λ (none : acts k t log ≡ []). subst (λ (us : List (Step N)). Fit (folded (on k s.made) u.landed (s.base k)) us (s.map k)) (sym none) (untouched N end log d.whole q z s u at at_u (all q z s u at at_u) t k here live fine un free none))
                (λ (y : (s.held k ≡ Some t) × Fit (folded (on k s.made) u.landed (s.base k)) (acts k t log) (s.map k)). y.1)
                either)),
            (λ held. ⊎_elim (λ (none : acts k t log ≡ []). none) (λ (y : (s.held k ≡ Some t) × Fit (folded (on k s.made) u.landed (s.base k)) (acts k t log) (s.map k)). absurd (held (inr y.0))) either),
          ))),
    )

-- free for a transaction or not
free_or : {T : Type 0} (E : Equality T) (t : T) (h : Option T) → IsFree h t ⊎ (IsFree h t → ⊥)
free_or E t None = inl (inl refl)
free_or E t (Some x) = ⊎_elim
    (λ (e : x ≡ t). inl (inr (ap (λ y. Some y) e)))
    (λ (n : x ≢ t). inr (λ f. ⊎_elim (λ (e : Some x ≡ None). some≢none x e) (λ (e : Some x ≡ Some t). n (some_is x t e)) f))
    (same_or E x t)

pub present_law : (N : Layout) → PresentLaw N
present_law N ss i m log o history z u at_u t live un =
    let fit : (k : N.Key) → (c : Option N.Val) × Fit (After log u.landed m k) (acts k t log) c = λ k. ⊎_elim
    (λ (has : Among N.discs (N.disc_of k)).
    (let s = covers N ss i m log o history k has in
    let l = live s.0 s.1 s.2 in
    let law = (live_law N ss i m log o history s.0 z s.1 u s.2 at_u k s.3).1 t l.0 l.1 un in
    ⊎_elim
    (λ (free : IsFree (s.1.held k) t). (s.1.map k, law.0 free))
    (λ (held : IsFree (s.1.held k) t → ⊥). (After log u.landed m k, subst (λ (us : List (Step N)). Fit (After log u.landed m k) us (After log u.landed m k)) (sym (law.1 held)) refl))
    (free_or N.txs t (s.1.held k))))
    (λ (gone : IsNowhere N k). (After log u.landed m k, subst (λ (us : List (Step N)). Fit (After log u.landed m k) us (After log u.landed m k)) (sym (idle N ss i m log o history k t gone)) refl))
    (among_or (N.disc_of k) N.discs) in
    served (steps t log) (After log u.landed m) (λ k. (fit k).0) (λ k. (fit k).1)
