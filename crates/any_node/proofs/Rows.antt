-- Whole rows of audit: with any first part of the monitor's list they come to the fold over its commits.
use Rattle.std.proofs.Common.{◌≡◌, ◌≢◌, ℕ, ◌<◌, false, List, [], ◌∷◌, ◌++◌, Option, Some, None, slice_get, refl, ap, sym, ◌∙◌, subst, ⊎_elim, append-nil}
use Rattle.chronicle.specs.Histories.{next_states, states_after, IsHistory}
use Rattle.any_node.specs.Layout.{Layout}
use Rattle.any_node.specs.Value.{AuditRecord, Ending, Among, Each, closes, on, commits, undo, redo, value, folded}
use Rattle.any_node.specs.Node.{Disc, Monitor, State, Event, node, Backed, allows_disc, asks_disc, step_disc, step_monitor, undoing, undo_record}
use Rattle.any_node.specs.Node.State.{disc, monitor}
use Rattle.any_node.specs.Node.Event.{Write, Turn, Undo, OfferCar, Land}
use Rattle.any_node.specs.Node.Fact.{Enlisted}
use Rattle.any_node.specs.Law.{WholeLaw}
use Rattle.any_node.proofs.Lists.{same_or, each_left, each_right, each_map, two_cuts, or_left, no_front}
use Rattle.any_node.proofs.Values.{Ends, on_here, on_else, on-append, on_each, image, redo_more, folded_more, folded-append, settle, commits-append}
use Rattle.any_node.proofs.Facts.{turn_cases}
use Rattle.any_node.proofs.Parts.{True, may_of, asked_of, epoch_enlisted}
use Rattle.any_node.proofs.Discs.{IsGood}
use Rattle.any_node.proofs.Monitors.{uncommitted, not_both, ends}
use Rattle.any_node.proofs.Invariant.{Inv, inv_step, beside_monitor}
use Rattle.any_node.proofs.Chains.{Runs}
use Rattle.any_node.proofs.Folds.{landed}
use Rattle.any_node.proofs.Deep.{deep_opening}
use Rattle.any_node.proofs.Images.{old_list, new_list}
use Rattle.any_node.proofs.Stand.{deep, inv, ended, base_is, folds}
use Rattle.any_node.proofs.Laws.{runs_left}

module _ (N : Layout) where
  -- the disc's records with these commits come to their fold
  abbrev pub AgreesWith : Disc N → List (Ending N) → Type 0
  AgreesWith s xs = (k : N.Key) → redo (commits xs) (s.base k) (on k s.made) ≡ folded (on k s.made) xs (s.base k)

  -- and so with each first part of what has landed
  abbrev pub AgreesAll : Disc N → Monitor N → Type 0
  AgreesAll s m = (xs ys : List (Ending N)) → m.landed ≡ xs ++ ys → AgreesWith s xs

  front_not : (xs ys all : List (Ending N)) (t : N.Tx) → all ≡ xs ++ ys → commits all t ≡ false → commits xs t ≡ false
  front_not xs ys all t e un = or_left (commits xs t) (commits ys t) (sym (commits-append xs ys t) ∙ ap (λ us. commits us t) (sym e) ∙ un)

  add_one : (s : Disc N) (m : Monitor N) (r : AuditRecord N) → commits m.landed r.tx ≡ false → AgreesAll s m → (xs ys : List (Ending N)) → m.landed ≡ xs ++ ys → (k : N.Key) → redo (commits xs) (s.base k) (on k (s.made ++ r ∷ [])) ≡ folded (on k (s.made ++ r ∷ [])) xs (s.base k)
  add_one s m r un agree xs ys e k =
      let none : commits xs r.tx ≡ false = front_not xs ys m.landed r.tx e un in
      ⊎_elim
      (λ (i : r.key ≡ k). subst (λ (rs : List (AuditRecord N)). redo (commits xs) (s.base k) rs ≡ folded rs xs (s.base k)) (sym (on_here k s.made r i))
      (redo_more (commits xs) (on k s.made) r (s.base k) none ∙ agree xs ys e k ∙ sym (folded_more (on k s.made) r xs (s.base k) none)))
      (λ (n : r.key ≢ k). subst (λ (rs : List (AuditRecord N)). redo (commits xs) (s.base k) rs ≡ folded rs xs (s.base k)) (sym (on_else k s.made r n)) (agree xs ys e k))
      (same_or N.keys r.key k)

  module _ (ss : List (State N)) (v : Inv N ss) (q r : ℕ) (s : Disc N) (m : Monitor N) (at : slice_get ss q ≡ Some (disc s)) (at_m : slice_get ss r ≡ Some (monitor m)) (agree : AgreesAll s m) where
    landed_backed : Each (Backed N (True N ss)) m.landed
    landed_backed = each_left (Backed N (True N ss)) m.landed m.offered (v.mons r m at_m).backed

    all_disc : (e : Event N) → allows_disc N s e → asks_disc N (True N ss) s e → AgreesAll (step_disc N s e) m
    all_disc (Write t rec) may asked = add_one s m rec (uncommitted N ss v.apart q s at m.landed rec.tx landed_backed (subst (λ (u : N.Tx). True N ss (Enlisted u s.number)) (sym may.2) asked) (ap s.closed may.2 ∙ may.0.0)) agree
    all_disc (Undo t) may asked = subst (λ (rs : List (AuditRecord N)). AgreesAll (undoing N t s rs) m) (sym may.2) (add_one s m (undo_record N t s may.0) (not_both N ss v.apart m.landed t landed_backed asked.0 asked.1) agree)
    all_disc (Turn t why) may asked = turn_cases N (λ z. AgreesAll z m) t why s agree (λ k. agree)
    all_disc _ may asked = agree

    -- a first part of what has landed and is offered
    pub with_offered : (xs ys : List (Ending N)) → m.landed ++ m.offered ≡ xs ++ ys → AgreesWith s xs
    with_offered xs ys e k = ⊎_elim
        (λ (a : (U : List (Ending N)) × (xs ≡ m.landed ++ U) × (m.offered ≡ U ++ ys)).
        (let fair = v.mons r m at_m in
        let backed : Each (Backed N (True N ss)) a.0 = each_left (Backed N (True N ss)) a.0 ys (subst (λ (us : List (Ending N)). Each (Backed N (True N ss)) us) a.2 (each_right (Backed N (True N ss)) m.landed m.offered fair.backed)) in
        let fresh : Each (λ x. commits m.landed x.tx ≡ false) a.0 = each_left (λ x. commits m.landed x.tx ≡ false) a.0 ys (subst (λ (us : List (Ending N)). Each (λ x. commits m.landed x.tx ≡ false) us) a.2 fair.fresh) in
        subst (λ (us : List (Ending N)). redo (commits us) (s.base k) (on k s.made) ≡ folded (on k s.made) us (s.base k)) (sym a.1)
        (settle (on k s.made) m.landed a.0 (s.base k) (ends_all k a.0 backed fresh)
        ∙ ap (λ o. folded (on k s.made) a.0 o) (agree m.landed [] (sym (append-nil m.landed)) k)
        ∙ sym (folded-append (on k s.made) m.landed a.0 (s.base k)))))
        (λ (b : (x : Ending N) × (U : List (Ending N)) × (m.landed ≡ xs ++ x ∷ U) × (ys ≡ (x ∷ U) ++ m.offered)). agree xs (b.0 ∷ b.1) b.2 k)
        (two_cuts m.landed m.offered xs ys e)
      where
        ends_all : (k : N.Key) (xs : List (Ending N)) → Each (Backed N (True N ss)) xs → Each (λ x. commits m.landed x.tx ≡ false) xs → Each (λ x. Ends x (on k s.made)) xs
        ends_all k [] b f = tt
        ends_all k (x ∷ xs) b f = (ends N ss v.apart q r s m at at_m (v.discs q s at) k x b.0 f.0, ends_all k xs b.1 f.1)

    all_monitor : (e : Event N) → AgreesAll s (step_monitor N m e)
    all_monitor Land = with_offered
    all_monitor (OfferCar xs) = agree
    all_monitor _ = agree

  abbrev EachAgrees : List (State N) → Type 0
  EachAgrees ss = (q r : ℕ) (s : Disc N) (m : Monitor N) → slice_get ss q ≡ Some (disc s) → slice_get ss r ≡ Some (monitor m) → AgreesAll s m

  agrees_after : (ss : List (State N)) (log : List (ℕ × Event N)) → IsHistory (node N) ss log → Inv N ss → EachAgrees ss → EachAgrees (states_after (node N) ss log)
  agrees_after ss [] h v all = all
  agrees_after ss (x ∷ log) h v all = agrees_after (next_states (node N) ss x) log h.1 (inv_step N ss x h.0 v)
      (beside_monitor N (λ s m. AgreesAll s m) ss x h.0 all
      (λ q r s m at at_m is a. all_disc ss v q r s m at at_m a x.1 (may_of N ss x q (disc s) h.0 at is).1 (asked_of N ss x q (disc s) h.0 at is))
      (λ q r s m at at_m is a. all_monitor ss v q r s m at at_m a x.1))

  pub whole_law : WholeLaw N
  whole_law ss i m log row o ago opens history q z s u at at_u xs ys all k here =
      let end = states_after (node N) ss log in
      let v = inv N ss i m log o history in
      let d = deep N ss i m log o history in
      let agrees : EachAgrees end = agrees_after ss log history (deep_opening N ss i m o).whole.inv (λ q r s w at at_w xs ys e k.
      (let none : xs ≡ [] = no_front xs ys (sym e ∙ (o.mons r w at_w).1) in
      let no_made : on k s.made ≡ [] = ap (λ us. on k us) (o.discs q s at).made in
      subst (λ (rs : List (AuditRecord N)). redo (commits xs) (s.base k) rs ≡ folded rs xs (s.base k)) (sym no_made)
      (subst (λ (us : List (Ending N)). redo {N = N} (commits us) (s.base k) [] ≡ folded {N = N} [] us (s.base k)) (sym none) refl))) in
      let good : IsGood (True N end) s = v.discs q s at in
      let backed : Each (Backed N (True N end)) xs = each_left (Backed N (True N end)) xs ys (subst (λ (us : List (Ending N)). Each (Backed N (True N end)) us) all (v.mons z u at_u).backed) in
      let earlier : List (AuditRecord N) = on k (row s.number) in
      let base : s.base k ≡ m k = base_is N ss i m log o history q s at k here in
      let x = (ended N ss i m log o history).discs q s at in
      let listed : Among N.discs (N.disc_of k) = subst (λ (n : ℕ). Among N.discs n) (sym (here ∙ x.2)) (o.parts.listed q x.0 x.1) in
      let first : value None earlier (closes i.list) ≡ s.base k = ap (λ n. value None (on k (row n)) (closes i.list)) (sym here) ∙ opens k listed ∙ sym base in
      let now : Each (λ r. commits (closes i.list) r.tx ≡ false) (on k s.made) = on_each (λ r. commits (closes i.list) r.tx ≡ false) k s.made (each_map (λ r. True N end (Enlisted r.tx s.number)) (λ r. commits (closes i.list) r.tx ≡ false) s.made (λ r e. old_list N end v (closes i.list) r.tx o.list (epoch_enlisted N end v.apart r.tx s.number e)) good.listed) in
      let ours : Each (λ r. commits xs r.tx ≡ false) earlier = on_each (λ r. commits xs r.tx ≡ false) k (row s.number) (each_map (λ r. N.epoch_of r.tx < N.epoch) (λ r. commits xs r.tx ≡ false) (row s.number) (λ r e. new_list N end v xs r.tx backed e) (ago s.number)) in
      let runs : (q : ℕ) (s : Disc N) → slice_get end q ≡ Some (disc s) → (k : N.Key) → N.disc_of k ≡ s.number → Runs N (on k s.made) xs (m k) = λ q s at k here.
      subst (λ (b : Option N.Val). Runs N (on k s.made) xs b) (base_is N ss i m log o history q s at k here)
      (runs_left N (on k s.made) xs ys (s.base k) (subst (λ (us : List (Ending N)). Runs N (on k s.made) us (s.base k)) all (landed N end v q z s u at at_u (d.whole.stacked q s at) (d.whole.fine q z s u at at_u) k).0)) in
      ap (λ us. value None us (closes i.list ++ xs)) (on-append k (row s.number) s.made)
      ∙ image None (s.base k) earlier (on k s.made) [] (closes i.list) xs first (ap (λ us. undo (s.base k) us) (append-nil (on k s.made)) ∙ again (s.map k) (s.base k) (on k s.made) (good.first k)) ours now tt
      ∙ ap (λ us. redo (commits xs) (s.base k) us) (append-nil (on k s.made))
      ∙ with_offered end v q z s u at at_u (agrees q z s u at at_u) xs ys all k
      ∙ ap (λ b. folded (on k s.made) xs b) base
      ∙ sym ((folds N ss i m log o history xs backed runs).0 q s at k here)
    where
      again : (v w : Option N.Val) (xs : List (AuditRecord N)) → undo v xs ≡ w → undo w xs ≡ w
      again v w [] e = refl
      again v w (x ∷ xs) e = e
