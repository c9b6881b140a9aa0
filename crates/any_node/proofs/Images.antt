-- What images of a trail, the monitor and a volume come to.
use Rattle.std.proofs.Common.{◌≡◌, ◌≢◌, ◌⊎◌, ℕ, zero, suc, ◌+◌, ◌≤◌, ◌<◌, Bool, true, false, List, [], ◌∷◌, ◌++◌, length, Option, Some, slice_get, refl, ap, sym, ◌∙◌, subst, ⊎_elim, inl, inr, arith, append_assoc, append-nil, length-append}
use mathlib.Core.List.{IsPrefix}
use Rattle.any_node.specs.Layout.{Layout}
use Rattle.any_node.specs.Value.{AuditRecord, Ending, Among, Each, closes, on, own, up_to, commits, undo, redo, value, folded, latest}
use Rattle.any_node.specs.Node.{Disc, Trail, Monitor, State, Event, Backed, IsQuiet, IsClean}
use Rattle.any_node.specs.Opening.{AreFrom}
use Rattle.any_node.specs.Shows.{ShowsCloses}
use Rattle.any_node.specs.Node.State.{disc, trail, monitor}
use Rattle.any_node.specs.Node.Fact.{Enlisted, Decided}
use Rattle.any_node.proofs.Lists.{prefix_shorter, is_false, each_map, each_left, each_right, each_from, each_at, no_front, same_rest, among_left, among_right}
use Rattle.any_node.proofs.Values.{Ends, Linked, linked_at, on-append, on_each, on_none, on_among, image, redo-append, redo_none, redo_same, commits_or, commits_find, folded-append, settle}
use Rattle.any_node.proofs.Positions.{from_left, from_right, from_least, from_most, cut, up_to_cut}
use Rattle.any_node.proofs.Facts.{own-append}
use Rattle.any_node.proofs.Parts.{True, clash, among_decided, epoch_decided, epoch_enlisted, closed_here, made_here, durable_here}
use Rattle.any_node.proofs.Discs.{IsGood}
use Rattle.any_node.proofs.Monitors.{ends}
use Rattle.any_node.proofs.Invariant.{Inv}
use Rattle.any_node.proofs.Quiet.{IsRun, IsDone}
use Rattle.any_node.proofs.Evens.{even_more}
use Rattle.any_node.proofs.Deep.{Deep}

-- the base is the content at a quiet position, or what a later record found
volume_image : {N : Layout} (b base : Option N.Val) (P xs late : List (AuditRecord N)) (before mons : List (Ending N)) → latest base P ≡ redo (commits mons) base P → (xs ≡ [] → b ≡ latest base P) → Linked base (P ++ (xs ++ late)) →
    Each (λ r. commits before r.tx ≡ false) xs → Each (λ r. commits mons r.tx ≡ false) late → value b xs (before ++ mons) ≡ redo (commits mons) base (P ++ (xs ++ late))
volume_image b base P [] late before mons even none linked then gone =
    none refl ∙ even ∙ sym (redo-append (commits mons) base P late ∙ redo_none (commits mons) (redo (commits mons) base P) late gone)
volume_image b base P (r ∷ rs) late before mons even none linked then gone =
    redo_same (commits (before ++ mons)) (commits mons) r.before (r ∷ rs) (each_map (λ x. commits before x.tx ≡ false) (λ x. commits (before ++ mons) x.tx ≡ commits mons x.tx) (r ∷ rs) (λ x e. commits_or before mons x.tx e) then)
    ∙ ap (λ v. redo (commits mons) v (r ∷ rs)) (linked_at base P r (rs ++ late) linked ∙ even)
    ∙ sym (redo-append (commits mons) base P ((r ∷ rs) ++ late) ∙ redo-append (commits mons) (redo (commits mons) base P) (r ∷ rs) late ∙ redo_none (commits mons) (redo (commits mons) (redo (commits mons) base P) (r ∷ rs)) late gone)

module _ (N : Layout) where
  -- of an epoch before this one
  abbrev pub IsOld : N.Tx → Type 0
  IsOld t = N.epoch_of t < N.epoch

  module _ (ss : List (State N)) (inv : Inv N ss) where
    pub backed_shown : (r : ℕ) (m : Monitor N) → slice_get ss r ≡ Some (monitor m) → (mons : List (Ending N)) → ShowsCloses m mons → Each (Backed N (True N ss)) mons
    backed_shown r m at mons shows =
        ⊎_elim
        (λ (e : mons ≡ m.landed). subst (λ (xs : List (Ending N)). Each (Backed N (True N ss)) xs) (sym e) (each_left (Backed N (True N ss)) m.landed m.offered (inv.mons r m at).backed))
        (λ (e : mons ≡ m.landed ++ m.offered). subst (λ (xs : List (Ending N)). Each (Backed N (True N ss)) xs) (sym e) (inv.mons r m at).backed)
        shows

    pub old_list : (xs : List (Ending N)) (u : N.Tx) → Each (λ x. IsOld x.tx) xs → N.epoch_of u ≡ N.epoch → commits xs u ≡ false
    old_list xs u h e = is_false (commits xs u) (λ c. (let found = commits_find (λ x. IsOld x.tx) xs u h c in let lt : N.epoch_of found.0.tx < N.epoch = found.2 in let same : N.epoch_of u ≡ N.epoch_of found.0.tx = ap N.epoch_of found.4 in omega (arith, lt, same, e)))

    pub new_list : (xs : List (Ending N)) (u : N.Tx) → Each (Backed N (True N ss)) xs → IsOld u → commits xs u ≡ false
    new_list xs u h e = is_false (commits xs u) (λ c. (let found = commits_find (Backed N (True N ss)) xs u h c in let this : N.epoch_of found.0.tx ≡ N.epoch = epoch_decided N ss inv.apart found.0.tx found.0.commit found.2.0 found.2.1 in let same : N.epoch_of u ≡ N.epoch_of found.0.tx = ap N.epoch_of found.4 in omega (arith, e, same, this)))

    module _ (q p r : ℕ) (s : Disc N) (t : Trail N) (m : Monitor N) (at : slice_get ss q ≡ Some (disc s)) (at_t : slice_get ss p ≡ Some (trail t)) (at_m : slice_get ss r ≡ Some (monitor m)) (here : t.number ≡ N.trail_of s.number) (same : t.first s.number ≡ s.first) where
      good : IsGood (True N ss) s
      good = inv.discs q s at

      -- what an image of the trail lacks is not committed
      pub late_is_not : (mons : List (Ending N)) → Each (Backed N (True N ss)) mons → (front rest : List (AuditRecord N)) → s.made ≡ front ++ rest → length (own s.number t.landed) ≤ length front → Each (λ x. commits mons x.tx ≡ false) rest
      late_is_not mons backed front rest is long =
          each_from (λ x. commits mons x.tx ≡ false) rest (λ y has. is_false (commits mons y.tx) (λ e.
          let found = commits_find (Backed N (True N ss)) mons y.tx backed e in
          let x : Ending N = found.0 in
          let close : True N ss (Decided x.tx true found.2.0) = subst (λ (c : Bool). True N ss (Decided x.tx c found.2.0)) found.3 found.2.1 in
          let all : Each (λ z. True N ss (Enlisted z.tx s.number)) (front ++ rest) = subst (λ (vs : List (AuditRecord N)). Each (λ z. True N ss (Enlisted z.tx s.number)) vs) is good.listed in
          let listed : True N ss (Enlisted y.tx s.number) = each_at (λ z. True N ss (Enlisted z.tx s.number)) rest y (each_right (λ z. True N ss (Enlisted z.tx s.number)) front rest all) has in
          let listed_x : True N ss (Enlisted x.tx s.number) = subst (λ (u : N.Tx). True N ss (Enlisted u s.number)) found.4 listed in
          let in_it : Among found.2.0 s.number = among_decided N ss inv.apart x.tx s.number x.commit found.2.0 listed_x found.2.1 in
          let shut = found.2.2 found.3 s.number in_it in
          let last : s.last x.tx ≡ shut.0 = (closed_here N ss inv.apart q s at x.tx shut.0 shut.1).1 in
          let kept : shut.0 < t.first s.number + length (own s.number t.landed) = durable_here N ss inv.apart p t at_t s.number shut.0 here shut.2 in
          let fine : s.undone x.tx ≡ false = is_false (s.undone x.tx) (λ u. clash N ss inv.apart x.tx found.2.0 (good.backed x.tx u).0 close (good.backed x.tx u).1) in
          let in_made : Among s.made y = subst (λ (vs : List (AuditRecord N)). Among vs y) (sym is) (among_right front rest y has) in
          let up : y.position ≤ s.last x.tx = good.behind x.tx fine y in_made found.4 in
          let from : AreFrom s.first (front ++ rest) = subst (λ (vs : List (AuditRecord N)). AreFrom s.first vs) is good.numbered in
          let low : s.first + length front ≤ y.position = each_at (λ z. s.first + length front ≤ z.position) rest y (from_least (s.first + length front) rest (from_right s.first front rest from)) has in
          omega (arith, last, kept, up, low, long, same)))

      -- the records of an image are a front of those made
      front_of : IsPrefix (own s.number (t.landed ++ t.offered)) s.made
      front_of = pick (own s.number (t.landed ++ t.offered)) (λ some. (let x = (inv.trails p t at_t).spelled s.number some in (made_here N ss inv.apart q s at x.0 (own s.number (t.landed ++ t.offered)) x.1).0)) where
        pick : (xs : List (AuditRecord N)) → (xs ≢ [] → IsPrefix xs s.made) → IsPrefix xs s.made
        pick [] h = (s.made, refl)
        pick (x ∷ xs) h = h (λ e. cc (e))

      pub front_spelled : (rows : List (ℕ × AuditRecord N)) → (rows ≡ t.landed) ⊎ (rows ≡ t.landed ++ t.offered) → (rest : List (AuditRecord N)) × (s.made ≡ own s.number rows ++ rest) × (length (own s.number t.landed) ≤ length (own s.number rows))
      front_spelled rows shows =
          let f = front_of in
          let parts : own s.number (t.landed ++ t.offered) ≡ own s.number t.landed ++ own s.number t.offered = own-append s.number t.landed t.offered in
          let size : length (own s.number t.landed ++ own s.number t.offered) ≡ length (own s.number t.landed) + length (own s.number t.offered) = length-append (own s.number t.landed) (own s.number t.offered) in
          ⊎_elim
          (λ (e : rows ≡ t.landed). (
            own s.number t.offered ++ f.0,
            sym f.1 ∙ ap (λ xs. xs ++ f.0) parts ∙ append_assoc (own s.number t.landed) (own s.number t.offered) f.0 ∙ ap (λ xs. own s.number xs ++ (own s.number t.offered ++ f.0)) (sym e),
            (let l : length (own s.number rows) ≡ length (own s.number t.landed) = ap (λ xs. length (own s.number xs)) e in omega (arith, l)),
          ))
          (λ (e : rows ≡ t.landed ++ t.offered). (
            f.0,
            sym f.1 ∙ ap (λ xs. own s.number xs ++ f.0) (sym e),
            (let l : length (own s.number rows) ≡ length (own s.number t.landed ++ own s.number t.offered) = ap (λ xs. length (own s.number xs)) e ∙ ap length parts in omega (arith, l, size)),
          ))
          shows

      pub whole_agree : (k : N.Key) (mons : List (Ending N)) → ShowsCloses m mons → redo (commits mons) (s.base k) (on k s.made) ≡ folded (on k s.made) mons (s.base k)
      whole_agree k mons shows =
          ⊎_elim
          (λ (e : mons ≡ m.landed). subst (λ (xs : List (Ending N)). redo (commits xs) (s.base k) (on k s.made) ≡ folded (on k s.made) xs (s.base k)) (sym e) (inv.agree q r s m at at_m k))
          (λ (e : mons ≡ m.landed ++ m.offered). subst (λ (xs : List (Ending N)). redo (commits xs) (s.base k) (on k s.made) ≡ folded (on k s.made) xs (s.base k)) (sym e)
          (settle (on k s.made) m.landed m.offered (s.base k) (ends_all m.offered (each_right (Backed N (True N ss)) m.landed m.offered (inv.mons r m at_m).backed) (inv.mons r m at_m).fresh)
          ∙ ap (λ v. folded (on k s.made) m.offered v) (inv.agree q r s m at at_m k)
          ∙ sym (folded-append (on k s.made) m.landed m.offered (s.base k))))
          shows
        where
          ends_all : (xs : List (Ending N)) → Each (Backed N (True N ss)) xs → Each (λ x. commits m.landed x.tx ≡ false) xs → Each (λ x. Ends x (on k s.made)) xs
          ends_all [] b f = tt
          ends_all (x ∷ xs) b f = (ends N ss inv.apart q r s m at at_m good k x b.0 f.0, ends_all xs b.1 f.1)

      -- a base of the opening, with the opening's records and an image's of this run
      pub opening_value : (k : N.Key) (b : Option N.Val) (earlier : List (AuditRecord N)) → value b earlier (closes m.before) ≡ s.base k → Each (λ x. IsOld x.tx) earlier → Each (λ x. IsOld x.tx) (closes m.before) →
          (front rest : List (AuditRecord N)) → s.made ≡ front ++ rest → length (own s.number t.landed) ≤ length front → (mons : List (Ending N)) → ShowsCloses m mons →
          value b (earlier ++ on k front) (closes m.before ++ mons) ≡ folded (on k s.made) mons (s.base k)
      opening_value k b earlier opens ago then front rest is long mons shows =
          let backed : Each (Backed N (True N ss)) mons = backed_shown r m at_m mons shows in
          let parts : on k s.made ≡ on k front ++ on k rest = ap (λ xs. on k xs) is ∙ on-append k front rest in
          let late : Each (λ x. commits mons x.tx ≡ false) (on k rest) = on_each (λ x. commits mons x.tx ≡ false) k rest (late_is_not mons backed front rest is long) in
          let first : undo (s.base k) (on k front ++ on k rest) ≡ s.base k = subst (λ (xs : List (AuditRecord N)). undo (s.base k) xs ≡ s.base k) parts (again (s.map k) (s.base k) (on k s.made) (good.first k)) in
          let now : Each (λ x. True N ss (Enlisted x.tx s.number)) front = each_left (λ x. True N ss (Enlisted x.tx s.number)) front rest (subst (λ (xs : List (AuditRecord N)). Each (λ x. True N ss (Enlisted x.tx s.number)) xs) is good.listed) in
          let new : Each (λ x. commits (closes m.before) x.tx ≡ false) (on k front) = on_each (λ x. commits (closes m.before) x.tx ≡ false) k front (each_map (λ x. True N ss (Enlisted x.tx s.number)) (λ x. commits (closes m.before) x.tx ≡ false) front (λ x e. old_list (closes m.before) x.tx then (epoch_enlisted N ss inv.apart x.tx s.number e)) now) in
          let ours : Each (λ x. commits mons x.tx ≡ false) earlier = each_map (λ x. IsOld x.tx) (λ x. commits mons x.tx ≡ false) earlier (λ x e. new_list mons x.tx backed e) ago in
          image b (s.base k) earlier (on k front) (on k rest) (closes m.before) mons opens first ours new late
          ∙ ap (λ xs. redo (commits mons) (s.base k) xs) (sym parts)
          ∙ whole_agree k mons shows
        where
          again : (v w : Option N.Val) (xs : List (AuditRecord N)) → undo v xs ≡ w → undo w xs ≡ w
          again v w [] e = refl
          again v w (x ∷ xs) e = e

      -- a content of this run: that of each block after some durable position, and the records from a durable quiet position on
      pub content_value : (log : List (ℕ × Event N)) → Deep N ss log → Each (λ x. IsOld x.tx) (closes m.before) → (k : N.Key) (l n : ℕ) →
          IsQuiet s l → s.first ≤ l → s.first ≤ n + 1 → IsClean s (N.block_of k) n l →
          (front rest : List (AuditRecord N)) → s.made ≡ front ++ rest → length (own s.number t.landed) ≤ length front → l ≤ s.first + length front → n < s.first + length front → (mons : List (Ending N)) → ShowsCloses m mons →
          (P : List (AuditRecord N)) × (kept : List (AuditRecord N)) × (front ≡ P ++ kept) × (s.first + length P ≡ l) × (value (latest (s.base k) (on k (up_to n s.made))) (on k kept) (closes m.before ++ mons) ≡ folded (on k s.made) mons (s.base k))
      content_value log deep then k l n quiet from_l from_n clean front rest is long to_l to_n mons shows =
          let run : IsRun N s = deep.runs q s at in
          let backed = backed_shown r m at_m mons shows in
          let c = cut s.first l front from_l to_l in
          let P : List (AuditRecord N) = c.0 in
          let kept : List (AuditRecord N) = c.1 in
          let f = cut s.first (n + 1) front from_n (omega (arith, to_n)) in
          let F : List (AuditRecord N) = f.0 in
          let whole_p : s.made ≡ P ++ (kept ++ rest) = is ∙ ap (λ xs. xs ++ rest) c.2 ∙ append_assoc P kept rest in
          let whole_f : s.made ≡ F ++ (f.1 ++ rest) = is ∙ ap (λ xs. xs ++ rest) f.2 ∙ append_assoc F f.1 rest in
          let num_p : AreFrom s.first (P ++ (kept ++ rest)) = subst (λ (xs : List (AuditRecord N)). AreFrom s.first xs) whole_p good.numbered in
          let num_f : AreFrom s.first (F ++ (f.1 ++ rest)) = subst (λ (xs : List (AuditRecord N)). AreFrom s.first xs) whole_f good.numbered in
          let below : Each (λ x. x.position < l) P = subst (λ (y : ℕ). Each (λ x. x.position < y) P) c.3 (from_most s.first P (from_left s.first P (kept ++ rest) num_p)) in
          let above : Each (λ x. l ≤ x.position) (kept ++ rest) = subst (λ (y : ℕ). Each (λ x. y ≤ x.position) (kept ++ rest)) c.3 (from_least (s.first + length P) (kept ++ rest) (from_right s.first P (kept ++ rest) num_p)) in
          let upto : up_to n s.made ≡ F = ap (λ xs. up_to n xs) whole_f ∙ up_to_cut s.first n F (f.1 ++ rest) num_f (sym f.3) in
          let parts : on k s.made ≡ on k P ++ (on k kept ++ on k rest) = ap (λ xs. on k xs) whole_p ∙ on-append k P (kept ++ rest) ∙ ap (λ xs. on k P ++ xs) (on-append k kept rest) in
          let beside : on k s.made ≡ on k P ++ on k (kept ++ rest) = ap (λ xs. on k xs) whole_p ∙ on-append k P (kept ++ rest) in
          let done : IsDone N s (on k P) (on k (kept ++ rest)) = λ x has.
          (let in_p : Among P x = on_among k P x has in
          let in_made : Among s.made x = subst (λ (xs : List (AuditRecord N)). Among xs x) (sym whole_p) (among_left P (kept ++ rest) x in_p) in
          let d = quiet.1 x in_made (each_at (λ y. y.position < l) P x below in_p) in (
            d.0,
            (λ u y in_r e.
                (let in_rest : Among (kept ++ rest) y = on_among k (kept ++ rest) y in_r in
                let lt : y.position < l = d.1 u y (subst (λ (xs : List (AuditRecord N)). Among xs y) (sym whole_p) (among_right P (kept ++ rest) y in_rest)) e in
                let le : l ≤ y.position = each_at (λ z. l ≤ z.position) (kept ++ rest) y above in_rest in
                omega (arith, lt, le))),
          )) in
          let even : latest (s.base k) (on k P) ≡ redo (commits mons) (s.base k) (on k P) = ⊎_elim
          (λ (e : mons ≡ m.landed). subst (λ (xs : List (Ending N)). latest (s.base k) (on k P) ≡ redo (commits xs) (s.base k) (on k P)) (sym e) (deep.evens q r s m at at_m k (on k P) (on k (kept ++ rest)) beside done))
          (λ (e : mons ≡ m.landed ++ m.offered). subst (λ (xs : List (Ending N)). latest (s.base k) (on k P) ≡ redo (commits xs) (s.base k) (on k P)) (sym e) (even_more N ss inv q r s m at at_m (deep.evens q r s m at at_m) k (on k P) (on k (kept ++ rest)) beside done))
          shows in
          let late : Each (λ x. commits mons x.tx ≡ false) (on k rest) = on_each (λ x. commits mons x.tx ≡ false) k rest (late_is_not mons backed front rest is long) in
          let now : Each (λ x. True N ss (Enlisted x.tx s.number)) front = each_left (λ x. True N ss (Enlisted x.tx s.number)) front rest (subst (λ (xs : List (AuditRecord N)). Each (λ x. True N ss (Enlisted x.tx s.number)) xs) is good.listed) in
          let now_kept : Each (λ x. True N ss (Enlisted x.tx s.number)) kept = each_right (λ x. True N ss (Enlisted x.tx s.number)) P kept (subst (λ (xs : List (AuditRecord N)). Each (λ x. True N ss (Enlisted x.tx s.number)) xs) c.2 now) in
          let new : Each (λ x. commits (closes m.before) x.tx ≡ false) (on k kept) = on_each (λ x. commits (closes m.before) x.tx ≡ false) k kept (each_map (λ x. True N ss (Enlisted x.tx s.number)) (λ x. commits (closes m.before) x.tx ≡ false) kept (λ x e. old_list (closes m.before) x.tx then (epoch_enlisted N ss inv.apart x.tx s.number e)) now_kept) in
          let none : on k kept ≡ [] → latest (s.base k) (on k F) ≡ latest (s.base k) (on k P) = λ empty. both_ways clean P F kept f.1 rest c.2 f.2 c.3 f.3 num_p empty whole_p in (
            P,
            kept,
            c.2,
            c.3,
            ap (λ xs. value (latest (s.base k) (on k xs)) (on k kept) (closes m.before ++ mons)) upto
                ∙ volume_image (latest (s.base k) (on k F)) (s.base k) (on k P) (on k kept) (on k rest) (closes m.before) mons even none (subst (λ (xs : List (AuditRecord N)). Linked (s.base k) xs) parts (run.linked k)) new late
                ∙ ap (λ xs. redo (commits mons) (s.base k) xs) (sym parts)
                ∙ whole_agree k mons shows,
          )
        where
          -- where the content has less than the low position, what lies between is of other blocks; where it has more, nothing of the key is kept
          both_ways : IsClean s (N.block_of k) n l → (P F kept more late : List (AuditRecord N)) → front ≡ P ++ kept → front ≡ F ++ more → s.first + length P ≡ l → s.first + length F ≡ n + 1 → AreFrom s.first (P ++ (kept ++ late)) → on k kept ≡ [] → s.made ≡ P ++ (kept ++ late) → latest (s.base k) (on k F) ≡ latest (s.base k) (on k P)
          both_ways away P F kept more late is_p is_f at_p at_f num_p empty whole_p = pick (longer (length P) (length F)) where
            longer : (a b : ℕ) → (a ≤ b) ⊎ (b ≤ a)
            longer zero b = inl (omega arith)
            longer (suc a) zero = inr (omega arith)
            longer (suc a) (suc b) = ⊎_elim (λ (x : a ≤ b). inl (omega (arith, x))) (λ (x : b ≤ a). inr (omega (arith, x))) (longer a b)

            pick : (length P ≤ length F) ⊎ (length F ≤ length P) → latest (s.base k) (on k F) ≡ latest (s.base k) (on k P)
            pick (inl size) =
                let pre : IsPrefix P F = prefix_shorter P F front (kept, sym is_p) (more, sym is_f) size in
                let tail : pre.0 ++ more ≡ kept = same_rest P (pre.0 ++ more) kept (sym (append_assoc P pre.0 more) ∙ ap (λ xs. xs ++ more) pre.1 ∙ sym is_f ∙ is_p) in
                let nothing : on k pre.0 ≡ [] = no_front (on k pre.0) (on k more) (sym (on-append k pre.0 more) ∙ ap (λ xs. on k xs) tail ∙ empty) in
                ap (λ xs. latest (s.base k) xs) (ap (λ xs. on k xs) (sym pre.1) ∙ on-append k P pre.0 ∙ ap (λ xs. on k P ++ xs) nothing ∙ append-nil (on k P))
            pick (inr size) =
                let pre : IsPrefix F P = prefix_shorter F P front (more, sym is_f) (kept, sym is_p) size in
                let num : AreFrom s.first P = from_left s.first P (kept ++ late) num_p in
                let split : AreFrom s.first (F ++ pre.0) = subst (λ (xs : List (AuditRecord N)). AreFrom s.first xs) (sym pre.1) num in
                let nothing : on k pre.0 ≡ [] = on_none k pre.0 (λ x has e.
                (let in_p : Among P x = subst (λ (xs : List (AuditRecord N)). Among xs x) pre.1 (among_right F pre.0 x has) in
                let lt : x.position < s.first + length P = each_at (λ y. y.position < s.first + length P) P x (from_most s.first P num) in_p in
                let ge : s.first + length F ≤ x.position = each_at (λ y. s.first + length F ≤ y.position) pre.0 x (from_least (s.first + length F) pre.0 (from_right s.first F pre.0 split)) has in
                away x (subst (λ (xs : List (AuditRecord N)). Among xs x) (sym whole_p) (among_left P (kept ++ late) x in_p)) (ap N.block_of e) (omega (arith, ge, at_f)) (omega (arith, lt, at_p)))) in
                ap (λ xs. latest (s.base k) xs) (sym (ap (λ xs. on k xs) (sym pre.1) ∙ on-append k F pre.0 ∙ ap (λ xs. on k F ++ xs) nothing ∙ append-nil (on k F)))
