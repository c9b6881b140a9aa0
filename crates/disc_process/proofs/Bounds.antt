-- The bounds in a table of transactions.
use Rattle.std.proofs.Common.{◌≡◌, ◌⊎◌, ℕ, ◌<◌, ◌≤◌, ◌&&◌, inl, inr, ⊎_elim, Bool, true, false, List, [], ◌∷◌, Option, Some, None, cond, refl, ap, sym, ◌∙◌, subst, arith}
use Rattle.std.specs.Prelude.{fold, nat_lt}
use Rattle.std.specs.List.{Contains}
use Rattle.std.specs.Map.{lookup, values_of}
use Rattle.std.specs.BTreeMap.{BTreeMap, IsOrdered, UpdatesBy, get, values}
use Rattle.std.specs.Option.{option_map}
use Rattle.std.specs.Ordering.{is_eq}
use Rattle.std.specs.Cmp.{IsTotalOrder}
use Rattle.std.proofs.lemmas.Cmp.{nat_cmp_total, on_total, then_total}
use Rattle.std.proofs.lemmas.List.Elements.{Contains-append_left, Contains-append_right, Contains-push}
use Rattle.std.proofs.lemmas.Map.Lookups.{CmpEqualImpliesEq}
use Rattle.std.proofs.lemmas.Map.Views.{btree_map_get_iff}
use Rattle.tmf_model.specs.declared.transid.Transid.{Transid}
use Rattle.trail_files.specs.MonitorOrder.{is_same_transid}
use Rattle.node_machine.specs.SameLaws.{same_is}
use Rattle.disc_process.specs.declared.live.Live.{Live}
use Rattle.disc_process.specs.declared.live.LiveTable.{LiveTable}
use Rattle.disc_process.specs.declared.live.Span.{Span}
use Rattle.disc_process.specs.Live.{lesser, lifted_live, live_in, live_of, tx_cmp}
use Rattle.disc_process.specs.LiveTx.{LiveTx, lifted_tx, nothing_done}
use Rattle.disc_process.proofs.Freeing.{none_lifted}
use Rattle.disc_process.proofs.Lives.{tx_at, written_live}

pub tx_cmp_total : IsTotalOrder tx_cmp
tx_cmp_total =
    then_total (on_total (λ (t : Transid). t.epoch) nat_cmp_total)
    (then_total (on_total (λ (t : Transid). t.worker) nat_cmp_total) (then_total (on_total (λ (t : Transid). t.ordinal) nat_cmp_total) (on_total (λ (t : Transid). t.attempt) nat_cmp_total)))

pub exact_tx : CmpEqualImpliesEq tx_cmp
exact_tx x y e = same_is x y (sym (tx_at x y) ∙ ap is_eq e)

lesser_below : (n : ℕ) (live : Live) → lesser n live ≤ n
lesser_below n live = of (nat_lt 0 live.span.first) (nat_lt live.span.bound n) refl
  where
    of : (a b : Bool) → nat_lt live.span.bound n ≡ b → cond (a && b) live.span.bound n ≤ n
    of true true e = grind (arith)
    of true false e = omega arith
    of false b e = omega arith

lesser_bound : (n : ℕ) (live : Live) → 0 < live.span.first → lesser n live ≤ live.span.bound
lesser_bound n live some = of (nat_lt 0 live.span.first) (nat_lt live.span.bound n) refl refl
  where
    of : (a b : Bool) → nat_lt 0 live.span.first ≡ a → nat_lt live.span.bound n ≡ b → cond (a && b) live.span.bound n ≤ live.span.bound
    of true true x y = omega arith
    of true false x y = grind (arith)
    of false b x y = grind (arith)

lesser_one : (n : ℕ) (live : Live) → (lesser n live ≡ n) ⊎ ((0 < live.span.first) × (lesser n live ≡ live.span.bound))
lesser_one n live = of (nat_lt 0 live.span.first) (nat_lt live.span.bound n) refl
  where
    above : nat_lt 0 live.span.first ≡ true → 0 < live.span.first
    above e = grind (arith)

    of : (a b : Bool) → nat_lt 0 live.span.first ≡ a → (cond (a && b) live.span.bound n ≡ n) ⊎ ((0 < live.span.first) × (cond (a && b) live.span.bound n ≡ live.span.bound))
    of true true e = inr (above e, refl)
    of true false e = inl refl
    of false b e = inl refl

pub fold_below : (n : ℕ) (vs : List Live) → fold lesser n vs ≤ n
fold_below n [] = omega arith
fold_below n (v ∷ vs) = (let rest = fold_below (lesser n v) vs in let one = lesser_below n v in omega (arith, rest, one))

pub fold_each : (n : ℕ) (es : List (Transid × Live)) (test : Transid → Bool) (v : Live) → lookup test es ≡ Some v → 0 < v.span.first → fold lesser n (values_of es) ≤ v.span.bound
fold_each n [] test v e some = absurd (cc (e))
fold_each n (x ∷ es) test v e some = of (test x.0) e (λ is. fold_each (lesser n x.1) es test v is some)
  where
    of : (b : Bool) → cond b (Some x.1) (lookup test es) ≡ Some v → (lookup test es ≡ Some v → fold lesser (lesser n x.1) (values_of es) ≤ v.span.bound) → fold lesser (lesser n x.1) (values_of es) ≤ v.span.bound
    of true is later =
        let same : x.1 ≡ v = cc (is) in
        let rest = fold_below (lesser n x.1) (values_of es) in
        let one = lesser_bound n x.1 (subst (λ (y : Live). 0 < y.span.first) (sym same) some) in
        let bound = ap (λ (y : Live). y.span.bound) same in
        omega (arith, rest, one, bound)
    of false is later = later is

pub fold_one : (n : ℕ) (es : List (Transid × Live)) → (fold lesser n (values_of es) ≡ n) ⊎ ((t : Transid) × (v : Live) × Contains es (t, v) × (0 < v.span.first) × (fold lesser n (values_of es) ≡ v.span.bound))
fold_one n [] = inl refl
fold_one n (x ∷ es) =
    ⊎_elim
    (λ (e : fold lesser (lesser n x.1) (values_of es) ≡ lesser n x.1).
    ⊎_elim
    (λ (same : lesser n x.1 ≡ n). inl (e ∙ same))
    (λ (here : (0 < x.1.span.first) × (lesser n x.1 ≡ x.1.span.bound)). inr (x.0, x.1, Contains-append_left (x ∷ []) es x (Contains-push [] x), here.0, e ∙ here.1))
    (lesser_one n x.1))
    (λ (there : (t : Transid) × (v : Live) × Contains es (t, v) × (0 < v.span.first) × (fold lesser (lesser n x.1) (values_of es) ≡ v.span.bound)). inr (there.0, there.1, Contains-append_right (x ∷ []) es (there.0, there.1) there.2, there.3, there.4))
    (fold_one (lesser n x.1) es)

-- the bound of a transaction of the table
pub table_one : (table : LiveTable) (n : ℕ) → IsOrdered tx_cmp table.live → (fold lesser n (values table.live) ≡ n) ⊎ ((t : Transid) × (0 < (live_of table t).span.first) × (fold lesser n (values table.live) ≡ (live_of table t).span.bound))
table_one table n ordered =
    ⊎_elim (λ e. inl e)
    (λ (x : (t : Transid) × (v : Live) × Contains table.live.entries (t, v) × (0 < v.span.first) × (fold lesser n (values table.live) ≡ v.span.bound)).
    (let at : get tx_cmp table.live x.0 ≡ Some x.1 = (btree_map_get_iff tx_cmp_total exact_tx table.live ordered x.0 x.1).1 x.2 in
    inr (x.0, subst (λ (o : Option Live). 0 < (live_in o).span.first) (sym at) x.3, x.4 ∙ ap (λ (o : Option Live). (live_in o).span.bound) (sym at))))
    (fold_one n table.live.entries)

pub table_each : (table : LiveTable) (n : ℕ) (t : Transid) → 0 < (live_of table t).span.first → fold lesser n (values table.live) ≤ (live_of table t).span.bound
table_each table n t some = of (get tx_cmp table.live t) refl
  where
    of : (o : Option Live) → get tx_cmp table.live t ≡ o → fold lesser n (values table.live) ≤ (live_of table t).span.bound
    of None e = (let none = ap (λ (x : Option Live). (live_in x).span.first) e in absurd (omega (arith, none, some)))
    of (Some v) e =
        let le = fold_each n table.live.entries (λ k. is_eq (tx_cmp t k)) v e (subst (λ (x : Option Live). 0 < (live_in x).span.first) e some) in
        let bound = ap (λ (x : Option Live). (live_in x).span.bound) e in
        omega (arith, le, bound)

lifted_in : (gone : Span) (o : Option Live) → live_in (option_map (lifted_live gone) o) ≡ lifted_tx gone (live_in o)
lifted_in gone None = sym (none_lifted gone)
lifted_in gone (Some v) = refl

-- after an entry was removed and the others were lifted
pub removed_live : (m mid n : BTreeMap Transid Live) (t : Transid) (gone : Span) → UpdatesBy tx_cmp (tx_cmp t) m mid None → ((test : Transid → Bool) → lookup test n.entries ≡ option_map (lifted_live gone) (lookup test mid.entries))
    → (u : Transid) → live_in (get tx_cmp n u) ≡ cond (is_same_transid t u) nothing_done (lifted_tx gone (live_in (get tx_cmp m u)))
removed_live m mid n t gone updates mapped u =
    ap live_in (mapped (λ k. is_eq (tx_cmp u k)))
    ∙ lifted_in gone (get tx_cmp mid u)
    ∙ ap (λ (o : Option Live). lifted_tx gone (live_in o)) (updates.0 u ∙ ap (λ b. cond b None (get tx_cmp m u)) (tx_at t u))
    ∙ of (is_same_transid t u)
  where
    of : (b : Bool) → lifted_tx gone (live_in (cond b None (get tx_cmp m u))) ≡ cond b nothing_done (lifted_tx gone (live_in (get tx_cmp m u)))
    of true = none_lifted gone
    of false = refl

-- after an entry was written, which changes what is kept of its transaction so
pub changed_live : (m n : BTreeMap Transid Live) (t : Transid) (w v : Live) (f : LiveTx → LiveTx) → get tx_cmp m t ≡ Some v → UpdatesBy tx_cmp (tx_cmp t) m n (Some w) → live_in (Some w) ≡ f (live_in (Some v))
    → (u : Transid) → live_in (get tx_cmp n u) ≡ cond (is_same_transid t u) (f (live_in (get tx_cmp m u))) (live_in (get tx_cmp m u))
changed_live m n t w v f at updates is u = written_live m n t w updates u ∙ of (is_same_transid t u) refl
  where
    of : (b : Bool) → is_same_transid t u ≡ b → cond b (live_in (Some w)) (live_in (get tx_cmp m u)) ≡ cond b (f (live_in (get tx_cmp m u))) (live_in (get tx_cmp m u))
    of true e = is ∙ ap (λ (o : Option Live). f (live_in o)) (sym at ∙ ap (get tx_cmp m) (same_is t u e))
    of false e = refl
