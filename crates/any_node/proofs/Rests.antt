-- What no event changes: the parts, and what they were at the opening.
use Rattle.std.proofs.Common.{◌≡◌, ◌≢◌, ◌⊎◌, ℕ, true, false, List, [], ◌∷◌, Option, Some, None, slice_get, refl, ap, sym, ◌∙◌, subst, ⊎_elim, inl, inr}
use Rattle.chronicle.specs.Histories.{next_states, states_after}
use Rattle.any_node.specs.Layout.{Layout}
use Rattle.any_node.specs.Value.{Among}
use Rattle.any_node.specs.Node.{Disc, Trail, Monitor, Dump, Label, State, Event, node, step_disc, step_trail, step_monitor, step_dump, now_landed}
use Rattle.any_node.specs.Opening.{HasParts}
use Rattle.any_node.specs.Shows.{ShowsLabel}
use Rattle.any_node.specs.Node.State.{disc, trail, monitor, dump}
use Rattle.any_node.specs.Node.Label.{Found, Taken}
use Rattle.any_node.specs.Node.Event.{Copy, Seal, Sealed}
use Rattle.any_node.proofs.Lists.{some_is}
use Rattle.any_node.proofs.Parts.{goes_on, apart_step, disc_came, trail_came, monitor_came, dump_came, disc_number, disc_base, disc_first, disc_lost, trail_number, trail_first, trail_before, monitor_before, dump_number}

module _ (N : Layout) where
  pub record Rests (ss ts : List (State N)) : Type 0 where
    pub discs : (q : ℕ) (s : Disc N) → slice_get ts q ≡ Some (disc s) → (o : Disc N) × (slice_get ss q ≡ Some (disc o)) × (s.number ≡ o.number) × (s.base ≡ o.base) × (s.first ≡ o.first) × (s.lost ≡ o.lost)
    pub trails : (q : ℕ) (s : Trail N) → slice_get ts q ≡ Some (trail s) → (o : Trail N) × (slice_get ss q ≡ Some (trail o)) × (s.number ≡ o.number) × (s.before ≡ o.before) × (s.first ≡ o.first)
    pub mons : (q : ℕ) (s : Monitor N) → slice_get ts q ≡ Some (monitor s) → (o : Monitor N) × (slice_get ss q ≡ Some (monitor o)) × (s.before ≡ o.before)
    pub dumps : (q : ℕ) (s : Dump N) → slice_get ts q ≡ Some (dump s) → (o : Dump N) × (slice_get ss q ≡ Some (dump o)) × (s.number ≡ o.number) × ((p : ℕ) (v : N.Key → Option N.Val) → ShowsLabel s (Found p v) → ShowsLabel o (Found p v))

  rests_same : (ss : List (State N)) → Rests ss ss
  rests_same ss = record {
    discs = λ q s at. (s, at, refl, refl, refl, refl);
    trails = λ q s at. (s, at, refl, refl, refl);
    mons = λ q s at. (s, at, refl);
    dumps = λ q s at. (s, at, refl, λ p v h. h);
  }

  now_found : (a b : Option (Label N)) (l : Label N) → now_landed N a b ≡ Some l → (a ≡ Some l) ⊎ (b ≡ Some l)
  now_found a None l e = inl e
  now_found a (Some r) l e = inr e

  -- no event brings a dump of the opening
  found_step : (s : Dump N) (e : Event N) (p : ℕ) (v : N.Key → Option N.Val) → ShowsLabel (step_dump N s e) (Found p v) → ShowsLabel s (Found p v)
  found_step s (Seal i l) p v h = ⊎_elim (λ (e : s.landed ≡ Some (Found p v)). inl e) (λ (e : Some (Taken i l (s.copied i)) ≡ Some (Found p v)). (let both : Taken i l (s.copied i) ≡ Found p v = some_is (Taken i l (s.copied i)) (Found p v) e in absurd (cc (both)))) h
  found_step s (Sealed i true) p v h = ⊎_elim (λ (e : now_landed N s.landed s.offered ≡ Some (Found p v)). now_found s.landed s.offered (Found p v) e) (λ (e : ◌≡◌ {A = Option (Label N)} None (Some (Found p v))). absurd (cc (e))) h
  found_step s (Sealed i false) p v h = h
  found_step s (Copy i b n) p v h = h
  found_step s _ p v h = h

  rests_step : (ss ts : List (State N)) (x : ℕ × Event N) → Rests ss ts → Rests ss (next_states (node N) ts x)
  rests_step ss ts x h = record {
    discs = λ q s at. ⊎_elim
        (λ (a : (q ≢ x.0) × (slice_get ts q ≡ Some (disc s))). h.discs q s a.1)
        (λ (a : (o : Disc N) × (q ≡ x.0) × (slice_get ts q ≡ Some (disc o)) × (s ≡ step_disc N o x.1)).
        (let b = h.discs q a.0 a.2 in
        (b.0, b.1, ap (λ (z : Disc N). z.number) a.3 ∙ disc_number N a.0 x.1 ∙ b.2, ap (λ (z : Disc N). z.base) a.3 ∙ disc_base N a.0 x.1 ∙ b.3, ap (λ (z : Disc N). z.first) a.3 ∙ disc_first N a.0 x.1 ∙ b.4, ap (λ (z : Disc N). z.lost) a.3 ∙ disc_lost N a.0 x.1 ∙ b.5)))
        (disc_came N ts x q s at);
    trails = λ q s at. ⊎_elim
        (λ (a : (q ≢ x.0) × (slice_get ts q ≡ Some (trail s))). h.trails q s a.1)
        (λ (a : (o : Trail N) × (q ≡ x.0) × (slice_get ts q ≡ Some (trail o)) × (s ≡ step_trail N o x.1)).
        (let b = h.trails q a.0 a.2 in
        (b.0, b.1, ap (λ (z : Trail N). z.number) a.3 ∙ trail_number N a.0 x.1 ∙ b.2, ap (λ (z : Trail N). z.before) a.3 ∙ trail_before N a.0 x.1 ∙ b.3, ap (λ (z : Trail N). z.first) a.3 ∙ trail_first N a.0 x.1 ∙ b.4)))
        (trail_came N ts x q s at);
    mons = λ q s at. ⊎_elim
        (λ (a : (q ≢ x.0) × (slice_get ts q ≡ Some (monitor s))). h.mons q s a.1)
        (λ (a : (o : Monitor N) × (q ≡ x.0) × (slice_get ts q ≡ Some (monitor o)) × (s ≡ step_monitor N o x.1)).
        (let b = h.mons q a.0 a.2 in
        (b.0, b.1, ap (λ (z : Monitor N). z.before) a.3 ∙ monitor_before N a.0 x.1 ∙ b.2)))
        (monitor_came N ts x q s at);
    dumps = λ q s at. ⊎_elim
        (λ (a : (q ≢ x.0) × (slice_get ts q ≡ Some (dump s))). h.dumps q s a.1)
        (λ (a : (o : Dump N) × (q ≡ x.0) × (slice_get ts q ≡ Some (dump o)) × (s ≡ step_dump N o x.1)).
        (let b = h.dumps q a.0 a.2 in
        (b.0, b.1, ap (λ (z : Dump N). z.number) a.3 ∙ dump_number N a.0 x.1 ∙ b.2, (λ p v shows. b.3 p v (found_step a.0 x.1 p v (subst (λ (z : Dump N). ShowsLabel z (Found p v)) a.3 shows))))))
        (dump_came N ts x q s at);
  }

  pub rests_after : (ss ts : List (State N)) (xs : List (ℕ × Event N)) → Rests ss ts → Rests ss (states_after (node N) ts xs)
  rests_after ss ts [] h = h
  rests_after ss ts (x ∷ xs) h = rests_after ss (next_states (node N) ts x) xs (rests_step ss ts x h)

  pub rests : (ss : List (State N)) (xs : List (ℕ × Event N)) → Rests ss (states_after (node N) ss xs)
  rests ss xs = rests_after ss ss xs (rests_same ss)

  -- the parts are there after an event
  pub parts_step : (ss : List (State N)) (x : ℕ × Event N) → HasParts ss → HasParts (next_states (node N) ss x)
  parts_step ss x h = record {
    apart = apart_step N ss x h.apart;
    discs = λ d has. (let a = h.discs d has in let g = goes_on N ss x a.0 (disc a.1) a.2 in
        ⊎_elim (λ (e : g.0 ≡ disc a.1). (a.0, a.1, g.1 ∙ ap (λ (z : State N). Some z) e, a.3)) (λ (e : g.0 ≡ disc (step_disc N a.1 x.1)). (a.0, step_disc N a.1 x.1, g.1 ∙ ap (λ (z : State N). Some z) e, a.3 ∙ sym (disc_number N a.1 x.1))) g.2);
    trails = λ d has. (let a = h.trails d has in let g = goes_on N ss x a.0 (trail a.1) a.2 in
        ⊎_elim (λ (e : g.0 ≡ trail a.1). (a.0, a.1, g.1 ∙ ap (λ (z : State N). Some z) e, a.3)) (λ (e : g.0 ≡ trail (step_trail N a.1 x.1)). (a.0, step_trail N a.1 x.1, g.1 ∙ ap (λ (z : State N). Some z) e, trail_number N a.1 x.1 ∙ a.3)) g.2);
    dumps = λ d has. (let a = h.dumps d has in let g = goes_on N ss x a.0 (dump a.1) a.2 in
        ⊎_elim (λ (e : g.0 ≡ dump a.1). (a.0, a.1, g.1 ∙ ap (λ (z : State N). Some z) e, a.3)) (λ (e : g.0 ≡ dump (step_dump N a.1 x.1)). (a.0, step_dump N a.1 x.1, g.1 ∙ ap (λ (z : State N). Some z) e, a.3 ∙ sym (dump_number N a.1 x.1))) g.2);
    listed = λ q s at. ⊎_elim
        (λ (a : (q ≢ x.0) × (slice_get ss q ≡ Some (disc s))). h.listed q s a.1)
        (λ (a : (o : Disc N) × (q ≡ x.0) × (slice_get ss q ≡ Some (disc o)) × (s ≡ step_disc N o x.1)). subst (λ (n : ℕ). Among N.discs n) (sym (ap (λ (z : Disc N). z.number) a.3 ∙ disc_number N a.0 x.1)) (h.listed q a.0 a.2))
        (disc_came N ss x q s at);
    of_monitor = (let a = h.of_monitor in let g = goes_on N ss x a.0 (monitor a.1) a.2 in
        ⊎_elim (λ (e : g.0 ≡ monitor a.1). (a.0, a.1, g.1 ∙ ap (λ (z : State N). Some z) e)) (λ (e : g.0 ≡ monitor (step_monitor N a.1 x.1)). (a.0, step_monitor N a.1 x.1, g.1 ∙ ap (λ (z : State N). Some z) e)) g.2);
  }

  pub parts_after : (ss : List (State N)) (xs : List (ℕ × Event N)) → HasParts ss → HasParts (states_after (node N) ss xs)
  parts_after ss [] h = h
  parts_after ss (x ∷ xs) h = parts_after (next_states (node N) ss x) xs (parts_step ss x h)
