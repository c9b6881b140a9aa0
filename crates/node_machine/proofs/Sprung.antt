-- What is so of a part after a history and was not at its opening became so by one of its events.
use Rattle.std.proofs.Common.{◌≡◌, ◌⊎◌, ℕ, List, [], ◌∷◌, ◌++◌, Some, slice_get, ap, sym, ◌∙◌, subst, ⊎_elim, inl, inr}
use Rattle.chronicle.specs.Histories.{Rules, next_states, states_after, IsHistory, IsTrueIn}
use Rattle.node_machine.proofs.Kept.{changed_or}

module _ {S E F : Type 0} (R : Rules S E F) (Inv : ℕ → S → Type 0) (keeps : (q : ℕ) (s : S) (e : E) → R.allows s e → Inv q s → Inv q (R.step s e)) (P : S → Type 0) (Because : S → E → Type 0) (spring : (q : ℕ) (s : S) (e : E) → R.allows s e → Inv q s → P (R.step s e) → P s ⊎ Because s e) where
  -- the event of this part that made it so, and the moment before it
  pub record IsSprung (ss : List S) (log : List (ℕ × E)) (q : ℕ) : Type 0 where
    pub front : List (ℕ × E)
    pub rest : List (ℕ × E)
    pub event : E
    pub here : log ≡ front ++ (q, event) ∷ rest
    pub state : S
    pub at : slice_get (states_after R ss front) q ≡ Some state
    pub allowed : R.allows state event
    pub asked : R.asks (IsTrueIn R (states_after R ss front)) state event
    pub because : Because state event

  abbrev pub Was : List S → ℕ → Type 0
  Was ss q = (s : S) × (slice_get ss q ≡ Some s) × P s

  next_each : (ss : List S) (x : ℕ × E) (s : S) → slice_get ss x.0 ≡ Some s → R.allows s x.1 → ((q : ℕ) (t : S) → slice_get ss q ≡ Some t → Inv q t) → (q : ℕ) (t : S) → slice_get (next_states R ss x) q ≡ Some t → Inv q t
  next_each ss x s at may each q t now =
      ⊎_elim
      (λ (same : slice_get ss q ≡ Some t). each q t same)
      (λ (c : (u : S) × (slice_get ss q ≡ Some u) × (q ≡ x.0) × (t ≡ R.step u x.1)).
      (let both : Some s ≡ Some c.0 = sym at ∙ (ap (λ (n : ℕ). slice_get ss n) (sym c.2) ∙ c.1) in
      let one : s ≡ c.0 = cc (both) in
      subst (λ (v : S). Inv q v) (sym c.3) (keeps q c.0 x.1 (subst (λ (v : S). R.allows v x.1) one may) (each q c.0 c.1))))
      (changed_or (λ v. R.step v x.1) x.0 q ss t now)

  pub sprung : (ss : List S) (log : List (ℕ × E)) → IsHistory R ss log → ((q : ℕ) (s : S) → slice_get ss q ≡ Some s → Inv q s) → (q : ℕ) → Was (states_after R ss log) q → Was ss q ⊎ IsSprung ss log q
  sprung ss [] h each q w = inl w
  sprung ss (x ∷ log) h each q w =
      let en = h.0 in
      ⊎_elim
      (λ (now : Was (next_states R ss x) q).
      ⊎_elim
      (λ (same : slice_get ss q ≡ Some now.0). inl (now.0, same, now.2))
      (λ (c : (u : S) × (slice_get ss q ≡ Some u) × (q ≡ x.0) × (now.0 ≡ R.step u x.1)).
      (let at : slice_get ss q ≡ Some en.0 = ap (λ (n : ℕ). slice_get ss n) c.2 ∙ en.1 in
      let both : Some c.0 ≡ Some en.0 = sym c.1 ∙ at in
      let one : c.0 ≡ en.0 = cc (both) in
      let is : P (R.step en.0 x.1) = subst P (c.3 ∙ ap (λ (v : S). R.step v x.1) one) now.2 in
      ⊎_elim
      (λ (p : P en.0). inl (en.0, at, p))
      (λ (b : Because en.0 x.1). inr (record {
        front = [];
        rest = log;
        event = x.1;
        here = ap (λ (n : ℕ). (n, x.1) ∷ log) (sym c.2);
        state = en.0;
        at = at;
        allowed = en.2;
        asked = en.3;
        because = b;
      }))
      (spring q en.0 x.1 en.2 (each q en.0 at) is)))
      (changed_or (λ v. R.step v x.1) x.0 q ss now.0 now.1))
      (λ (c : IsSprung (next_states R ss x) log q). inr (record {
        front = x ∷ c.front;
        rest = c.rest;
        event = c.event;
        here = ap (λ xs. x ∷ xs) c.here;
        state = c.state;
        at = c.at;
        allowed = c.allowed;
        asked = c.asked;
        because = c.because;
      }))
      (sprung (next_states R ss x) log h.1 (next_each ss x en.0 en.1 en.2 each) q w)
