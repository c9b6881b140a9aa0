-- Each step of a pass keeps the queue's rule.
use Rattle.std.specs.Prelude.{◌==◌, cond, MatchBool, MatchOption, Option, Some, None}
use Rattle.std.proofs.Common.{◌≡◌, ◌≢◌, ◌⊎◌, ◌≤◌, arith, ℕ, Bool, zero, suc, true, false, true≢false, List, [], ◌∷◌, ◌++◌, length, set, sym, refl, ap, ◌∙◌, subst, ⊎_elim, inl, inr, eqb-true, eq-eqb}
use mathlib.Core.Option.{some, some-ne-none, some-injective}
use lib.ListN.{get_elem?}
use Rattle.crossbeam_queue.specs.Fifo.{Pushes, Pops, Forks, Merges, Learns}
use Rattle.crossbeam_queue.proofs.Lists.{at_set}
use Rattle.audit_writer.specs.Parcels.{Packed, Sharing, IsRuled, EmptyTells, Follows, Leads, Has, reached, all_discs, all_rights, no_rights, popping, one_disc, heard_of, told_of, with_told, without, without_pops, without_disc, pops_of, and_then, HasPushed, HasPopped}
use Rattle.audit_writer.specs.Handing.{disc_of, last_of}

at_end : (l : List Sharing) (a b : Sharing) (j : ℕ) → get_elem? (l ++ a ∷ []) j ≡ some b → (get_elem? l j ≡ some b) ⊎ ((j ≡ length l) × (a ≡ b))
at_end [] a b zero e = inr (refl, some-injective a b e)
at_end [] a b (suc j) e = absurd (some-ne-none b (sym e))
at_end (x ∷ xs) a b zero e = inl e
at_end (x ∷ xs) a b (suc j) e = ⊎_elim (λ (h : get_elem? xs j ≡ some b). inl h) (λ (h : (j ≡ length xs) × (a ≡ b)). inr (ap suc h.0, h.1)) (at_end xs a b j e)

abbrev Each : (ℕ → Sharing → Type 0) → List Sharing → Type 0
Each F views = (port : ℕ) (v : Sharing) → get_elem? views port ≡ some v → F port v

each_set : (F : ℕ → Sharing → Type 0) (views : List Sharing) (port : ℕ) (w : Sharing) → F port w → ((j : ℕ) (u : Sharing) → j ≢ port → get_elem? views j ≡ some u → F j u) → Each F (set views port w)
each_set F views port w mine others j u e = ⊎_elim (λ (x : (j ≡ port) × (w ≡ u)). subst (λ (y : ℕ × Sharing). F y.0 y.1) (λ i. (sym x.0 i, x.1 i)) mine)
    (λ (x : (j ≢ port) × (get_elem? views j ≡ some u)). others j u x.0 x.1) (at_set views port j w u e)

each_more : (F : ℕ → Sharing → Type 0) (views : List Sharing) (w : Sharing) → Each F views → F (length views) w → Each F (views ++ w ∷ [])
each_more F views w old new j u e = ⊎_elim (λ (h : get_elem? views j ≡ some u). old j u h)
    (λ (h : (j ≡ length views) × (w ≡ u)). subst (λ (y : ℕ × Sharing). F y.0 y.1) (λ i. (sym h.0 i, h.1 i)) new) (at_end views w u j e)

-- what a pass was told was pushed
abbrev IsTold : (ℕ → ℕ) → ℕ → Sharing → Type 0
IsTold pushed port v = (x : ℕ × ℕ) → Has v.told x → x.1 ≤ pushed x.0

told_set : (pushed : ℕ → ℕ) (views : List Sharing) (port : ℕ) (w : Sharing) → Each (IsTold pushed) views → IsTold pushed port w → Each (IsTold pushed) (set views port w)
told_set pushed views port w all mine = each_set (IsTold pushed) views port w mine (λ j u other there. all j u there)

told_fork : (pushed : ℕ → ℕ) (views : List Sharing) (port : ℕ) (left right : Sharing) → Each (IsTold pushed) views → IsTold pushed port left → IsTold pushed (length (set views port left)) right → Each (IsTold pushed) (set views port left ++ right ∷ [])
told_fork pushed views port left right all mine theirs = each_more (IsTold pushed) (set views port left) right (told_set pushed views port left all mine) theirs

tells_all : (parcels : List Packed) (views : List Sharing) (h : IsRuled parcels views) → Each (IsTold h.pushed) views
tells_all parcels views h j u there x has = h.tells j u x there has

none_some : {A : Type 0} (x : A) → None ≡ Some x → ⊥
none_some x e = cc (e)

-- at the opening no parcel was pushed
nothing_pushed : (xs : List (ℕ × ℕ)) (x : ℕ × ℕ) → ((y : ℕ × ℕ) → Has xs y → y.1 ≡ 0) → Has xs x → x.1 ≡ 0
nothing_pushed xs x all h = all x h

pub begins : IsRuled [] (all_rights ∷ [])
begins = record {
  pushed = λ d. 0;
  popped = [];
  popper = 0;
  pushers = λ d. 0;
  leads = λ d. refl;
  pops = λ port v from at is. first port v at (λ (p : ℕ) (u : Sharing). (f : List (ℕ × ℕ)) → u.popped ≡ Some f → (p ≡ 0) × (f ≡ [])) (λ f e. (refl, sym (cc (e)))) from is;
  pushes = λ port v x at has. first port v at (λ (p : ℕ) (u : Sharing). (y : ℕ × ℕ) → Has u.hands y → (p ≡ 0) × (y.1 ≡ 0)) (λ y h. (refl, zeros y h)) x has;
  tells = λ port v x at has. first port v at (λ (p : ℕ) (u : Sharing). (y : ℕ × ℕ) → Has u.told y → y.1 ≤ 0) (λ y none. absurd none) x has;
}
  where
    first : (port : ℕ) (v : Sharing) → get_elem? (all_rights ∷ []) port ≡ some v → (F : ℕ → Sharing → Type 0) → F 0 all_rights → F port v
    first zero v e F h = subst (F 0) (some-injective all_rights v e) h
    first (suc n) v e F h = absurd (some-ne-none v (sym e))

    zeros : (y : ℕ × ℕ) → Has all_discs y → y.1 ≡ 0
    zeros y (inl e) = ap (λ p. p.1) (sym e)
    zeros y (inr (inl e)) = ap (λ p. p.1) (sym e)
    zeros y (inr (inr (inl e))) = ap (λ p. p.1) (sym e)
    zeros y (inr (inr (inr (inl e)))) = ap (λ p. p.1) (sym e)
    zeros y (inr (inr (inr (inr (inl e))))) = ap (λ p. p.1) (sym e)
    zeros y (inr (inr (inr (inr (inr (inl e)))))) = ap (λ p. p.1) (sym e)
    zeros y (inr (inr (inr (inr (inr (inr (inl e))))))) = ap (λ p. p.1) (sym e)
    zeros y (inr (inr (inr (inr (inr (inr (inr (inl e)))))))) = ap (λ p. p.1) (sym e)
    zeros y (inr (inr (inr (inr (inr (inr (inr (inr e)))))))) = absurd e

-- what leads from the front leads on behind the first parcel
leads_on : (b : Bool) (d from to : ℕ) (p : Packed) (ps : List Packed) → MatchBool b (Follows from p × Leads d (last_of p.records) ps to) (Leads d from ps to) → Leads d (cond b (last_of p.records) from) ps to
leads_on true d from to p ps h = h.1
leads_on false d from to p ps h = h

follows_of : (b : Bool) (from : ℕ) (p : Packed) (A B : Type 0) → b ≡ true → MatchBool b (Follows from p × A) B → Follows from p
follows_of true from p A B is h = h.0
follows_of false from p A B is h = absurd (true≢false (sym is))

pub pops : (port : ℕ) (v : Sharing) (from told : List (ℕ × ℕ)) → v ≡ popping from told → Pops IsRuled port v (HasPopped v)
pops port v from told is x items views h at =
    let w : Sharing = popping (and_then x from) told in
    let mine = h.pops port v from at (ap (λ (u : Sharing). u.popped) is) in
    let d = disc_of x.records in
    let follows : Follows (reached h.popped d) x = follows_of (d == d) (reached h.popped d) x _ _ (eq-eqb d d refl) (h.leads d) in (
      w,
      record {
        pushed = h.pushed;
        popped = and_then x h.popped;
        popper = h.popper;
        pushers = h.pushers;
        leads = λ e. leads_on (e == d) e (reached h.popped e) (h.pushed e) x items (h.leads e);
        pops = λ j u f e has. each_set (λ (k : ℕ) (y : Sharing). (g : List (ℕ × ℕ)) → y.popped ≡ Some g → (k ≡ h.popper) × (g ≡ and_then x h.popped)) views port w
            (λ g same. (mine.0, (let eq : and_then x from ≡ g = cc (same) in sym eq ∙ ap (and_then x) mine.1)))
            (λ k y other there g same. absurd (other ((h.pops k y g there same).0 ∙ sym mine.0))) j u e f has;
        pushes = λ j u y e has. each_set (λ (k : ℕ) (z : Sharing). (q : ℕ × ℕ) → Has z.hands q → (k ≡ h.pushers q.0) × (q.1 ≡ h.pushed q.0)) views port w
            (λ q none. absurd none)
            (λ k z other there q has. h.pushes k z q there has) j u e y has;
        tells = λ j u y e has. told_set h.pushed views port w (tells_all (x ∷ items) views h) (λ q here. h.tells port v q at (subst (λ (z : Sharing). Has z.told q) (sym is) here)) j u e y has;
      },
      subst (λ (u : Sharing). HasPopped u x w) (sym is) (subst (λ (l : List (ℕ × ℕ)). Follows (reached l d) x) (sym mine.1) follows, refl),
    )

-- a parcel at the back
at_back : (b : Bool) (d from to : ℕ) (p : Packed) → from ≡ to → (b ≡ true → Follows to p) → MatchBool b (Follows from p × (last_of p.records ≡ cond b (last_of p.records) to)) (from ≡ cond b (last_of p.records) to)
at_back true d from to p e f = (subst (λ (n : ℕ). Follows n p) (sym e) (f refl), refl)
at_back false d from to p e f = e

further : (b : Bool) (A X Y P Q : Type 0) → (X → P) → (Y → Q) → MatchBool b (A × X) Y → MatchBool b (A × P) Q
further true A X Y P Q f g h = (h.0, f h.1)
further false A X Y P Q f g h = g h

leads_more : (d from to : ℕ) (items : List Packed) (x : Packed) → ((d == disc_of x.records) ≡ true → Follows to x) → Leads d from items to → Leads d from (items ++ x ∷ []) (cond (d == disc_of x.records) (last_of x.records) to)
leads_more d from to [] x f h = at_back (d == disc_of x.records) d from to x h f
leads_more d from to (p ∷ ps) x f h = further (d == disc_of p.records) (Follows from p) _ _ _ _ (leads_more d (last_of p.records) to ps x f) (leads_more d from to ps x f) h

higher : (b : Bool) (a c n : ℕ) → n ≤ c → (b ≡ true → c ≤ a) → n ≤ cond b a c
higher true a c n le up = (let above = up refl in omega (arith, le, above))
higher false a c n le up = le

pub pushes : (n port d to : ℕ) (v : Sharing) (x : Packed) → v ≡ one_disc d to → disc_of x.records ≡ d → Follows to x → to ≤ last_of x.records → Pushes IsRuled n port v x (HasPushed v x)
pushes n port d to v x is of_disc follows rises items views room h at =
    let w : Sharing = one_disc (disc_of x.records) (last_of x.records) in
    let mine = h.pushes port v (d, to) at (subst (λ (u : Sharing). Has u.hands (d, to)) (sym is) (inl refl)) in
    let pushed : ℕ → ℕ = λ e. cond (e == disc_of x.records) (last_of x.records) (h.pushed e) in (
      w,
      record {
        pushed = pushed;
        popped = h.popped;
        popper = h.popper;
        pushers = h.pushers;
        leads = λ e. leads_more e (reached h.popped e) (h.pushed e) items x
            (λ same. subst (λ (k : ℕ). Follows k x) (mine.1 ∙ ap h.pushed (sym (eqb-true e (disc_of x.records) same ∙ of_disc))) follows) (h.leads e);
        pops = λ j u f e has. each_set (λ (k : ℕ) (y : Sharing). (g : List (ℕ × ℕ)) → y.popped ≡ Some g → (k ≡ h.popper) × (g ≡ h.popped)) views port w
            (λ g same. absurd (none_some g same))
            (λ k y other there g same. h.pops k y g there same) j u e f has;
        pushes = λ j u y e has. each_set (λ (k : ℕ) (z : Sharing). (q : ℕ × ℕ) → Has z.hands q → (k ≡ h.pushers q.0) × (q.1 ≡ pushed q.0)) views port w
            (λ q here. ⊎_elim
            (λ (eq : (disc_of x.records, last_of x.records) ≡ q). subst (λ (y : ℕ × ℕ). (port ≡ h.pushers y.0) × (y.1 ≡ pushed y.0)) eq
            (mine.0 ∙ ap h.pushers (sym of_disc), sym (ap (λ b. cond b (last_of x.records) (h.pushed (disc_of x.records))) (eq-eqb (disc_of x.records) (disc_of x.records) refl)))) (λ (no : ⊥). absurd no) here)
            (λ k z other there q has.
            (let old = h.pushes k z q there has in
            (old.0, old.1 ∙ unchanged (q.0 == disc_of x.records) (last_of x.records) (h.pushed q.0) (λ same. other (old.0 ∙ ap h.pushers (eqb-true q.0 (disc_of x.records) same ∙ of_disc) ∙ sym mine.0))))) j u e y has;
        tells = λ j u y e has. each_set (λ (k : ℕ) (z : Sharing). (q : ℕ × ℕ) → Has z.told q → q.1 ≤ pushed q.0) views port w
            (λ q none. absurd none)
            (λ k z other there q here. higher (q.0 == disc_of x.records) (last_of x.records) (h.pushed q.0) q.1 (h.tells k z q there here)
            (λ same. subst (λ (m : ℕ). m ≤ last_of x.records) (mine.1 ∙ ap h.pushed (sym (eqb-true q.0 (disc_of x.records) same ∙ of_disc))) rises)) j u e y has;
      },
      refl,
    )
  where
    unchanged : (b : Bool) (a c : ℕ) → (b ≡ true → ⊥) → c ≡ cond b a c
    unchanged true a c never = absurd (never refl)
    unchanged false a c never = refl

-- the right to pop is cut off
pub forks_pops : (port : ℕ) (v : Sharing) (from : List (ℕ × ℕ)) → v.popped ≡ Some from → Forks IsRuled port v (without_pops v) (pops_of v)
forks_pops port v from is items views h at =
    let left : Sharing = without_pops v in
    let right : Sharing = pops_of v in
    let mine = h.pops port v from at is in
    let vs : List Sharing = set views port left in
    record {
      pushed = h.pushed;
      popped = h.popped;
      popper = length vs;
      pushers = h.pushers;
      leads = h.leads;
      pops = λ j u f e has. each_more (λ (k : ℕ) (y : Sharing). (g : List (ℕ × ℕ)) → y.popped ≡ Some g → (k ≡ length vs) × (g ≡ h.popped)) vs right
          (each_set (λ (k : ℕ) (y : Sharing). (g : List (ℕ × ℕ)) → y.popped ≡ Some g → (k ≡ length vs) × (g ≡ h.popped)) views port left
          (λ g same. absurd (none_some g same))
          (λ k y other there g same. absurd (other ((h.pops k y g there same).0 ∙ sym mine.0))))
          (λ g same. (refl, (h.pops port v g at same).1)) j u e f has;
      pushes = λ j u y e has. each_more (λ (k : ℕ) (z : Sharing). (q : ℕ × ℕ) → Has z.hands q → (k ≡ h.pushers q.0) × (q.1 ≡ h.pushed q.0)) vs right
          (each_set (λ (k : ℕ) (z : Sharing). (q : ℕ × ℕ) → Has z.hands q → (k ≡ h.pushers q.0) × (q.1 ≡ h.pushed q.0)) views port left
          (λ q here. h.pushes port v q at here)
          (λ k z other there q here. h.pushes k z q there here))
          (λ q none. absurd none) j u e y has;
      tells = λ j u y e has. told_fork h.pushed views port left right (tells_all items views h) (λ q here. h.tells port v q at here) (λ q none. absurd none) j u e y has;
    }

not_here : (d : ℕ) (xs : List (ℕ × ℕ)) (q : ℕ × ℕ) → Has (without d xs) q → ((q.0 == d) ≡ false) × Has xs q
not_here d [] q h = absurd h
not_here d (x ∷ xs) q h = at (x.0 == d) refl (not_here d xs q) h
  where
    at : (b : Bool) → (x.0 == d) ≡ b → (Has (without d xs) q → ((q.0 == d) ≡ false) × Has xs q) → Has (cond b (without d xs) (x ∷ without d xs)) q → ((q.0 == d) ≡ false) × (Has (x ∷ xs) q)
    at true is rest h = ((rest h).0, inr (rest h).1)
    at false is rest h = ⊎_elim (λ (same : x ≡ q). (subst (λ (y : ℕ × ℕ). (y.0 == d) ≡ false) same is, inl same)) (λ (more : Has (without d xs) q). ((rest more).0, inr (rest more).1)) h

-- the right to push for a disc is cut off
pub forks_disc : (port : ℕ) (v : Sharing) (d : ℕ) → Has v.hands (d, 0) → Forks IsRuled port v (without_disc d v) (one_disc d 0)
forks_disc port v d may items views h at =
    let left : Sharing = without_disc d v in
    let right : Sharing = one_disc d 0 in
    let mine = h.pushes port v (d, 0) at may in
    let vs : List Sharing = set views port left in
    let pushers : ℕ → ℕ = λ e. cond (e == d) (length vs) (h.pushers e) in
    record {
      pushed = h.pushed;
      popped = h.popped;
      popper = h.popper;
      pushers = pushers;
      leads = h.leads;
      pops = λ j u f e has. each_more (λ (k : ℕ) (y : Sharing). (g : List (ℕ × ℕ)) → y.popped ≡ Some g → (k ≡ h.popper) × (g ≡ h.popped)) vs right
          (each_set (λ (k : ℕ) (y : Sharing). (g : List (ℕ × ℕ)) → y.popped ≡ Some g → (k ≡ h.popper) × (g ≡ h.popped)) views port left
          (λ g same. h.pops port v g at same)
          (λ k y other there g same. h.pops k y g there same))
          (λ g same. absurd (none_some g same)) j u e f has;
      pushes = λ j u y e has. each_more (λ (k : ℕ) (z : Sharing). (q : ℕ × ℕ) → Has z.hands q → (k ≡ pushers q.0) × (q.1 ≡ h.pushed q.0)) vs right
          (each_set (λ (k : ℕ) (z : Sharing). (q : ℕ × ℕ) → Has z.hands q → (k ≡ pushers q.0) × (q.1 ≡ h.pushed q.0)) views port left
          (λ q here. (let there = not_here d v.hands q here in let old = h.pushes port v q at there.1 in (old.0 ∙ keeps (q.0 == d) (length vs) (h.pushers q.0) (λ yes. true≢false (sym yes ∙ there.0)), old.1)))
          (λ k z other there q here. (let old = h.pushes k z q there here in (old.0 ∙ keeps (q.0 == d) (length vs) (h.pushers q.0) (λ yes. other (old.0 ∙ ap h.pushers (eqb-true q.0 d yes) ∙ sym mine.0)), old.1))))
          (λ q here. ⊎_elim (λ (eq : (d, 0) ≡ q). subst (λ (y : ℕ × ℕ). (length vs ≡ pushers y.0) × (y.1 ≡ h.pushed y.0)) eq (sym (ap (λ b. cond b (length vs) (h.pushers d)) (eq-eqb d d refl)), mine.1)) (λ (no : ⊥). absurd no) here) j u e y has;
      tells = λ j u y e has. told_fork h.pushed views port left right (tells_all items views h) (λ q here. h.tells port v q at here) (λ q none. absurd none) j u e y has;
    }
  where
    keeps : (b : Bool) (a c : ℕ) → (b ≡ true → ⊥) → c ≡ cond b a c
    keeps true a c never = absurd (never refl)
    keeps false a c never = refl

-- another pass is told how far this one has pushed
pub forks_told : (port : ℕ) (v : Sharing) → Forks IsRuled port v v (told_of v)
forks_told port v items views h at =
    let right : Sharing = told_of v in
    let vs : List Sharing = set views port v in
    record {
      pushed = h.pushed;
      popped = h.popped;
      popper = h.popper;
      pushers = h.pushers;
      leads = h.leads;
      pops = λ j u f e has. each_more (λ (k : ℕ) (y : Sharing). (g : List (ℕ × ℕ)) → y.popped ≡ Some g → (k ≡ h.popper) × (g ≡ h.popped)) vs right
          (each_set (λ (k : ℕ) (y : Sharing). (g : List (ℕ × ℕ)) → y.popped ≡ Some g → (k ≡ h.popper) × (g ≡ h.popped)) views port v
          (λ g same. h.pops port v g at same)
          (λ k y other there g same. h.pops k y g there same))
          (λ g same. absurd (none_some g same)) j u e f has;
      pushes = λ j u y e has. each_more (λ (k : ℕ) (z : Sharing). (q : ℕ × ℕ) → Has z.hands q → (k ≡ h.pushers q.0) × (q.1 ≡ h.pushed q.0)) vs right
          (each_set (λ (k : ℕ) (z : Sharing). (q : ℕ × ℕ) → Has z.hands q → (k ≡ h.pushers q.0) × (q.1 ≡ h.pushed q.0)) views port v
          (λ q here. h.pushes port v q at here)
          (λ k z other there q here. h.pushes k z q there here))
          (λ q none. absurd none) j u e y has;
      tells = λ j u y e has. told_fork h.pushed views port v right (tells_all items views h) (λ q here. h.tells port v q at here) (λ q here. (let same = (h.pushes port v q at here).1 in omega (arith, same))) j u e y has;
    }

-- another pass is told what this one was told
pub forks_heard : (port : ℕ) (v : Sharing) → Forks IsRuled port v v (heard_of v)
forks_heard port v items views h at =
    let right : Sharing = heard_of v in
    let vs : List Sharing = set views port v in
    record {
      pushed = h.pushed;
      popped = h.popped;
      popper = h.popper;
      pushers = h.pushers;
      leads = h.leads;
      pops = λ j u f e has. each_more (λ (k : ℕ) (y : Sharing). (g : List (ℕ × ℕ)) → y.popped ≡ Some g → (k ≡ h.popper) × (g ≡ h.popped)) vs right
          (each_set (λ (k : ℕ) (y : Sharing). (g : List (ℕ × ℕ)) → y.popped ≡ Some g → (k ≡ h.popper) × (g ≡ h.popped)) views port v
          (λ g same. h.pops port v g at same)
          (λ k y other there g same. h.pops k y g there same))
          (λ g same. absurd (none_some g same)) j u e f has;
      pushes = λ j u y e has. each_more (λ (k : ℕ) (z : Sharing). (q : ℕ × ℕ) → Has z.hands q → (k ≡ h.pushers q.0) × (q.1 ≡ h.pushed q.0)) vs right
          (each_set (λ (k : ℕ) (z : Sharing). (q : ℕ × ℕ) → Has z.hands q → (k ≡ h.pushers q.0) × (q.1 ≡ h.pushed q.0)) views port v
          (λ q here. h.pushes port v q at here)
          (λ k z other there q here. h.pushes k z q there here))
          (λ q none. absurd none) j u e y has;
      tells = λ j u y e has. told_fork h.pushed views port v right (tells_all items views h) (λ q here. h.tells port v q at here) (λ q here. h.tells port v q at here) j u e y has;
    }

has_either : (a b : List (ℕ × ℕ)) (x : ℕ × ℕ) → Has (a ++ b) x → Has a x ⊎ Has b x
has_either [] b x h = inr h
has_either (y ∷ ys) b x h = ⊎_elim (λ (e : y ≡ x). inl (inl e)) (λ (r : Has (ys ++ b) x). ⊎_elim (λ (l : Has ys x). inl (inr l)) (λ (k : Has b x). inr k) (has_either ys b x r)) h

-- what another pass was told is told
pub merges_told : (port : ℕ) (v : Sharing) (other : ℕ) (w : Sharing) → Merges IsRuled port v other w (with_told v w) no_rights
merges_told port v other w items views h at apart there =
    let both : Sharing = with_told v w in
    let vs : List Sharing = set views port both in
    let was : get_elem? views other ≡ some w = ⊎_elim (λ (x : (other ≡ port) × (both ≡ w)). absurd (apart x.0)) (λ (x : (other ≢ port) × (get_elem? views other ≡ some w)). x.1) (at_set views port other both w there) in
    record {
      pushed = h.pushed;
      popped = h.popped;
      popper = h.popper;
      pushers = h.pushers;
      leads = h.leads;
      pops = λ j u f e has. each_set (λ (k : ℕ) (y : Sharing). (g : List (ℕ × ℕ)) → y.popped ≡ Some g → (k ≡ h.popper) × (g ≡ h.popped)) vs other no_rights
          (λ g same. absurd (none_some g same))
          (λ k y _ now g same. each_set (λ (i : ℕ) (z : Sharing). (f : List (ℕ × ℕ)) → z.popped ≡ Some f → (i ≡ h.popper) × (f ≡ h.popped)) views port both
          (λ f is. h.pops port v f at is)
          (λ i z _ then f is. h.pops i z f then is) k y now g same) j u e f has;
      pushes = λ j u y e has. each_set (λ (k : ℕ) (z : Sharing). (q : ℕ × ℕ) → Has z.hands q → (k ≡ h.pushers q.0) × (q.1 ≡ h.pushed q.0)) vs other no_rights
          (λ q none. absurd none)
          (λ k z _ now q here. each_set (λ (i : ℕ) (x : Sharing). (p : ℕ × ℕ) → Has x.hands p → (i ≡ h.pushers p.0) × (p.1 ≡ h.pushed p.0)) views port both
          (λ p is. h.pushes port v p at is)
          (λ i x _ then p is. h.pushes i x p then is) k z now q here) j u e y has;
      tells = λ j u y e has. told_set h.pushed vs other no_rights
          (told_set h.pushed views port both (tells_all items views h)
          (λ q here. ⊎_elim (λ (theirs : Has w.told q). h.tells other w q was theirs) (λ (mine : Has v.told q). h.tells port v q at mine) (has_either w.told v.told q here)))
          (λ q none. absurd none) j u e y has;
    }

-- of an empty queue, all that was told was popped
pub learns : (port : ℕ) (v : Sharing) → Learns IsRuled port v (EmptyTells v)
learns port v items views h at none from is x has =
    let mine = h.pops port v from at is in
    let lead : reached h.popped x.0 ≡ h.pushed x.0 = subst (λ (l : List Packed). Leads x.0 (reached h.popped x.0) l (h.pushed x.0)) none (h.leads x.0) in
    let below = h.tells port v x at has in
    subst (λ (l : List (ℕ × ℕ)). x.1 ≤ reached l x.0) (sym mine.1) (omega (arith, below, lead))

-- the pass that pops still pops, whether it has popped or not
pub popped_still : (r : Option Packed) (old new : Sharing) (from : List (ℕ × ℕ)) → old ≡ popping from old.told → MatchOption r (new ≡ old) (λ x. HasPopped old x new) → (then : List (ℕ × ℕ)) × (new ≡ popping then new.told)
popped_still None old new from is same = (from, same ∙ is ∙ ap (λ (s : Sharing). popping from s.told) (sym same))
popped_still (Some x) old new from is has =
    let e : new ≡ popping (and_then x from) old.told = (subst (λ (s : Sharing). HasPopped s x new) is has).1 in
    (and_then x from, e ∙ ap (λ (l : List (ℕ × ℕ)). popping (and_then x from) l) (sym (ap (λ (s : Sharing). s.told) e)))
