-- Each step of a pass keeps the rule of the queue of requests.
use Rattle.std.specs.Prelude.{◌==◌, ◌-◌, ◌<◌, cond, MatchOption, Option, Some, None}
use Rattle.std.proofs.Common.{◌≡◌, ◌≢◌, ◌⊎◌, ◌≤◌, arith, ℕ, Bool, zero, suc, true, false, List, [], ◌∷◌, ◌++◌, length, set, sym, refl, ap, ◌∙◌, subst, ⊎_elim, inl, inr, eqb-true, eq-eqb, append_assoc, append-nil}
use mathlib.Core.Option.{some, some-ne-none, some-injective}
use lib.ListN.{get_elem?}
use Rattle.crossbeam_queue.specs.Fifo.{Pushes, Pops, Forks, Merges, Learns}
use Rattle.crossbeam_queue.proofs.Lists.{at_set}
use Rattle.disk_model.specs.Held.{Rose}
use Rattle.tmf_model.specs.declared.transid.Transid.{Transid}
use Rattle.trail_files.specs.declared.monitor_record.MonitorRecord.{MonitorRecord}
use Rattle.node_machine.specs.Monitor.{ended_by, IsLater, AreLater}
use Rattle.node_machine.specs.Same.{Among, IsBefore}
use Rattle.node_machine.specs.SameLaws.{among_append, among_left, among_right}
use Rattle.commit_boxcar.specs.Requests.{AllPopped, ArePopped, HasFoundEmpty, IsAsFar, IsCovered, IsDue, IsNewest, IsOf, IsRuled, EmptyTells, HasPopped, HasPushed, Sharing, LastPush, all_rights, and_last, asking, asking_for, end_of, first_asking, first_push, knowing, lasts, listed, popping, pops_of, other_pushes, last_push, with_told, without_first, without_pops, workers_from}
use Rattle.commit_boxcar.proofs.Lines.{before_trans, later_push, not_before}

at_end : (l : List Sharing) (a b : Sharing) (j : ℕ) → get_elem? (l ++ a ∷ []) j ≡ some b → (get_elem? l j ≡ some b) ⊎ ((j ≡ length l) × (a ≡ b))
at_end [] a b zero e = inr (refl, some-injective a b e)
at_end [] a b (suc j) e = absurd (some-ne-none b (sym e))
at_end (x ∷ xs) a b zero e = inl e
at_end (x ∷ xs) a b (suc j) e = ⊎_elim (λ (h : get_elem? xs j ≡ some b). inl h) (λ (h : (j ≡ length xs) × (a ≡ b)). inr (ap suc h.0, h.1)) (at_end xs a b j e)

abbrev Each : (ℕ → Sharing → Type 0) → List Sharing → Type 0
Each F views = (port : ℕ) (v : Sharing) → get_elem? views port ≡ some v → F port v

each_set : (F : ℕ → Sharing → Type 0) (views : List Sharing) (port : ℕ) (w : Sharing) → F port w → ((j : ℕ) (u : Sharing) → j ≢ port → get_elem? views j ≡ some u → F j u) → Each F (set views port w)
each_set F views port w mine others j u e = ⊎_elim (λ (x : (j ≡ port) × (w ≡ u)). subst (λ (y : ℕ × Sharing). F y.0 y.1) (λ i. (sym x.0 i, x.1 i)) mine)
    (λ (x : (j ≢ port) × (get_elem? views j ≡ some u)). others j u x.0 x.1) (at_set views port j w u e)

each_more : (F : ℕ → Sharing → Type 0) (views : List Sharing) (w : Sharing) → Each F views → F (length views) w → Each F (views ++ w ∷ [])
each_more F views w old new j u e = ⊎_elim (λ (h : get_elem? views j ≡ some u). old j u h)
    (λ (h : (j ≡ length views) × (w ≡ u)). subst (λ (y : ℕ × Sharing). F y.0 y.1) (λ i. (sym h.0 i, h.1 i)) new) (at_end views w u j e)

-- what a pass was told was pushed
abbrev TellsAt : List MonitorRecord → ℕ → Sharing → Type 0
TellsAt all port v = (x : MonitorRecord) → Among v.told x → Among all x

-- a pass that may pop has this number, and knows what was popped
abbrev PopsAt : ℕ → List MonitorRecord → ℕ → Sharing → Type 0
PopsAt popper popped port v = (l : List MonitorRecord) → v.popped ≡ Some l → (port ≡ popper) × (l ≡ popped)

-- a pass that may push for a worker has the worker's number of a pass, and knows the newest request
abbrev AsksAt : (ℕ → ℕ) → List MonitorRecord → ℕ → Sharing → Type 0
AsksAt askers all port v = (t : LastPush) → Among v.asks t → (port ≡ askers t.worker) × IsNewest t.worker t.last all

module _ (items : List MonitorRecord) (views : List Sharing) (h : IsRuled items views) where
  all_tell : Each (TellsAt (h.popped ++ items)) views
  all_tell j v at x has = h.tells j v x at has

  all_pop : Each (PopsAt h.popper h.popped) views
  all_pop j v at l is = h.pops j v l at is

  all_ask : Each (AsksAt h.askers (h.popped ++ items)) views
  all_ask j v at t has = h.asks j v t at has

none_some : {A : Type 0} (x : A) → None ≡ Some x → ⊥
none_some x e = cc (e)

-- at the opening no request was pushed for anybody
nobody_asked : (w n : ℕ) (t : LastPush) → Among (workers_from w n) t → t.last ≡ None
nobody_asked w zero t h = absurd h
nobody_asked w (suc n) t (inl e) = sym (ap (λ (x : LastPush). x.last) e)
nobody_asked w (suc n) t (inr h) = nobody_asked (suc w) n t h

no_earlier_worker : (w n : ℕ) (t : LastPush) → Among (workers_from w n) t → w ≤ t.worker
no_earlier_worker w zero t h = absurd h
no_earlier_worker w (suc n) t (inl e) = (let same = ap (λ (x : LastPush). x.worker) e in omega (arith, same))
no_earlier_worker w (suc n) t (inr h) = (let rest = no_earlier_worker (suc w) n t h in omega (arith, rest))

pub begins : IsRuled [] (all_rights ∷ [])
begins = record {
  popped = [];
  popper = 0;
  askers = λ w. 0;
  rises = tt;
  pops = λ port v l at is. first port v at (PopsAt 0 []) (λ f e. (refl, sym (cc (e)))) l is;
  asks = λ port v t at has. first port v at (AsksAt (λ w. 0) []) (λ u there. (refl, subst (λ (o : Option MonitorRecord). IsNewest u.worker o []) (sym (nobody_asked 0 17 u there)) (λ y none of. none))) t has;
  tells = λ port v x at has. first port v at (TellsAt []) (λ y none. none) x has;
}
  where
    first : (port : ℕ) (v : Sharing) → get_elem? (all_rights ∷ []) port ≡ some v → (F : ℕ → Sharing → Type 0) → F 0 all_rights → F port v
    first zero v e F h = subst (F 0) (some-injective all_rights v e) h
    first (suc n) v e F h = absurd (some-ne-none v (sym e))

pub pops : (port : ℕ) (v : Sharing) (from told : List MonitorRecord) → v ≡ popping from told → Pops IsRuled port v (HasPopped v)
pops port v from told is x items views h at =
    let w : Sharing = popping (from ++ x ∷ []) told in
    let mine = h.pops port v from at (ap (λ (u : Sharing). u.popped) is) in
    let popped : List MonitorRecord = h.popped ++ x ∷ [] in
    let same : h.popped ++ (x ∷ items) ≡ popped ++ items = sym (append_assoc h.popped (x ∷ []) items) in (
      w,
      record {
        popped = popped;
        popper = h.popper;
        askers = h.askers;
        rises = subst (λ (l : List MonitorRecord). AreLater [] l) same h.rises;
        pops = λ j u l e has. each_set (PopsAt h.popper popped) views port w
            (λ g eq. (mine.0, (let one : from ++ x ∷ [] ≡ g = cc (eq) in sym one ∙ ap (λ (l : List MonitorRecord). l ++ x ∷ []) mine.1)))
            (λ k y other there g eq. absurd (other ((h.pops k y g there eq).0 ∙ sym mine.0))) j u e l has;
        asks = λ j u t e has. each_set (AsksAt h.askers (popped ++ items)) views port w
            (λ q none. absurd none)
            (λ k y other there q here. subst (λ (l : List MonitorRecord). (k ≡ h.askers q.worker) × IsNewest q.worker q.last l) same (h.asks k y q there here)) j u e t has;
        tells = λ j u y e has. each_set (TellsAt (popped ++ items)) views port w
            (λ q here. subst (λ (l : List MonitorRecord). Among l q) same (h.tells port v q at (subst (λ (z : Sharing). Among z.told q) (sym is) here)))
            (λ k z other there q here. subst (λ (l : List MonitorRecord). Among l q) same (h.tells k z q there here)) j u e y has;
      },
      subst (λ (u : Sharing). HasPopped u x w) (sym is) refl,
    )

-- what is later than the newest request of its worker is later than all of them
later_than : (worker : ℕ) (last : Option MonitorRecord) (x : MonitorRecord) → IsOf worker x → IsDue last x → (all : List MonitorRecord) → IsNewest worker last all → (y : MonitorRecord) → Among all y → IsLater y x
later_than worker None x own due all new y there u t u_is t_is same =
    let one : own.tx ≡ t = cc (own.ends, t_is) in
    absurd (new y there (record { tx = u; ends = u_is; worker_is = same ∙ ap (λ (z : Transid). z.worker) (sym one) ∙ own.worker_is }))
later_than worker (Some z) x own due all new y there u t u_is t_is same =
    let one : own.tx ≡ t = cc (own.ends, t_is) in
    let mine : t.worker ≡ worker = ap (λ (r : Transid). r.worker) (sym one) ∙ own.worker_is in
    let last = new.0 in
    elim (new.2 y there (record { tx = u; ends = u_is; worker_is = same ∙ mine })) [
      | inl e ↦ due u t (ap ended_by (sym e) ∙ u_is) t_is same
      | inr earlier ↦ before_trans u last.tx t (earlier u last.tx u_is last.ends (same ∙ mine ∙ sym last.worker_is)) (due last.tx t last.ends t_is (last.worker_is ∙ sym mine))
    ]

-- a request of another worker changes nothing of the newest one
newest_other : (w : ℕ) (last : Option MonitorRecord) (all : List MonitorRecord) (x : MonitorRecord) → IsNewest w last all → (IsOf w x → ⊥) → IsNewest w last (all ++ x ∷ [])
newest_other w None all x new other = λ y there of. elim (among_append all (x ∷ []) y there) [
  | inl a ↦ new y a of
  | inr b ↦ elim b [ inl e ↦ other (subst (λ (r : MonitorRecord). IsOf w r) (sym e) of) | inr none ↦ absurd none ]
]
newest_other w (Some z) all x new other = (
  new.0,
  among_left all (x ∷ []) z new.1,
  λ y there of. elim (among_append all (x ∷ []) y there) [
    | inl a ↦ new.2 y a of
    | inr b ↦ elim b [ inl e ↦ absurd (other (subst (λ (r : MonitorRecord). IsOf w r) (sym e) of)) | inr none ↦ absurd none ]
  ],
)

-- the request at the end is the newest of its worker
newest_here : (w : ℕ) (all : List MonitorRecord) (x : MonitorRecord) → IsOf w x → ((y : MonitorRecord) → Among all y → IsLater y x) → IsNewest w (Some x) (all ++ x ∷ [])
newest_here w all x own later = (
  own,
  among_right all (x ∷ []) x (inl refl),
  λ y there of. elim (among_append all (x ∷ []) y there) [
    | inl a ↦ inr (later y a)
    | inr b ↦ elim b [ inl e ↦ inl (sym e) | inr none ↦ absurd none ]
  ],
)

pub pushes : (n port worker : ℕ) (last : Option MonitorRecord) (v : Sharing) (x : MonitorRecord) → v ≡ asking worker last → IsOf worker x → IsDue last x → Pushes IsRuled n port v x (HasPushed v x)
pushes n port worker last v x is own due items views room h at =
    let w : Sharing = asking worker (Some x) in
    let mine = h.asks port v (last_push worker last) at (subst (λ (u : Sharing). Among u.asks (last_push worker last)) (sym is) (inl refl)) in
    let all : List MonitorRecord = h.popped ++ items in
    let same : all ++ x ∷ [] ≡ h.popped ++ (items ++ x ∷ []) = append_assoc h.popped items (x ∷ []) in
    let now : List MonitorRecord = h.popped ++ (items ++ x ∷ []) in
    let later : (y : MonitorRecord) → Among all y → IsLater y x = later_than worker last x own due all mine.1 in (
      w,
      record {
        popped = h.popped;
        popper = h.popper;
        askers = h.askers;
        rises = subst (λ (l : List MonitorRecord). AreLater [] l) same (later_push [] all x h.rises (λ y either. elim either [ inl none ↦ absurd none | inr a ↦ later y a ]));
        pops = λ j u l e has. each_set (PopsAt h.popper h.popped) views port w
            (λ g eq. absurd (none_some g eq))
            (λ k y other there g eq. h.pops k y g there eq) j u e l has;
        asks = λ j u t e has. each_set (AsksAt h.askers now) views port w
            (λ q here. elim here [
              | inl eq ↦ subst (λ (r : LastPush). (port ≡ h.askers r.worker) × IsNewest r.worker r.last now) eq (mine.0, subst (λ (l : List MonitorRecord). IsNewest worker (Some x) l) same (newest_here worker all x own later))
              | inr none ↦ absurd none
            ])
            (λ k z other there q here.
            (let old = h.asks k z q there here in
            (old.0, subst (λ (l : List MonitorRecord). IsNewest q.worker q.last l) same (newest_other q.worker q.last all x old.1 (λ of. other (old.0 ∙ ap h.askers (same_worker q.worker worker x of own) ∙ sym mine.0)))))) j u e t has;
        tells = λ j u y e has. each_set (TellsAt now) views port w
            (λ q none. absurd none)
            (λ k z other there q here. subst (λ (l : List MonitorRecord). Among l q) same (among_left all (x ∷ []) q (h.tells k z q there here))) j u e y has;
      },
      subst (λ (u : Sharing). HasPushed u x w) (sym is) refl,
    )
  where
    same_worker : (a b : ℕ) (x : MonitorRecord) → IsOf a x → IsOf b x → a ≡ b
    same_worker a b x p q = (let one : p.tx ≡ q.tx = cc (p.ends, q.ends) in sym p.worker_is ∙ ap (λ (z : Transid). z.worker) one ∙ q.worker_is)

-- the right to pop is cut off
pub forks_pops : (port : ℕ) (v : Sharing) (from : List MonitorRecord) → v.popped ≡ Some from → Forks IsRuled port v (without_pops v) (pops_of v)
forks_pops port v from is items views h at =
    let left : Sharing = without_pops v in
    let right : Sharing = pops_of v in
    let mine = h.pops port v from at is in
    let vs : List Sharing = set views port left in
    let all : List MonitorRecord = h.popped ++ items in
    record {
      popped = h.popped;
      popper = length vs;
      askers = h.askers;
      rises = h.rises;
      pops = λ j u l e has. each_more (PopsAt (length vs) h.popped) vs right
          (each_set (PopsAt (length vs) h.popped) views port left
          (λ g eq. absurd (none_some g eq))
          (λ k y other there g eq. absurd (other ((h.pops k y g there eq).0 ∙ sym mine.0))))
          (λ g eq. (refl, (h.pops port v g at eq).1)) j u e l has;
      asks = λ j u t e has. each_more (AsksAt h.askers all) vs right (each_set (AsksAt h.askers all) views port left (λ q here. h.asks port v q at here) (λ k z other there q here. h.asks k z q there here)) (λ q none. absurd none) j u e t has;
      tells = λ j u y e has. each_more (TellsAt all) vs right (each_set (TellsAt all) views port left (λ q here. h.tells port v q at here) (λ k z other there q here. h.tells k z q there here)) (λ q none. absurd none) j u e y has;
    }

keeps : (b : Bool) (a c : ℕ) → (b ≡ true → ⊥) → c ≡ cond b a c
keeps true a c never = absurd (never refl)
keeps false a c never = refl

-- the right to push for the first worker is cut off
pub forks_first : (port : ℕ) (v : Sharing) (w n : ℕ) → v.asks ≡ workers_from w (suc n) → Forks IsRuled port v (without_first v) (first_asking v)
forks_first port v w n is items views h at =
    let left : Sharing = without_first v in
    let right : Sharing = first_asking v in
    let mine = h.asks port v (last_push w None) at (subst (λ (l : List LastPush). Among l (last_push w None)) (sym is) (inl refl)) in
    let vs : List Sharing = set views port left in
    let all : List MonitorRecord = h.popped ++ items in
    let askers : ℕ → ℕ = λ e. cond (e == w) (length vs) (h.askers e) in
    record {
      popped = h.popped;
      popper = h.popper;
      askers = askers;
      rises = h.rises;
      pops = λ j u l e has. each_more (PopsAt h.popper h.popped) vs right
          (each_set (PopsAt h.popper h.popped) views port left (λ g eq. h.pops port v g at eq) (λ k y other there g eq. h.pops k y g there eq))
          (λ g eq. absurd (none_some g eq)) j u e l has;
      asks = λ j u t e has. each_more (AsksAt askers all) vs right
          (each_set (AsksAt askers all) views port left
          (λ q here.
          (let there : Among (workers_from (suc w) n) q = subst (λ (l : List LastPush). Among (other_pushes l) q) is here in
          let old = h.asks port v q at (subst (λ (l : List LastPush). Among l q) (sym is) (inr there)) in
          let high = no_earlier_worker (suc w) n q there in
          (old.0 ∙ keeps (q.worker == w) (length vs) (h.askers q.worker) (λ yes. (let eq = eqb-true q.worker w yes in absurd (omega (arith, high, eq)))), old.1)))
          (λ k z other there q here. (let old = h.asks k z q there here in (old.0 ∙ keeps (q.worker == w) (length vs) (h.askers q.worker) (λ yes. other (old.0 ∙ ap h.askers (eqb-true q.worker w yes) ∙ sym mine.0)), old.1))))
          (λ q here. elim (subst (λ (l : List LastPush). Among (first_push l) q) is here) [
            | inl eq ↦ subst (λ (r : LastPush). (length vs ≡ askers r.worker) × IsNewest r.worker r.last all) eq (sym (ap (λ b. cond b (length vs) (h.askers w)) (eq-eqb w w refl)), mine.1)
            | inr none ↦ absurd none
          ]) j u e t has;
      tells = λ j u y e has. each_more (TellsAt all) vs right (each_set (TellsAt all) views port left (λ q here. h.tells port v q at here) (λ k z other there q here. h.tells k z q there here)) (λ q none. absurd none) j u e y has;
    }

-- a last request is that of a worker
last_of : (asks : List LastPush) (y : MonitorRecord) → Among (lasts asks) y → (t : LastPush) × Among asks t × (t.last ≡ Some y)
last_of [] y h = absurd h
last_of (t ∷ ts) y h = at t.last refl h (λ here. last_of ts y here)
  where
    at : (o : Option MonitorRecord) → t.last ≡ o → Among (and_last o (lasts ts)) y → (Among (lasts ts) y → (r : LastPush) × Among ts r × (r.last ≡ Some y)) → (r : LastPush) × Among (t ∷ ts) r × (r.last ≡ Some y)
    at None is here more = (let rest = more here in (rest.0, inr rest.1, rest.2))
    at (Some z) is (inl e) more = (t, inl refl, is ∙ ap (λ (x : MonitorRecord). Some x) e)
    at (Some z) is (inr here) more = (let rest = more here in (rest.0, inr rest.1, rest.2))

newest_there : (w : ℕ) (o : Option MonitorRecord) (y : MonitorRecord) (all : List MonitorRecord) → o ≡ Some y → IsNewest w o all → Among all y
newest_there w o y all is new = (subst (λ (x : Option MonitorRecord). IsNewest w x all) is new).1

-- another pass is told which requests this one has pushed last
pub forks_told : (port : ℕ) (v : Sharing) → Forks IsRuled port v v (knowing (lasts v.asks))
forks_told port v items views h at =
    let right : Sharing = knowing (lasts v.asks) in
    let vs : List Sharing = set views port v in
    let all : List MonitorRecord = h.popped ++ items in
    record {
      popped = h.popped;
      popper = h.popper;
      askers = h.askers;
      rises = h.rises;
      pops = λ j u l e has. each_more (PopsAt h.popper h.popped) vs right
          (each_set (PopsAt h.popper h.popped) views port v (λ g eq. h.pops port v g at eq) (λ k y other there g eq. h.pops k y g there eq))
          (λ g eq. absurd (none_some g eq)) j u e l has;
      asks = λ j u t e has. each_more (AsksAt h.askers all) vs right (each_set (AsksAt h.askers all) views port v (λ q here. h.asks port v q at here) (λ k z other there q here. h.asks k z q there here)) (λ q none. absurd none) j u e t has;
      tells = λ j u y e has. each_more (TellsAt all) vs right
          (each_set (TellsAt all) views port v (λ q here. h.tells port v q at here) (λ k z other there q here. h.tells k z q there here))
          (λ q here. (let t = last_of v.asks q here in newest_there t.0.worker t.0.last q all t.2 (h.asks port v t.0 at t.1).1)) j u e y has;
    }

-- what another pass was told is told
pub merges_told : (port : ℕ) (v : Sharing) (other : ℕ) (w : Sharing) → Merges IsRuled port v other w (with_told v w) (knowing [])
merges_told port v other w items views h at apart there =
    let both : Sharing = with_told v w in
    let spent : Sharing = knowing [] in
    let vs : List Sharing = set views port both in
    let all : List MonitorRecord = h.popped ++ items in
    let was : get_elem? views other ≡ some w = ⊎_elim (λ (x : (other ≡ port) × (both ≡ w)). absurd (apart x.0)) (λ (x : (other ≢ port) × (get_elem? views other ≡ some w)). x.1) (at_set views port other both w there) in
    record {
      popped = h.popped;
      popper = h.popper;
      askers = h.askers;
      rises = h.rises;
      pops = λ j u l e has. each_set (PopsAt h.popper h.popped) vs other spent
          (λ g eq. absurd (none_some g eq))
          (λ k y _ now. each_set (PopsAt h.popper h.popped) views port both (λ f eq. h.pops port v f at eq) (λ i z _ then f eq. h.pops i z f then eq) k y now) j u e l has;
      asks = λ j u t e has. each_set (AsksAt h.askers all) vs other spent
          (λ q none. absurd none)
          (λ k z _ now. each_set (AsksAt h.askers all) views port both (λ p here. h.asks port v p at here) (λ i x _ then p here. h.asks i x p then here) k z now) j u e t has;
      tells = λ j u y e has. each_set (TellsAt all) vs other spent
          (λ q none. absurd none)
          (λ k z _ now. each_set (TellsAt all) views port both
          (λ q here. elim (among_append w.told v.told q here) [ inl theirs ↦ h.tells other w q was theirs | inr mine ↦ h.tells port v q at mine ])
          (λ i x _ then q here. h.tells i x q then here) k z now) j u e y has;
    }

-- of an empty queue, all that was told was popped
pub learns : (port : ℕ) (v : Sharing) (from told : List MonitorRecord) → v ≡ popping from told → Learns IsRuled port v (EmptyTells v)
learns port v from told is items views h at none x has =
    let popped = ap (λ (u : Sharing). u.popped) is in
    let mine = h.pops port v from at popped in
    let there : Among (h.popped ++ []) x = subst (λ (l : List MonitorRecord). Among (h.popped ++ l) x) none (h.tells port v x at has) in
    let here : Among h.popped x = subst (λ (l : List MonitorRecord). Among l x) (append-nil h.popped) there in
    subst (λ (o : Option (List MonitorRecord)). Among (listed o) x) (sym popped) (subst (λ (l : List MonitorRecord). Among l x) (sym mine.1) here)

-- the pass that pops still pops, whether it has popped or not
pub popped_still : (X Y : Type 0) (r : Option MonitorRecord) (old new : Sharing) → old ≡ popping (listed old.popped) old.told → MatchOption r ((new ≡ old) × X) (λ x. HasPopped old x new × Y) → new ≡ popping (listed new.popped) new.told
popped_still X Y None old new is h = h.0 ∙ is ∙ ap (λ (s : Sharing). popping (listed s.popped) s.told) (sym h.0)
popped_still X Y (Some x) old new is h =
    let e : new ≡ popping (listed old.popped ++ x ∷ []) old.told = subst (λ (s : Sharing). HasPopped s x new) is h.0 in
    e ∙ ap (λ (s : Sharing). popping (listed s.popped) s.told) (sym e)

-- what the end has popped once a pass has popped, and what it is told
pub end_popped : (old new : Sharing) (x : MonitorRecord) (empties : ℕ) → old ≡ popping (listed old.popped) old.told → HasPopped old x new → ArePopped (x ∷ []) (end_of old empties) (end_of new empties)
end_popped old new x empties is h =
    let e : new ≡ popping (listed old.popped ++ x ∷ []) old.told = subst (λ (s : Sharing). HasPopped s x new) is h in
    record { popped = ap (λ (s : Sharing). listed s.popped) e; told = ap (λ (s : Sharing). s.told) e; later = omega arith }

-- a pop that found none
pub end_empty : (old new : Sharing) (a b : ℕ) → new ≡ old → AllPopped old.told (listed old.popped) → a ≤ b → Rose a b → ArePopped [] (end_of old a) (end_of new b) × HasFoundEmpty (end_of old a) (end_of new b)
end_empty old new a b same all later rose = (
  record { popped = ap (λ (s : Sharing). listed s.popped) same ∙ sym (append-nil (listed old.popped)); told = ap (λ (s : Sharing). s.told) same; later = later },
  record { rose = rose; drained = subst (λ (s : Sharing). AllPopped s.told (listed s.popped)) (sym same) all },
)

-- THE PASSES OF THE WORKERS, ONE BEHIND THE OTHER

pub left_over : (v : Sharing) (w : ℕ) → w < 17 → v ≡ asking_for (workers_from w (17 - w)) → v ≡ asking_for (workers_from w (suc (16 - w)))
left_over v w less is = (let same : 17 - w ≡ suc (16 - w) = omega (arith, less) in is ∙ ap (λ (n : ℕ). asking_for (workers_from w n)) same)

pub first_cut : (v : Sharing) (w n : ℕ) → v ≡ asking_for (workers_from w (suc n)) → first_asking v ≡ asking w None
first_cut v w n is = ap first_asking is

pub rest_cut : (v : Sharing) (w n k m : ℕ) → v ≡ asking_for (workers_from w (suc n)) → suc w ≡ k → n ≡ m → without_first v ≡ asking_for (workers_from k m)
rest_cut v w n k m is next fewer = ap without_first is ∙ ap (λ (j : ℕ). asking_for (workers_from j n)) next ∙ ap (λ (j : ℕ). asking_for (workers_from k j)) fewer

-- a request that the last one covers
pub as_far : (t : LastPush) (tx : Transid) (x last : MonitorRecord) → ended_by x ≡ Some tx → tx.worker ≡ t.worker → IsCovered t tx (Some last) → IsAsFar x last
as_far t tx x last ends own covered =
    let mine = covered.1 in
    record { tx = tx; ends = ends; other = mine.tx; other_ends = mine.ends; worker = mine.worker_is ∙ sym own; late = covered.2 mine.tx mine.ends }

-- a request is as far as itself
pub as_far_itself : (tx : Transid) (x y : MonitorRecord) → ended_by x ≡ Some tx → y ≡ x → IsAsFar x y
as_far_itself tx x y ends same =
    record { tx = tx; ends = ends; other = tx; other_ends = ap ended_by same ∙ ends; worker = refl; late = λ before. not_before tx tx (inl refl) before }
