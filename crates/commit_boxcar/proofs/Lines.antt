-- The line of a run's records goes on being one that may be recorded.
use Rattle.std.specs.Prelude.{ℕ, ◌+◌, ◌*◌, ◌<◌, ◌≤◌, List, [], ◌∷◌, ◌++◌, length, Option, Some, None, slice_get, replicate}
use Rattle.std.proofs.Common.{◌≡◌, ◌≢◌, ◌⊎◌, zero, suc, true, inl, inr, ⊎_elim, refl, ap, sym, ◌∙◌, subst, arith, append_assoc, append-nil, length-append, length-set, set}
use Rattle.std.proofs.lemmas.Bool.{cases_eq}
use Rattle.std.proofs.lemmas.Bool.Decides.{nat_tests}
use Rattle.tmf_model.specs.Transid.{is_transid}
use Rattle.tmf_model.specs.declared.transid.Transid.{Transid}
use Rattle.tmf_model.specs.declared.script.Close.TheVariants.{Commit as Committing, Abort as Aborting}
use Rattle.trail_files.specs.declared.monitor_record.MonitorRecord.{MonitorRecord}
use Rattle.trail_files.specs.declared.monitor_record.MonitorRecord.TheVariants.{Start, Commit, Abort}
use Rattle.trail_files.specs.MonitorFormat.{is_monitor_record}
use Rattle.node_machine.specs.Parts.{MonitorPart, Fact}
use Rattle.node_machine.specs.Parts.Fact.{Decided, Closed, Durable}
use Rattle.node_machine.specs.Monitor.{recorded, ended_by, IsLater, AreLater, IsBacked, StandsAt}
use Rattle.node_machine.specs.Same.{Among, IsBefore}
use Rattle.node_machine.specs.SameLaws.{among_append}
use Rattle.commit_boxcar.specs.Line.{IsNext, MayBeLast, IsAsked, StandsIn, IsEntry, IsFree, HasPlace, rank_of, rank_at, total, IsLine, AreTaken}
use Rattle.commit_boxcar.specs.declared.room.Taken.{Taken}

pub before_trans : (a b c : Transid) → IsBefore a b → IsBefore b c → IsBefore a c
before_trans a b c (inl p) (inl q) = inl (omega (arith, p, q))
before_trans a b c (inl p) (inr q) = (let e = q.0 in inl (omega (arith, p, e)))
before_trans a b c (inr p) (inl q) = (let e = p.0 in inl (omega (arith, q, e)))
before_trans a b c (inr p) (inr q) = (let d = p.0 in let e = q.0 in let f = p.1 in let h = q.1 in inr (d ∙ e, omega (arith, f, h)))

-- no attempt came before itself, nor before one that came before it
pub not_before : (a b : Transid) → (a ≡ b) ⊎ IsBefore a b → IsBefore b a → ⊥
not_before a b (inl e) (inl q) = (let o = ap (λ (t : Transid). t.ordinal) e in absurd (omega (arith, o, q)))
not_before a b (inl e) (inr q) = (let o = ap (λ (t : Transid). t.attempt) e in let r = q.1 in absurd (omega (arith, o, r)))
not_before a b (inr (inl p)) (inl q) = absurd (omega (arith, p, q))
not_before a b (inr (inl p)) (inr q) = (let e = q.0 in absurd (omega (arith, p, e)))
not_before a b (inr (inr p)) (inl q) = (let e = p.0 in absurd (omega (arith, q, e)))
not_before a b (inr (inr p)) (inr q) = (let f = p.1 in let h = q.1 in absurd (omega (arith, f, h)))

-- LATER RECORDS

later_fewer : (a b xs : List MonitorRecord) → ((y : MonitorRecord) → Among b y → Among a y) → AreLater a xs → AreLater b xs
later_fewer a b [] sub h = tt
later_fewer a b (x ∷ xs) sub h = (λ y there. h.0 y (sub y there), later_fewer (x ∷ a) (x ∷ b) xs (λ y there. elim there [ inl e ↦ inl e | inr r ↦ inr (sub y r) ]) h.1)

-- those behind the first ones are later than these
pub later_right : (before xs all ys : List MonitorRecord) → AreLater before (xs ++ ys) → ((y : MonitorRecord) → Among all y → Among before y ⊎ Among xs y) → AreLater all ys
later_right before [] all ys h sub = later_fewer before all ys (λ y there. elim (sub y there) [ inl a ↦ a | inr none ↦ absurd none ]) h
later_right before (x ∷ xs) all ys h sub =
    later_right (x ∷ before) xs all ys h.1 (λ y there. elim (sub y there) [ inl a ↦ inl (inr a) | inr b ↦ elim b [ inl e ↦ inl (inl e) | inr c ↦ inr c ] ])

pub later_push : (before xs : List MonitorRecord) (r : MonitorRecord) → AreLater before xs → ((y : MonitorRecord) → Among before y ⊎ Among xs y → IsLater y r) → AreLater before (xs ++ r ∷ [])
later_push before [] r h after = (λ y there. after y (inl there), tt)
later_push before (x ∷ xs) r h after =
    (h.0, later_push (x ∷ before) xs r h.1 (λ y either. after y (elim either [ inl a ↦ elim a [ inl e ↦ inr (inl e) | inr b ↦ inl b ] | inr b ↦ inr (inr b) ])))

-- TABLES

pub get_set : {A : Type 0} (xs : List A) (k w : ℕ) (v x : A) → slice_get (set xs k v) w ≡ Some x → ((x ≡ v) × (w ≡ k)) ⊎ (slice_get xs w ≡ Some x)
get_set [] k w v x at = inr at
get_set (y ∷ xs) zero zero v x at = inl (cc (at), refl)
get_set (y ∷ xs) zero (suc w) v x at = inr at
get_set (y ∷ xs) (suc k) zero v x at = inr at
get_set (y ∷ xs) (suc k) (suc w) v x at = elim (get_set xs k w v x at) [ inl p ↦ inl (p.0, ap suc p.1) | inr q ↦ inr q ]

get_set_same : {A : Type 0} (xs : List A) (k : ℕ) (x : A) → k < length xs → slice_get (set xs k x) k ≡ Some x
get_set_same [] k x lt = absurd (omega (arith, lt))
get_set_same (y ∷ xs) zero x lt = refl
get_set_same (y ∷ xs) (suc k) x lt = get_set_same xs k x (omega (arith, lt))

get_set_other : {A : Type 0} (xs : List A) (k j : ℕ) (x : A) → j ≢ k → slice_get (set xs k x) j ≡ slice_get xs j
get_set_other [] k j x ne = refl
get_set_other (y ∷ xs) zero zero x ne = absurd (ne refl)
get_set_other (y ∷ xs) zero (suc j) x ne = refl
get_set_other (y ∷ xs) (suc k) zero x ne = refl
get_set_other (y ∷ xs) (suc k) (suc j) x ne = get_set_other xs k j x (λ e. ne (ap suc e))

get_some : {A : Type 0} (xs : List A) (k : ℕ) → k < length xs → (x : A) × (slice_get xs k ≡ Some x)
get_some [] k lt = absurd (omega (arith, lt))
get_some (x ∷ xs) zero lt = (x, refl)
get_some (x ∷ xs) (suc k) lt = get_some xs k (omega (arith, lt))

get_more : {A : Type 0} (xs ys : List A) (k : ℕ) (x : A) → slice_get xs k ≡ Some x → slice_get (xs ++ ys) k ≡ Some x
get_more [] ys k x at = absurd (cc (at))
get_more (y ∷ xs) ys zero x at = at
get_more (y ∷ xs) ys (suc k) x at = get_more xs ys k x at

pub get_left : {A : Type 0} (xs ys : List A) (k : ℕ) (x : A) → k < length xs → slice_get (xs ++ ys) k ≡ Some x → slice_get xs k ≡ Some x
get_left [] ys k x short at = absurd (omega (arith, short))
get_left (y ∷ xs) ys zero x short at = at
get_left (y ∷ xs) ys (suc k) x short at = get_left xs ys k x (omega (arith, short)) at

pub get_last : {A : Type 0} (xs : List A) (x : A) → slice_get (xs ++ x ∷ []) (length xs) ≡ Some x
get_last [] x = refl
get_last (y ∷ xs) x = get_last xs x

among_at : {A : Type 0} (xs : List A) (k : ℕ) (x : A) → slice_get xs k ≡ Some x → Among xs x
among_at [] k x at = absurd (cc (at))
among_at (y ∷ xs) zero x at = inl (cc (at))
among_at (y ∷ xs) (suc k) x at = inr (among_at xs k x at)

none_at : {A : Type 0} (n w : ℕ) (x : A) → slice_get (replicate n None) w ≡ Some (Some x) → ⊥
none_at zero w x at = absurd (cc (at))
none_at (suc n) zero x at = absurd (cc (at))
none_at (suc n) (suc w) x at = none_at n w x at

-- RANGES AND RANKS

abbrev pub IsInRange : Transid → Type 0
IsInRange tx = (tx.worker ≤ 16) × (1 ≤ tx.ordinal) × (tx.ordinal ≤ 4096) × (1 ≤ tx.attempt) × (tx.attempt ≤ 8)

in_range : (tx : Transid) → is_transid tx ≡ true → IsInRange tx
in_range tx h = (grind (arith, nat_tests), grind (arith, nat_tests), grind (arith, nat_tests), grind (arith, nat_tests), grind (arith, nat_tests))

pub range_of : (r : MonitorRecord) (tx : Transid) → is_monitor_record r ≡ true → ended_by r ≡ Some tx → IsInRange tx
range_of (Start e) tx h is = absurd (cc (is))
range_of (Commit t) tx h is = (let same : t ≡ tx = cc (is) in subst (λ (x : Transid). IsInRange x) same (in_range t h))
range_of (Abort t) tx h is = (let same : t ≡ tx = cc (is) in subst (λ (x : Transid). IsInRange x) same (in_range t h))

total_set : (xs : List (Option Taken)) (k : ℕ) (o v : Option Taken) → slice_get xs k ≡ Some o → total (set xs k v) + rank_at o ≡ total xs + rank_at v
total_set [] k o v at = absurd (cc (at))
total_set (x ∷ xs) zero o v at = (let same : x ≡ o = cc (at) in let r = ap rank_at same in omega (arith, r))
total_set (x ∷ xs) (suc k) o v at = (let rest = total_set xs k o v at in omega (arith, rest))

total_small : (xs : List (Option Taken)) → ((w : ℕ) (o : Option Taken) → slice_get xs w ≡ Some o → rank_at o ≤ 32776) → total xs ≤ 32776 * length xs
total_small [] h = omega arith
total_small (x ∷ xs) h = (let one = h 0 x refl in let rest = total_small xs (λ w o at. h (suc w) o at) in omega (arith, one, rest))

-- MORE KNOWLEDGE

pub backed_more : (t u : Fact → Type 0) → ((f : Fact) → t f → u f) → (x : MonitorRecord) → IsBacked t x → IsBacked u x
backed_more t u more (Start epoch) a = a
backed_more t u more (Commit tx) a = (a.0, more (Decided tx Committing a.0) a.1, λ d is. (let h = a.2 d is in (h.0, more (Closed tx d h.0) h.1, more (Durable d h.0) h.2)))
backed_more t u more (Abort tx) a = (a.0, more (Decided tx Aborting a.0) a.1)

pub asked_more : (t u : Fact → Type 0) (epoch : ℕ) → ((f : Fact) → t f → u f) → (x : MonitorRecord) → IsAsked t epoch x → IsAsked u epoch x
asked_more t u epoch more x a = record { request = a.request; valid = a.valid; backed = backed_more t u more x a.backed }

pub line_more : (t u : Fact → Type 0) (epoch places : ℕ) (line : List MonitorRecord) (last : List (Option Taken)) → ((f : Fact) → t f → u f) → IsLine t epoch places line last → IsLine u epoch places line last
line_more t u epoch places line last more is = record {
  each = λ x there. asked_more t u epoch more x (is.each x there);
  later = is.later;
  entries = is.entries;
  kept = is.kept;
  counted = is.counted;
  many = is.many;
}

-- a run that has recorded nothing
pub line_none : (known : Fact → Type 0) (epoch places : ℕ) → IsLine known epoch places [] (replicate 17 None)
line_none known epoch places = record {
  each = λ x there. absurd there;
  later = tt;
  entries = λ w e at. absurd (none_at 17 w e at);
  kept = λ y t there is. absurd there;
  counted = omega arith;
  many = refl;
}

module _ (known : Fact → Type 0) (epoch places : ℕ) (line : List MonitorRecord) (last : List (Option Taken)) (is : IsLine known epoch places line last) where
  entry_range : (w : ℕ) (e : Taken) → slice_get last w ≡ Some (Some e) → (tx : Transid) × (ended_by e.request ≡ Some tx) × IsInRange tx
  entry_range w e at =
      let entry = is.entries w e at in
      (entry.tx, entry.ends, range_of e.request entry.tx (is.each e.request (among_at line entry.stands.index e.request entry.stands.at)).valid entry.ends)

  small : (w : ℕ) (o : Option Taken) → slice_get last w ≡ Some o → rank_at o ≤ 32776
  small w None at = omega arith
  small w (Some e) at =
      let r = entry_range w e at in
      let rank : rank_at (Some e) ≡ 8 * r.0.ordinal + r.0.attempt = ap rank_of r.1 in
      let a = r.2.2 in
      let b = r.2.4 in
      omega (arith, rank, a, b)

  -- the line is short
  pub line_short : length line ≤ 557192
  line_short = (let a = is.counted in let b = total_small last small in let c = is.many in omega (arith, a, b, c))

  -- a request that finds its worker's entry free is later than the line's
  pub free_next : (r : MonitorRecord) (tx : Transid) → ended_by r ≡ Some tx → IsFree last tx → IsNext line r
  free_next r tx r_is free y there u t u_is t_is same =
      let one : t ≡ tx = cc (t_is, r_is) in
      let k = is.kept y u there u_is in
      let at : slice_get last tx.worker ≡ Some (Some k.entry) = ap (λ (n : ℕ). slice_get last n) (ap (λ (x : Transid). x.worker) (sym one) ∙ sym same) ∙ k.at in
      let later : IsBefore k.tx tx = free k.entry k.tx at k.ends in
      subst (λ (x : Transid). IsBefore u x) (sym one) (elim k.reaches [ inl e ↦ subst (λ (x : Transid). IsBefore x tx) (sym e) later | inr b ↦ before_trans u k.tx tx b later ])

  -- and the other way round
  pub next_free : (r : MonitorRecord) (tx : Transid) → ended_by r ≡ Some tx → IsNext line r → IsFree last tx
  next_free r tx r_is next e u at u_is =
      let entry = is.entries tx.worker e at in
      let one : entry.tx ≡ u = cc (entry.ends, u_is) in
      next e.request (among_at line entry.stands.index e.request entry.stands.at) u tx u_is r_is (ap (λ (x : Transid). x.worker) (sym one) ∙ entry.worker_is)

  rises : (r : MonitorRecord) (tx : Transid) (place : ℕ) → ended_by r ≡ Some tx → IsInRange tx → IsFree last tx → total last + 1 ≤ total (set last tx.worker (Some (record { request = r; place = place })))
  rises r tx place r_is range free =
      let worker = range.0 in
      let one = range.1 in
      let least = range.3 in
      let long = is.many in
      let there = get_some last tx.worker (omega (arith, worker, long)) in
      let new : Taken = record { request = r; place = place } in
      let rank : rank_at (Some new) ≡ 8 * tx.ordinal + tx.attempt = ap rank_of r_is in
      at there.0 there.1 new rank (omega (arith, one)) (omega (arith, least))
    where
      at : (o : Option Taken) → slice_get last tx.worker ≡ Some o → (new : Taken) → rank_at (Some new) ≡ 8 * tx.ordinal + tx.attempt → 1 ≤ tx.ordinal → 1 ≤ tx.attempt → total last + 1 ≤ total (set last tx.worker (Some new))
      at None there new rank one least = (let sum = total_set last tx.worker None (Some new) there in omega (arith, sum, rank, one))
      at (Some e) there new rank one least =
          let old = entry_range tx.worker e there in
          let before : IsBefore old.0 tx = free e old.0 there old.1 in
          let low : rank_at (Some e) ≡ 8 * old.0.ordinal + old.0.attempt = ap rank_of old.1 in
          let short = old.2.4 in
          let sum = total_set last tx.worker (Some e) (Some new) there in
          elim before [
            | inl lt ↦ omega (arith, sum, rank, low, lt, short, least)
            | inr both ↦ (let same = both.0 in let lt = both.1 in omega (arith, sum, rank, low, same, lt))
          ]

  -- one more request
  pub line_push : (r : MonitorRecord) (tx : Transid) (place : ℕ) → IsAsked known epoch r → ended_by r ≡ Some tx → IsFree last tx → place ≡ places + length line + 1
      → IsLine known epoch places (line ++ r ∷ []) (set last tx.worker (Some (record { request = r; place = place })))
  line_push r tx place asked r_is free place_is =
      let range = range_of r tx asked.valid r_is in
      let next = free_next r tx r_is free in
      let new : Taken = record { request = r; place = place } in
      let worker = range.0 in
      let long = is.many in
      let fits : tx.worker < length last = omega (arith, worker, long) in
      let more = length-append line (r ∷ []) in
      record {
        each = λ x there. elim (among_append line (r ∷ []) x there) [ inl a ↦ is.each x a | inr b ↦ elim b [ inl e ↦ subst (λ (y : MonitorRecord). IsAsked known epoch y) e asked | inr none ↦ absurd none ] ];
        later = later_push [] line r is.later (λ y either. elim either [ inl none ↦ absurd none | inr a ↦ next y a ]);
        entries = λ w e at. elim (get_set last tx.worker w (Some new) (Some e) at) [
          | inl p ↦
              let same : new ≡ e = cc (p.0) in
              subst (λ (x : Taken). IsEntry places (line ++ r ∷ []) w x) same (record { tx = tx; ends = r_is; worker_is = sym p.1; stands = record { index = length line; place_is = place_is; at = get_last line r } })
          | inr old ↦
              let entry = is.entries w e old in
              record { tx = entry.tx; ends = entry.ends; worker_is = entry.worker_is; stands = record { index = entry.stands.index; place_is = entry.stands.place_is; at = get_more line (r ∷ []) entry.stands.index e.request entry.stands.at } }
        ];
        kept = λ y t there t_is. elim (among_append line (r ∷ []) y there) [
          | inl a ↦ ⊎_elim
              (λ (same : t.worker ≡ tx.worker). record { entry = new; at = ap (λ (n : ℕ). slice_get (set last tx.worker (Some new)) n) same ∙ get_set_same last tx.worker (Some new) fits; tx = tx; ends = r_is; reaches = inr (next y a t tx t_is r_is same) })
              (λ (other : t.worker ≢ tx.worker). let k = is.kept y t a t_is in record { entry = k.entry; at = get_set_other last tx.worker t.worker (Some new) other ∙ k.at; tx = k.tx; ends = k.ends; reaches = k.reaches })
              (cases_eq t.worker tx.worker)
          | inr b ↦ elim b [
            | inl e ↦
                let same : t ≡ tx = cc (t_is, r_is, ap ended_by e) in
                record { entry = new; at = ap (λ (x : Transid). slice_get (set last tx.worker (Some new)) x.worker) same ∙ get_set_same last tx.worker (Some new) fits; tx = tx; ends = r_is; reaches = inl same }
            | inr none ↦ absurd none
          ]
        ];
        counted = (let up = rises r tx place r_is range free in let before = is.counted in omega (arith, up, before, more));
        many = length-set last tx.worker (Some new) ∙ is.many;
      }

  -- where a request's place is, where it has one
  pub place_stands : (r : MonitorRecord) (place : ℕ) → HasPlace last r (Some place) → StandsIn places line r place
  place_stands r place has = (is.entries has.0.worker (record { request = r; place = place }) has.2).stands

  -- a request that may be the last of its worker, and has no entry, is later than each of the line
  pub none_placed : (r : MonitorRecord) → MayBeLast line r → HasPlace last r None → IsNext line r
  none_placed r may none y there u t u_is t_is same = elim (may y there) [
    | inr later ↦ later u t u_is t_is same
    | inl e ↦
        let k = is.kept r t (subst (λ (x : MonitorRecord). Among line x) e there) t_is in
        let entry = is.entries t.worker k.entry k.at in
        let one : entry.tx ≡ k.tx = cc (entry.ends, k.ends) in
        elim (may k.entry.request (among_at line entry.stands.index k.entry.request entry.stands.at)) [
          | inl this ↦ absurd (none t k.entry.place t_is (k.at ∙ ap (λ (x : MonitorRecord). Some (Some (record { request = x; place = k.entry.place }))) this))
          | inr later ↦ absurd (not_before t k.tx k.reaches (later k.tx t k.ends t_is (ap (λ (x : Transid). x.worker) (sym one) ∙ entry.worker_is)))
        ]
  ]

-- what stands at a place that has landed is recorded
pub stands_landed : (part : MonitorPart) (found places place : ℕ) (rest : List MonitorRecord) (x : MonitorRecord) → part.places ≡ found → places ≡ found + length (recorded part.events) → place ≤ places → StandsIn found (recorded part.events ++ rest) x place → StandsAt part x place
stands_landed part found places place rest x same count low s =
    let is = s.place_is in
    record { index = s.index; place_is = omega (arith, is, same); at = get_left (recorded part.events) rest s.index x (omega (arith, is, count, low)) s.at }

long_enough : {A : Type 0} (xs : List A) (k : ℕ) (x : A) → slice_get xs k ≡ Some x → k < length xs
long_enough [] k x at = absurd (cc (at))
long_enough (y ∷ xs) zero x at = omega arith
long_enough (y ∷ xs) (suc k) x at = (let rest = long_enough xs k x at in omega (arith, rest))

-- where all has landed, nothing stands behind it
pub stands_behind : {P : Type 0} (found places place : ℕ) (done batch room : List MonitorRecord) (x : MonitorRecord) → places ≡ found + length done → places < place → batch ≡ [] → room ≡ [] → StandsIn found (done ++ (batch ++ room)) x place → P
stands_behind found places place done batch room x count high none empty s =
    let is = s.place_is in
    let at = long_enough (done ++ (batch ++ room)) s.index x s.at in
    let a = length-append done (batch ++ room) in
    let b = length-append batch room in
    let c = ap (λ (l : List MonitorRecord). length l) none in
    let d = ap (λ (l : List MonitorRecord). length l) empty in
    absurd (omega (arith, is, at, a, b, c, d, count, high))

-- THE PARTS OF A LINE

-- what is written has landed, and the line is the same
pub line_landed : (done batch room : List MonitorRecord) → (done ++ batch) ++ ([] ++ room) ≡ done ++ (batch ++ room)
line_landed done batch room = append_assoc done batch room

-- what was taken is written, and the line is the same
pub line_offered : (done batch room : List MonitorRecord) → batch ≡ [] → done ++ (room ++ []) ≡ done ++ (batch ++ room)
line_offered done batch room none = ap (λ (l : List MonitorRecord). done ++ l) (append-nil room ∙ ap (λ (l : List MonitorRecord). l ++ room) (sym none))

-- one more request behind it
pub line_taken : (done batch room more : List MonitorRecord) → done ++ (batch ++ (room ++ more)) ≡ (done ++ (batch ++ room)) ++ more
line_taken done batch room more = ap (λ (l : List MonitorRecord). done ++ l) (sym (append_assoc batch room more)) ∙ sym (append_assoc done (batch ++ room) more)

-- TAKING REQUESTS

pub taken_push : (line front taken : List MonitorRecord) (x : MonitorRecord) → AreTaken line front taken → IsNext (line ++ taken) x → AreTaken line (front ++ x ∷ []) (taken ++ x ∷ [])
taken_push line [] taken x are next =
    inl (subst (λ (l : List MonitorRecord). IsNext l x) (ap (λ (l : List MonitorRecord). line ++ l) are ∙ append-nil line) next, ([], ap (λ (l : List MonitorRecord). l ++ x ∷ []) are, refl))
taken_push line (y ∷ front) taken x (inl a) next =
    inl (
      a.0,
      (
        a.1.0 ++ x ∷ [],
        ap (λ (l : List MonitorRecord). l ++ x ∷ []) a.1.1,
        taken_push (line ++ y ∷ []) front a.1.0 x a.1.2 (subst (λ (l : List MonitorRecord). IsNext l x) (ap (λ (l : List MonitorRecord). line ++ l) a.1.1 ∙ sym (append_assoc line (y ∷ []) a.1.0)) next),
      ),
    )
taken_push line (y ∷ front) taken x (inr b) next = inr (b.0, taken_push line front taken x b.1 next)

pub taken_pass : (line front taken : List MonitorRecord) (x : MonitorRecord) → AreTaken line front taken → (IsNext (line ++ taken) x → ⊥) → AreTaken line (front ++ x ∷ []) taken
taken_pass line [] taken x are not_next =
    inr (λ next. not_next (subst (λ (l : List MonitorRecord). IsNext l x) (sym (ap (λ (l : List MonitorRecord). line ++ l) are ∙ append-nil line)) next), are)
taken_pass line (y ∷ front) taken x (inl a) not_next =
    inl (
      a.0,
      (
        a.1.0,
        a.1.1,
        taken_pass (line ++ y ∷ []) front a.1.0 x a.1.2 (λ next. not_next (subst (λ (l : List MonitorRecord). IsNext l x) (sym (ap (λ (l : List MonitorRecord). line ++ l) a.1.1 ∙ sym (append_assoc line (y ∷ []) a.1.0))) next)),
      ),
    )
taken_pass line (y ∷ front) taken x (inr b) not_next = inr (b.0, taken_pass line front taken x b.1 not_next)

-- one row of requests taken behind the other
pub taken_then : (line front taken more rest : List MonitorRecord) → AreTaken line front taken → AreTaken (line ++ taken) more rest → AreTaken line (front ++ more) (taken ++ rest)
taken_then line [] taken more rest are then_ =
    subst (λ (l : List MonitorRecord). AreTaken line more (l ++ rest)) (sym are)
    (subst (λ (l : List MonitorRecord). AreTaken l more rest) (ap (λ (l : List MonitorRecord). line ++ l) are ∙ append-nil line) then_)
taken_then line (y ∷ front) taken more rest (inl a) then_ =
    inl (
      a.0,
      (
        a.1.0 ++ rest,
        ap (λ (l : List MonitorRecord). l ++ rest) a.1.1,
        taken_then (line ++ y ∷ []) front a.1.0 more rest a.1.2
            (subst (λ (l : List MonitorRecord). AreTaken l more rest) (ap (λ (l : List MonitorRecord). line ++ l) a.1.1 ∙ sym (append_assoc line (y ∷ []) a.1.0)) then_),
      ),
    )
taken_then line (y ∷ front) taken more rest (inr b) then_ = inr (b.0, taken_then line front taken more rest b.1 then_)
