-- What a base and the audit come to: the value that recovery reads is that of any layout. And lists, element by element.
use Rattle.std.specs.Prelude.{◌≡◌, ℕ, zero, suc, ◌+◌, ◌<◌, ◌==◌, ◌&&◌, ◌||◌, nat_le, Bool, true, false, cond, List, [], ◌∷◌, length, map, filter, max, Option, Some, None, All, Any, slice_index_or, unwrap_or}
use Rattle.std.specs.List.{list_any, last_or}
use Rattle.std.specs.Option.{option_or}
use Rattle.std.proofs.Common.{refl, ap, sym, ◌∙◌, subst, arith, ⊎_elim, inl, inr}
use Rattle.std.proofs.lemmas.Bool.{le-leb}
use Rattle.tmf_model.specs.RecordMap.{RecordMap}
use Rattle.tmf_model.specs.declared.transid.Transid.{Transid}
use Rattle.trail_files.specs.MonitorOrder.{is_same_transid, last_epoch}
use Rattle.trail_files.specs.Recovered.{commits_of, is_committed, kept_records, records_on, before_first_of, after_last_of, recovered_value}
use Rattle.trail_files.specs.StandsFor.{Base, next_position, position_of}
use Rattle.trail_files.specs.declared.audit_record.AuditRecord.{AuditRecord}
use Rattle.trail_files.specs.declared.monitor_record.MonitorRecord.{MonitorRecord}
use Rattle.trail_files.specs.declared.monitor_record.MonitorRecord.TheVariants.{Start as StartRecord, Commit, Abort}
use Rattle.any_node.specs.Value.{on, kept, commits, undo, redo, value, closes, last_start}
use Rattle.any_node.specs.Stands.{or_one, last_position}
use Rattle.any_node.specs.Stands.{Base as AnyBase, next_position as any_next}
use Rattle.node_machine.specs.Trail.{records_of}
use Rattle.node_machine.specs.Opening.{Found}
use Rattle.node_machine.specs.Same.{Among, is_same_key}
use Rattle.node_machine.specs.SameLaws.{same_self, same_is}
use Rattle.node_laws.specs.Layouts.{layout, FileKey, Content, same_keys, keys_same}
use Rattle.node_laws.specs.Views.{rec_of, recs_of, entries_of}

module _ {A : Type 0} (P : A → Type 0) where
  pub all_among : (xs : List A) → All P xs → (x : A) → Among xs x → P x
  all_among [] all x h = absurd h
  all_among (y ∷ xs) all x h =
      ⊎_elim
      (λ (e : y ≡ x). subst P e (all 0 y (omega arith)))
      (λ (k : Among xs x). all_among xs (λ n d lt. all (suc n) d (omega (arith, lt))) x k)
      h

  pub among_at : (xs : List A) (k : ℕ) (d : A) → k < length xs → Among xs (slice_index_or xs k d)
  among_at [] k d lt = absurd (omega (arith, lt))
  among_at (y ∷ xs) zero d lt = inl refl
  among_at (y ∷ xs) (suc k) d lt = inr (among_at xs k d (omega (arith, lt)))

  pub among_all : (xs : List A) → ((x : A) → Among xs x → P x) → All P xs
  among_all xs h = λ k d lt. h (slice_index_or xs k d) (among_at xs k d lt)

  pub any_among : (xs : List A) → Any P xs → (x : A) × Among xs x × P x
  any_among xs h = (h.1, subst (λ (x : A). Among xs x) h.3 (among_at xs h.0 h.1 h.2), h.4)

  index_of : (xs : List A) (x : A) → Among xs x → (k : ℕ) × (k < length xs) × (slice_index_or xs k x ≡ x)
  index_of [] x h = absurd h
  index_of (y ∷ xs) x h =
      ⊎_elim
      (λ (e : y ≡ x). (0, omega arith, e))
      (λ (k : Among xs x). (let i = index_of xs x k in (suc i.0, (let lt = i.1 in omega (arith, lt)), i.2)))
      h

  pub among_any : (xs : List A) (x : A) → Among xs x → P x → Any P xs
  among_any xs x h p = (let i = index_of xs x h in (i.0, x, i.1, i.2, p))

-- two tests that each follow from the other are one
both_ways : (a b : Bool) → (a ≡ true → b ≡ true) → (b ≡ true → a ≡ true) → a ≡ b
both_ways true b f g = sym (f refl)
both_ways false true f g = g refl
both_ways false false f g = refl

same_either : (a b : Transid) → is_same_transid a b ≡ is_same_transid b a
same_either a b =
    both_ways (is_same_transid a b) (is_same_transid b a)
    (λ e. ap (λ (x : Transid). is_same_transid b x) (same_is a b e) ∙ same_self b)
    (λ e. ap (λ (x : Transid). is_same_transid a x) (same_is b a e) ∙ same_self a)

pub key_either : (f g : ℕ) (k l : List ℕ) → is_same_key f k g l ≡ is_same_key g l f k
key_either f g k l =
    both_ways (is_same_key f k g l) (is_same_key g l f k)
    (λ e. ap (λ (x : FileKey). is_same_key g l x.0 x.1) (same_keys (f, k) (g, l) e) ∙ keys_same (g, l))
    (λ e. ap (λ (x : FileKey). is_same_key f k x.0 x.1) (same_keys (g, l) (f, k) e) ∙ keys_same (f, k))

module _ (found : Found) where
  -- what has no record behind it
  undo_is : (base : Content) (rs : List AuditRecord) → undo {N = layout found} base (recs_of found rs) ≡ before_first_of rs base
  undo_is base [] = refl
  undo_is base (r ∷ rs) = refl

  redo_is : (c : Transid → Bool) (p : AuditRecord → Bool) → ((r : AuditRecord) → c r.tx ≡ p r) → (v : Content) (rs : List AuditRecord) → redo {N = layout found} c v (recs_of found rs) ≡ after_last_of (filter p rs) v
  redo_is c p same v [] = refl
  redo_is c p same v (r ∷ rs) = redo_is c p same (cond (c r.tx) r.after v) rs ∙ by_case (c r.tx) (p r) (same r) where
    by_case : (a b : Bool) → a ≡ b → after_last_of (filter p rs) (cond a r.after v) ≡ after_last_of (cond b (r ∷ filter p rs) (filter p rs)) v
    by_case true true e = refl
    by_case true false e = absurd (cc (e))
    by_case false true e = absurd (cc (e))
    by_case false false e = refl

  any_hit : (a b c : Bool) → a ≡ b → cond a true c ≡ (b || c)
  any_hit true true c e = refl
  any_hit true false c e = absurd (cc (e))
  any_hit false true c e = absurd (cc (e))
  any_hit false false c e = refl

  commits_is : (list : List MonitorRecord) (t : Transid) → commits {N = layout found} (closes (entries_of found list)) t ≡ list_any (is_same_transid t) (commits_of list)
  commits_is [] t = refl
  commits_is (StartRecord e ∷ list) t = commits_is list t
  commits_is (Commit u ∷ list) t =
      any_hit (is_same_transid u t) (is_same_transid t u) (commits {N = layout found} (closes (entries_of found list)) t) (same_either u t)
      ∙ ap (λ (b : Bool). is_same_transid t u || b) (commits_is list t)
  commits_is (Abort u ∷ list) t = commits_is list t

  pub on_is : (file : ℕ) (key : List ℕ) (rs : List AuditRecord) → on {N = layout found} (file, key) (recs_of found rs) ≡ recs_of found (records_on file key rs)
  on_is file key [] = refl
  on_is file key (r ∷ rs) = by_case (is_same_key r.file r.key file key) (is_same_key file key r.file r.key) (key_either r.file file r.key key) (on_is file key rs) where
    by_case : (a b : Bool) → a ≡ b → on {N = layout found} (file, key) (recs_of found rs) ≡ recs_of found (records_on file key rs)
        → cond a (rec_of found r ∷ on {N = layout found} (file, key) (recs_of found rs)) (on {N = layout found} (file, key) (recs_of found rs)) ≡ recs_of found (cond b (r ∷ records_on file key rs) (records_on file key rs))
    by_case true true e h = ap (λ xs. rec_of found r ∷ xs) h
    by_case true false e h = absurd (cc (e))
    by_case false true e h = absurd (cc (e))
    by_case false false e h = h

  kept_is : (d n : ℕ) (rs : List AuditRecord) → kept {N = layout found} n (recs_of found (records_of d rs)) ≡ recs_of found (kept_records d n rs)
  kept_is d n [] = refl
  kept_is d n (r ∷ rs) = by_case (r.disc == d) (nat_le n r.position) refl (kept_is d n rs) where
    by_case : (a b : Bool) → nat_le n r.position ≡ b → kept {N = layout found} n (recs_of found (records_of d rs)) ≡ recs_of found (kept_records d n rs)
        → kept {N = layout found} n (recs_of found (cond a (r ∷ records_of d rs) (records_of d rs))) ≡ recs_of found (cond (a && b) (r ∷ kept_records d n rs) (kept_records d n rs))
    by_case true true e h = rw e (ap (λ xs. rec_of found r ∷ xs) h)
    by_case true false e h = rw e h
    by_case false b e h = h

  -- what records on a key give with the commits of a list
  pub given_is : (rs : List AuditRecord) (list : List MonitorRecord) (records : RecordMap) (file : ℕ) (key : List ℕ)
      → value {N = layout found} (records file key) (on (file, key) (recs_of found rs)) (closes (entries_of found list)) ≡ recovered_value records rs list file key
  given_is all list records file key =
      let rs = records_on file key all in
      ap (λ xs. value {N = layout found} (records file key) xs (closes (entries_of found list))) (on_is file key all)
      ∙ (ap (λ (v : Content). redo {N = layout found} (commits {N = layout found} (closes (entries_of found list))) v (recs_of found rs)) (undo_is (records file key) rs)
      ∙ redo_is (commits {N = layout found} (closes (entries_of found list))) (is_committed list) (λ r. commits_is list r.tx) (before_first_of rs (records file key)) rs)

  -- the value that recovery reads
  pub value_is : (d n : ℕ) (audit : List AuditRecord) (list : List MonitorRecord) (records : RecordMap) (file : ℕ) (key : List ℕ)
      → value {N = layout found} (records file key) (on (file, key) (kept n (recs_of found (records_of d audit)))) (closes (entries_of found list)) ≡ recovered_value records (kept_records d n audit) list file key
  value_is d n audit list records file key =
      ap (λ xs. value {N = layout found} (records file key) (on (file, key) xs) (closes (entries_of found list))) (kept_is d n audit) ∙ given_is (kept_records d n audit) list records file key

  -- THE NEXT POSITION

  all_kept : (d : ℕ) (rs : List AuditRecord) → kept_records d 0 rs ≡ records_of d rs
  all_kept d [] = refl
  all_kept d (r ∷ rs) = by_case (r.disc == d) (nat_le 0 r.position) (le-leb 0 r.position (omega arith)) (all_kept d rs) where
    by_case : (a b : Bool) → b ≡ true → kept_records d 0 rs ≡ records_of d rs → cond (a && b) (r ∷ kept_records d 0 rs) (kept_records d 0 rs) ≡ cond a (r ∷ records_of d rs) (records_of d rs)
    by_case true true e h = ap (λ xs. r ∷ xs) h
    by_case true false e h = absurd (cc (e))
    by_case false b e h = h

  -- a base, or a dump
  abbrev pub any_base : Option Base → Option (AnyBase (layout found))
  any_base None = None
  any_base (Some b) = Some (record { values = λ k. b.records k.0 k.1; position = b.position })

  last_is : (n : ℕ) (rs : List AuditRecord) → unwrap_or (last_or (Some n) (map (λ x. x.position) rs)) 0 ≡ last_position {N = layout found} n (recs_of found rs)
  last_is n [] = refl
  last_is n (r ∷ rs) = last_is r.position rs

  one_is : (b : Option Base) → unwrap_or (position_of b) 1 ≡ or_one {N = layout found} (any_base b)
  one_is None = refl
  one_is (Some b) = refl

  next_of : (rs : List AuditRecord) (base dump : Option Base) → next_position rs (position_of base) (position_of dump) ≡ any_next {N = layout found} (recs_of found rs) (any_base base) (any_base dump)
  next_of [] base dump = λ i. max (one_is base i) (one_is dump i)
  next_of (r ∷ rs) base dump = ap (λ (n : ℕ). n + 1) (last_is r.position rs)

  pub next_is : (d : ℕ) (audit : List AuditRecord) (base dump : Option Base) → next_position (kept_records d 0 audit) (position_of base) (position_of dump) ≡ any_next {N = layout found} (recs_of found (records_of d audit)) (any_base base) (any_base dump)
  next_is d audit base dump = ap (λ rs. next_position rs (position_of base) (position_of dump)) (all_kept d audit) ∙ next_of (records_of d audit) base dump

  -- THE EPOCH

  told_or : (n : ℕ) (list : List MonitorRecord) → last_start {N = layout found} n (entries_of found list) ≡ unwrap_or (last_epoch list) n
  told_or n [] = refl
  told_or n (StartRecord e ∷ list) = told_or e list ∙ by_last e n (last_epoch list) where
    by_last : (e n : ℕ) (o : Option ℕ) → unwrap_or o e ≡ unwrap_or (option_or o (Some e)) n
    by_last e n None = refl
    by_last e n (Some m) = refl
  told_or n (Commit t ∷ list) = told_or n list ∙ by_last n (last_epoch list) where
    by_last : (n : ℕ) (o : Option ℕ) → unwrap_or o n ≡ unwrap_or (option_or o None) n
    by_last n None = refl
    by_last n (Some m) = refl
  told_or n (Abort t ∷ list) = told_or n list ∙ by_last n (last_epoch list) where
    by_last : (n : ℕ) (o : Option ℕ) → unwrap_or o n ≡ unwrap_or (option_or o None) n
    by_last n None = refl
    by_last n (Some m) = refl

  pub epoch_is : (list : List MonitorRecord) → last_start {N = layout found} 0 (entries_of found list) ≡ unwrap_or (last_epoch list) 0
  epoch_is list = told_or 0 list
