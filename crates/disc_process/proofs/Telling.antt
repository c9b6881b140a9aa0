-- What the blocks of a volume that tells its values say of a step.
use Rattle.std.proofs.Common.{◌≡◌, ℕ, ◌≤◌, ◌==◌, ◌&&◌, ◌||◌, ◌⊎◌, inl, inr, ⊎_elim, Bool, true, false, not, List, [], ◌∷◌, ◌++◌, length, Option, Some, None, Err, cond, eqb-true, refl, ap, sym, ◌∙◌, subst, arith, bytes_eq, nat_lt}
use Rattle.std.specs.List.{AllByRecursion, IsDistinct, filter, list_any}
use Rattle.std.specs.Map.{lookup, keys_of}
use Rattle.std.specs.Option.{IsSome, is_some, unwrap_or}
use Rattle.std.specs.Cmp.{IsEquivalence}
use Rattle.std.proofs.lemmas.Cmp.{nat_eq_equiv, nat_list_eq_equiv}
use Rattle.std.proofs.lemmas.Bool.{ltb-true}
use Rattle.std.proofs.lemmas.List.Folds.{list_any-append}
use Rattle.std.proofs.lemmas.Map.Made.{is_some-lookup}
use Rattle.std.proofs.lemmas.Map.Views.{any-filter_same}
use Rattle.std.proofs.lemmas.Map.Keys.{IsDistinct-from_sorted}
use Rattle.std.proofs.lemmas.Map.Text.{is_eq-slice_cmp}
use Rattle.std.specs.Cmp.Lexicographic.{slice_cmp}
use Rattle.std.specs.Ordering.{nat_cmp, eq_by_cmp}
use Rattle.std.proofs.lemmas.Slice.Eq.{bytes_eq-Decides}
use Rattle.disk_model.specs.Held.{Held}
use Rattle.keyed_file.specs.Block.{KeyedBlock, IsBlock, has_key, has_room, new_keys, taken_keys, value_at}
use Rattle.tmf_model.specs.RecordMap.{RecordMap}
use Rattle.tmf_model.specs.declared.script.Op.{Op}
use Rattle.tmf_model.specs.declared.script.Op.TheVariants.{Put, Add, Del, Read, Lock}
use Rattle.tmf_model.specs.declared.script.Reason.{Reason}
use Rattle.tmf_model.specs.declared.script.Step.{Step}
use Rattle.tmf_model.specs.Effect.{applied}
use Rattle.disc_process.specs.declared.found.Found.{Found}
use Rattle.tmf_model.specs.declared.transid.Transid.{Transid}
use Rattle.node_machine.specs.Disc.{DiscAsks, DiscMay, OfValues, MayTake, TakesRoom, HasRoomFor, HasRoomAt, HasNoRoomFor, TellsChange}
use Rattle.node_machine.specs.Same.{Among}
use Rattle.node_machine.specs.Made.{home_block, is_changing, map_of, values_after, volume_of}
use Rattle.node_machine.specs.Parts.{Entry, DiscPart, Fact}
use Rattle.node_machine.specs.Parts.Fact.{Enlisted}
use Rattle.block_cache.specs.Blocks.{View}
use Rattle.disc_process.specs.Blocks.{cached, content}
use Rattle.disc_process.specs.Disc.{AreKept, FindsIn, HoldsValues, IsHolding, ToldBy, hold_event, record_of}
use Rattle.disc_process.specs.Found.{is_put}
use Rattle.disc_process.specs.declared.found.Found.TheVariants as found
use Rattle.disc_process.proofs.Founds.{Changes, full, put_is, read_found, refused}

pub told_by : (base : Option (List Entry)) (H Q : RecordMap → Type 0) → ((m : RecordMap) → H m → Q m) → ToldBy base H → ToldBy base Q
told_by None H Q more h = tt
told_by (Some entries) H Q more h = more (map_of entries) h

pub bytes_same : (xs ys : List ℕ) → bytes_eq xs ys ≡ true → xs ≡ ys
bytes_same xs ys e = (bytes_eq-Decides xs ys).0 e

pub bytes_equiv : IsEquivalence bytes_eq
bytes_equiv = nat_list_eq_equiv

pub or_cases : (a b : Bool) → (a || b) ≡ true → (a ≡ true) ⊎ (b ≡ true)
or_cases true b h = inl refl
or_cases false b h = inr h

pub and_first : (a b : Bool) → (a && b) ≡ true → a ≡ true
and_first true b h = refl
and_first false b h = absurd (cc (h))

pub both_true : (a b : Bool) → a ≡ true → b ≡ true → (a && b) ≡ true
both_true true b h k = k
both_true false b h k = absurd (cc (h))

one_of : (h k : Bool) → (h ≡ true) ⊎ (k ≡ true) → (h || (not h && k)) ≡ true
one_of true k c = refl
one_of false k c = ⊎_elim (λ (e : false ≡ true). absurd (cc (e))) (λ (e : k ≡ true). e) c

-- a key that is present or kept is among those that take room
taken_has : (block : KeyedBlock) (kept : List (List ℕ)) (q : List ℕ) → (has_key block q ≡ true) ⊎ (list_any (bytes_eq q) kept ≡ true) → list_any (bytes_eq q) (taken_keys block kept) ≡ true
taken_has block kept q h =
    list_any-append (bytes_eq q) (keys_of block.records) (new_keys block.records kept)
    ∙ ap (λ b. b || list_any (bytes_eq q) (new_keys block.records kept)) (sym (is_some-lookup (bytes_eq q) block.records))
    ∙ ap (λ b. has_key block q || b) (any-filter_same (bytes_eq q) (λ k. not (is_some (lookup (bytes_eq k) block.records))) (not (has_key block q)) (λ k same. ap (λ (x : List ℕ). not (is_some (lookup (bytes_eq x) block.records))) (sym (bytes_same q k same))) kept)
    ∙ one_of (has_key block q) (list_any (bytes_eq q) kept) h

-- what is found among keys is one of them
pub among_any : (keys : List (List ℕ)) (q : List ℕ) → list_any (bytes_eq q) keys ≡ true → Among keys q
among_any [] q e = absurd (cc (e))
among_any (k ∷ ks) q e = ⊎_elim (λ (s : bytes_eq q k ≡ true). inl (sym (bytes_same q k s))) (λ (r : list_any (bytes_eq q) ks ≡ true). inr (among_any ks q r)) (or_cases (bytes_eq q k) (list_any (bytes_eq q) ks) e)

and_both : (a b : Bool) → (a && b) ≡ true → (a ≡ true) × (b ≡ true)
and_both true b h = (refl, h)
and_both false b h = absurd (cc (h))

no_room : (a b c : Bool) → (a || (b || c)) ≡ false → (a ≡ false) × (b ≡ false) × (c ≡ false)
no_room true b c h = absurd (cc (h))
no_room false true c h = absurd (cc (h))
no_room false false c h = (refl, refl, h)

no_and : (a b : Bool) → (a && b) ≡ false → b ≡ true → a ≡ false
no_and false b h e = refl
no_and true b h e = absurd (cc (h, e))

none_of : {A : Type 0} (o : Option A) → is_some o ≡ false → o ≡ None
none_of None h = refl
none_of (Some x) h = absurd (cc (h))

not_lt : (a b : ℕ) → nat_lt a b ≡ false → b ≤ a
not_lt a b h = grind (arith)

one_is : (h k : Bool) → (h || (not h && k)) ≡ true → (h ≡ true) ⊎ (k ≡ true)
one_is true k e = inl refl
one_is false k e = inr e

-- a key among those that take room is present or kept
taken_is : (block : KeyedBlock) (kept : List (List ℕ)) (q : List ℕ) → list_any (bytes_eq q) (taken_keys block kept) ≡ true → (has_key block q ≡ true) ⊎ (list_any (bytes_eq q) kept ≡ true)
taken_is block kept q h =
    one_is (has_key block q) (list_any (bytes_eq q) kept)
    (sym (list_any-append (bytes_eq q) (keys_of block.records) (new_keys block.records kept)
    ∙ ap (λ b. b || list_any (bytes_eq q) (new_keys block.records kept)) (sym (is_some-lookup (bytes_eq q) block.records))
    ∙ ap (λ b. has_key block q || b) (any-filter_same (bytes_eq q) (λ k. not (is_some (lookup (bytes_eq k) block.records))) (not (has_key block q)) (λ k same. ap (λ (x : List ℕ). not (is_some (lookup (bytes_eq x) block.records))) (sym (bytes_same q k same))) kept))
    ∙ h)

pub true_or : (a b : Bool) → a ≡ true → (a || b) ≡ true
true_or true b h = refl
true_or false b h = absurd (cc (h))

pub or_true : (a b : Bool) → b ≡ true → (a || b) ≡ true
or_true true b h = refl
or_true false b h = h

-- one of the keys is found among them
pub any_among : (keys : List (List ℕ)) (q : List ℕ) → Among keys q → list_any (bytes_eq q) keys ≡ true
any_among [] q h = absurd h
any_among (k ∷ ks) q (inl e) = true_or (bytes_eq q k) (list_any (bytes_eq q) ks) (subst (λ (x : List ℕ). bytes_eq q x ≡ true) (sym e) (bytes_equiv.refl q))
any_among (k ∷ ks) q (inr h) = or_true (bytes_eq q k) (list_any (bytes_eq q) ks) (any_among ks q h)

all_append : (P : List ℕ → Type 0) (xs ys : List (List ℕ)) → AllByRecursion P xs → AllByRecursion P ys → AllByRecursion P (xs ++ ys)
all_append P [] ys a b = b
all_append P (x ∷ xs) ys a b = (a.0, all_append P xs ys a.1 b)

pub any_false : (x : List ℕ) (xs : List (List ℕ)) → list_any (bytes_eq x) xs ≡ false → AllByRecursion (λ y. bytes_eq x y ≡ false) xs
any_false x [] h = tt
any_false x (y ∷ ys) h = (let both = or_false (bytes_eq x y) (list_any (bytes_eq x) ys) h in (both.0, any_false x ys both.1))
  where
    or_false : (a b : Bool) → (a || b) ≡ false → (a ≡ false) × (b ≡ false)
    or_false true b e = absurd (cc (e))
    or_false false b e = (refl, e)

distinct_append : (xs ys : List (List ℕ)) → IsDistinct bytes_eq xs → IsDistinct bytes_eq ys → ((q : List ℕ) → list_any (bytes_eq q) xs ≡ true → list_any (bytes_eq q) ys ≡ false) → IsDistinct bytes_eq (xs ++ ys)
unfolding IsDistinct
distinct_append [] ys a b apart = b
distinct_append (x ∷ xs) ys a b apart = (
  all_append (λ y. bytes_eq x y ≡ false) xs ys a.0 (any_false x ys (apart x (true_or (bytes_eq x x) (list_any (bytes_eq x) xs) (bytes_equiv.refl x)))),
  distinct_append xs ys a.1 b (λ q there. apart q (or_true (bytes_eq q x) (list_any (bytes_eq q) xs) there)),
)

all_if : (P : List ℕ → Type 0) (b : Bool) (x : List ℕ) (xs : List (List ℕ)) → P x → AllByRecursion P xs → AllByRecursion P (cond b (x ∷ xs) xs)
all_if P true x xs h k = (h, k)
all_if P false x xs h k = k

all_filter : (P : List ℕ → Type 0) (p : List ℕ → Bool) (xs : List (List ℕ)) → AllByRecursion P xs → AllByRecursion P (filter p xs)
all_filter P p [] h = tt
all_filter P p (x ∷ xs) h = all_if P (p x) x (filter p xs) h.0 (all_filter P p xs h.1)

distinct_if : (b : Bool) (x : List ℕ) (xs : List (List ℕ)) → AllByRecursion (λ y. bytes_eq x y ≡ false) xs → IsDistinct bytes_eq xs → IsDistinct bytes_eq (cond b (x ∷ xs) xs)
unfolding IsDistinct
distinct_if true x xs apart h = (apart, h)
distinct_if false x xs apart h = h

distinct_filter : (p : List ℕ → Bool) (xs : List (List ℕ)) → IsDistinct bytes_eq xs → IsDistinct bytes_eq (filter p xs)
unfolding IsDistinct
distinct_filter p [] h = tt
distinct_filter p (x ∷ xs) h = distinct_if (p x) x (filter p xs) (all_filter (λ y. bytes_eq x y ≡ false) p xs h.0) (distinct_filter p xs h.1)

distinct_same : (e f : List ℕ → List ℕ → Bool) (xs : List (List ℕ)) → ((x y : List ℕ) → e x y ≡ f x y) → IsDistinct e xs → IsDistinct f xs
unfolding IsDistinct
distinct_same e f [] same h = tt
distinct_same e f (x ∷ xs) same h = (all_same x xs h.0, distinct_same e f xs same h.1)
  where
    all_same : (x : List ℕ) (ys : List (List ℕ)) → AllByRecursion (λ y. e x y ≡ false) ys → AllByRecursion (λ y. f x y ≡ false) ys
    all_same x [] a = tt
    all_same x (y ∷ ys) a = (sym (same x y) ∙ a.0, all_same x ys a.1)

not_true : (a b : Bool) → a ≡ true → (not a && b) ≡ false
not_true true b h = refl
not_true false b h = absurd (cc (h))

-- no key of a block stands there twice
pub distinct_keys : (block : KeyedBlock) → IsBlock block → IsDistinct bytes_eq (keys_of block.records)
distinct_keys block valid = distinct_same (eq_by_cmp (slice_cmp nat_cmp)) bytes_eq (keys_of block.records) is_eq-slice_cmp (IsDistinct-from_sorted (slice_cmp nat_cmp) (keys_of block.records) valid.rising)

-- no key takes room twice
distinct_taken : (block : KeyedBlock) (kept : List (List ℕ)) → IsBlock block → IsDistinct bytes_eq kept → IsDistinct bytes_eq (taken_keys block kept)
distinct_taken block kept valid distinct =
    distinct_append (keys_of block.records) (new_keys block.records kept)
    (distinct_keys block valid)
    (distinct_filter (λ k. not (is_some (lookup (bytes_eq k) block.records))) kept distinct)
    (λ q present.
    any-filter_same (bytes_eq q) (λ k. not (is_some (lookup (bytes_eq k) block.records))) (not (has_key block q)) (λ k same. ap (λ (x : List ℕ). not (is_some (lookup (bytes_eq x) block.records))) (sym (bytes_same q k same))) kept
    ∙ not_true (has_key block q) (list_any (bytes_eq q) kept) (is_some-lookup (bytes_eq q) block.records ∙ present))

-- the values of the block's keys are those of the volume
pub value_here : {D : Type 0} (tells : D → Bool) (held : D → Held) (s : DiscPart) (blocks : View D) (file number : ℕ) (block : KeyedBlock) → volume_of s.config file ≡ s.number → cached blocks file number ≡ Some block
    → (base : RecordMap) → HoldsValues tells held s blocks base → (k : List ℕ) → home_block s.config file k ≡ number → value_at block k ≡ (values_after base s.events) file k
value_here tells held s blocks file number block here in_cache base h k home =
    let is : content blocks h.landed file number ≡ block = ap (λ (o : Option KeyedBlock). unwrap_or o (h.landed file number)) in_cache in
    ap (λ (b : KeyedBlock). value_at b k) (sym is)
    ∙ ap (λ (n : ℕ). value_at (content blocks h.landed file n) k) (sym home)
    ∙ h.same file k here

-- these are the values of the block's keys
abbrev pub AreValuesOf : DiscPart → ℕ → ℕ → KeyedBlock → RecordMap → Type 0
AreValuesOf s file number block values = (k : List ℕ) → home_block s.config file k ≡ number → value_at block k ≡ values file k

-- what is said of any values that are the block's is said of those of its volume, or of some
module _ {D : Type 0} (tells : D → Bool) (held : D → Held) (s : DiscPart) (blocks : View D) (file number : ℕ) (block : KeyedBlock) (here : volume_of s.config file ≡ s.number) (in_cache : cached blocks file number ≡ Some block) (says : RecordMap → Type 0) (more : (values : RecordMap) → AreValuesOf s file number block values → says values) where
  pub of_values : (base : Option (List Entry)) → ToldBy base (HoldsValues tells held s blocks) → OfValues base s.events says
  of_values None told = (λ f k. value_at block k, more (λ f k. value_at block k) (λ k home. refl))
  of_values (Some entries) told = more (values_after (map_of entries) s.events) (λ k home. value_here tells held s blocks file number block here in_cache (map_of entries) told k home)

module _ (s : DiscPart) (file number : ℕ) (block : KeyedBlock) (kept : List (List ℕ)) (are : AreKept s file number kept) where
  module _ (values : RecordMap) (same : AreValuesOf s file number block values) where
    takes_room : (k : List ℕ) → home_block s.config file k ≡ number → TakesRoom values s.events file k → (has_key block k ≡ true) ⊎ (list_any (bytes_eq k) kept ≡ true)
    takes_room k home t =
        ⊎_elim
        (λ (some : IsSome (values file k)). inl (ap is_some (same k home) ∙ some))
        (λ (changing : is_changing s.events file k ≡ true). inr (are.exact k ∙ both_true (is_changing s.events file k) (home_block s.config file k == number) changing (subst (λ (n : ℕ). (n == number) ≡ true) (sym home) (nat_eq_equiv.refl number))))
        t

    pub has_room_for : (k : List ℕ) → home_block s.config file k ≡ number → has_room block kept k ≡ true → HasRoomFor s values file k
    has_room_for k home room =
        ⊎_elim
        (λ (present : has_key block k ≡ true). inl (inl (ap is_some (sym (same k home)) ∙ present)))
        (λ (rest : (list_any (bytes_eq k) kept || nat_lt (length (taken_keys block kept)) 62) ≡ true).
        ⊎_elim
        (λ (is_kept : list_any (bytes_eq k) kept ≡ true). inl (inr (and_first (is_changing s.events file k) (home_block s.config file k == number) (sym (are.exact k) ∙ is_kept))))
        (λ (few : nat_lt (length (taken_keys block kept)) 62 ≡ true).
        inr (taken_keys block kept, ltb-true (length (taken_keys block kept)) 62 few, λ other at takes. among_any (taken_keys block kept) other (taken_has block kept other (takes_room other (at ∙ home) takes))))
        (or_cases (list_any (bytes_eq k) kept) (nat_lt (length (taken_keys block kept)) 62) rest))
        (or_cases (has_key block k) (list_any (bytes_eq k) kept || nat_lt (length (taken_keys block kept)) 62) room)

module _ (s : DiscPart) (step : Step) (number : ℕ) (block : KeyedBlock) (what : Found) (finds : FindsIn s step number what block) (home : home_block s.config step.file step.key ≡ number) where
  module _ (values : RecordMap) (same : AreValuesOf s step.file number block values) where
    room_at : (op : Op) → (is_put op ≡ true → AreKept s step.file number finds.kept) → (is_put op ≡ true → has_room block finds.kept step.key ≡ true) → HasRoomAt s values step.file step.key op
    room_at (Put v) are room = has_room_for s step.file number block finds.kept (are refl) values same step.key home (room refl)
    room_at (Add n) are room = tt
    room_at Del are room = tt
    room_at Read are room = tt
    room_at Lock are room = tt

    value_is : value_at block step.key ≡ values step.file step.key
    value_is = same step.key home

    -- what the block says of the change is what the volume says
    pub tells_change : (t : Transid) (before after : Option (List ℕ)) → Changes block finds.kept step.op step.key before after → TellsChange s (record_of s t step before after) step.op values
    tells_change t before after c = record {
      before = c.was ∙ value_is;
      after = c.gives;
      room = room_at step.op finds.are c.room;
    }

    pub tells_value : (value : Option (List ℕ)) → value ≡ value_at block step.key → value ≡ values step.file step.key
    tells_value value is = is ∙ value_is

    pub tells_refused : (reason : Reason) → applied step.op (value_at block step.key) ≡ Err reason → applied step.op (values step.file step.key) ≡ Err reason
    tells_refused reason is = ap (applied step.op) (sym value_is) ∙ is

    -- the block's keys that take room are keys of the volume that do
    pub tells_full : is_put step.op ≡ true → has_room block finds.kept step.key ≡ false → HasNoRoomFor s values step.file step.key
    tells_full put full =
        let are = finds.are put in
        let parts = no_room (has_key block step.key) (list_any (bytes_eq step.key) finds.kept) (nat_lt (length (taken_keys block finds.kept)) 62) full in record {
          absent = sym value_is ∙ none_of (value_at block step.key) parts.0;
          unchanged = no_and (is_changing s.events step.file step.key) (home_block s.config step.file step.key == number) (sym (are.exact step.key) ∙ parts.1) (subst (λ (n : ℕ). (n == number) ≡ true) (sym home) (nat_eq_equiv.refl number));
          keys = taken_keys block finds.kept;
          distinct = distinct_taken block finds.kept finds.valid are.distinct;
          each = λ q there.
              ⊎_elim
              (λ (present : has_key block q ≡ true).
              (let at : home_block s.config step.file q ≡ number = finds.home q present in
              (at ∙ sym home, inl (ap is_some (sym (same q at)) ∙ present))))
              (λ (is_kept : list_any (bytes_eq q) finds.kept ≡ true).
              (let both = and_both (is_changing s.events step.file q) (home_block s.config step.file q == number) (sym (are.exact q) ∙ is_kept) in
              (eqb-true (home_block s.config step.file q) number both.1 ∙ sym home, inr both.0)))
              (taken_is block finds.kept q (any_among (taken_keys block finds.kept) q there));
          many = not_lt (length (taken_keys block finds.kept)) 62 parts.2;
        }

module _ {D : Type 0} (tells : D → Bool) (held : D → Held) (s : DiscPart) (blocks : View D) (step : Step) (number : ℕ) (block : KeyedBlock) (what : Found) (here : volume_of s.config step.file ≡ s.number) (in_cache : cached blocks step.file number ≡ Some block) (finds : FindsIn s step number what block) (home : home_block s.config step.file step.key ≡ number) where
  -- what is said of a step that changes nothing
  hold_for : (t : Transid) → MayTake s t step.file step.key → (true_ : Fact → Type 0) → true_ (Enlisted t s.number) → ToldBy s.base (HoldsValues tells held s blocks) → (w : Found) → what ≡ w → IsHolding w → DiscMay s (hold_event t step w) × DiscAsks true_ s (hold_event t step w)
  hold_for t takes true_ asks told (found.Value value) is holding = (
    record {
      takes = takes;
      told = of_values tells held s blocks step.file number block here in_cache (λ v. value ≡ v step.file step.key) (λ v same. tells_value s step number block what finds home v same value (read_found block finds.kept step value (finds.is ∙ is))) s.base told;
    },
    asks,
  )
  hold_for t takes true_ asks told (found.Refused reason) is holding =
      ((takes, of_values tells held s blocks step.file number block here in_cache (λ v. applied step.op (v step.file step.key) ≡ Err reason) (λ v same. tells_refused s step number block what finds home v same reason (refused block finds.kept step reason (finds.is ∙ is))) s.base told), asks)
  hold_for t takes true_ asks told found.Full is holding =
      let f = full block finds.kept step (finds.is ∙ is) in
      ((takes, put_is step.op f.0, of_values tells held s blocks step.file number block here in_cache (λ v. HasNoRoomFor s v step.file step.key) (λ v same. tells_full s step number block what finds home v same f.0 f.1) s.base told), asks)
  hold_for t takes true_ asks told found.Crowded is holding = absurd holding
  hold_for t takes true_ asks told (found.Change before after) is holding = absurd holding

  pub hold_may : (t : Transid) → MayTake s t step.file step.key → IsHolding what → (true_ : Fact → Type 0) → true_ (Enlisted t s.number) → ToldBy s.base (HoldsValues tells held s blocks) → DiscMay s (hold_event t step what) × DiscAsks true_ s (hold_event t step what)
  hold_may t takes holding true_ asks told = hold_for t takes true_ asks told what refl holding

pub distinct_none : IsDistinct bytes_eq []
unfolding IsDistinct
distinct_none = tt
