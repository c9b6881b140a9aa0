-- What a node's history is about: identifiers, keys of files, and bytes.
use Rattle.std.specs.Prelude.{◌≡◌, ℕ, ◌<◌, ◌==◌, ◌&&◌, nat_lt, Bool, true, false, List, length, Option, Some, None, is_none, bytes_eq, if◌then◌else◌}
use Rattle.std.proofs.Common.{refl, ap, sym, ◌∙◌, arith, eq-eqb, eqb-true, ⊎_elim}
use Rattle.std.proofs.lemmas.Bool.{and_parts, lt-ltb, le-ltb}
use Rattle.std.proofs.lemmas.Slice.Eq.{bytes_eq-Decides}
use Rattle.tmf_model.specs.declared.transid.Transid.{Transid}
use Rattle.trail_files.specs.MonitorOrder.{is_same_transid}
use Rattle.any_node.specs.Layout.{Layout, Equality, numbers}
use Rattle.node_machine.specs.declared.event.By.{By}
use Rattle.node_machine.specs.Made.{volume_of, home_block}
use Rattle.node_machine.specs.Opening.{Found, each_from}
use Rattle.node_machine.specs.Same.{is_same_key, is_same_block, IsBefore}
use Rattle.node_machine.specs.SameLaws.{same_self, same_is}
use Rattle.node_machine.specs.Trail.{trail_of}

-- a file and a key in it; a file and the number of a block
abbrev pub FileKey : Type 0
FileKey = ℕ × List ℕ

abbrev pub FileBlock : Type 0
FileBlock = ℕ × ℕ

-- a value at a key, if there is one
abbrev pub Content : Type 0
Content = Option (List ℕ)

abbrev pub transids : Equality Transid
transids = record { same = λ a b. is_same_transid b a; reflexive = λ a b e. ap (λ (x : Transid). is_same_transid x a) (sym e) ∙ same_self a; equal = λ a b e. sym (same_is b a e) }

pub same_keys : (a b : FileKey) → is_same_key a.0 a.1 b.0 b.1 ≡ true → a ≡ b
same_keys a b e =
    let parts = and_parts (a.0 == b.0) (bytes_eq a.1 b.1) e in
    let file = eqb-true a.0 b.0 parts.0 in
    let key = (bytes_eq-Decides a.1 b.1).0 parts.1 in
    λ i. (file i, key i)

pub keys_same : (a : FileKey) → is_same_key a.0 a.1 a.0 a.1 ≡ true
keys_same a = rw (eq-eqb a.0 a.0 refl) ((bytes_eq-Decides a.1 a.1).1 refl)

abbrev pub file_keys : Equality FileKey
file_keys = record { same = λ a b. is_same_key a.0 a.1 b.0 b.1; reflexive = λ a b e. ap (λ (x : FileKey). is_same_key a.0 a.1 x.0 x.1) (sym e) ∙ keys_same a; equal = same_keys }

pub same_blocks : (a b : FileBlock) → is_same_block a.0 a.1 b.0 b.1 ≡ true → a ≡ b
same_blocks a b e =
    let parts = and_parts (a.0 == b.0) (a.1 == b.1) e in
    let file = eqb-true a.0 b.0 parts.0 in
    let block = eqb-true a.1 b.1 parts.1 in
    λ i. (file i, block i)

pub blocks_same : (a : FileBlock) → is_same_block a.0 a.1 a.0 a.1 ≡ true
blocks_same a = rw (eq-eqb a.0 a.0 refl, eq-eqb a.1 a.1 refl) refl

abbrev pub file_blocks : Equality FileBlock
file_blocks = record { same = λ a b. is_same_block a.0 a.1 b.0 b.1; reflexive = λ a b e. ap (λ (x : FileBlock). is_same_block a.0 a.1 x.0 x.1) (sym e) ∙ blocks_same a; equal = same_blocks }

-- whether the second attempt came later: in a later run, or, in the same one, by its ordinal and its number
abbrev pub is_later : Transid → Transid → Bool
is_later t later =
    if nat_lt t.epoch later.epoch then true
    else ((t.epoch == later.epoch) && (if nat_lt t.ordinal later.ordinal then true else (t.ordinal == later.ordinal) && nat_lt t.attempt later.attempt))

-- A change, as what it found and what it left: all that an audit record tells of its operation.
abbrev pub Change : Type 0
Change = Content × Content

abbrev pub is_same_content : Content → Content → Bool
is_same_content None None = true
is_same_content None (Some b) = false
is_same_content (Some a) None = false
is_same_content (Some a) (Some b) = bytes_eq a b

-- It leaves what it left where it finds what it found; no change leaves nothing.
abbrev pub gives : Option Change → Content → Option Content
gives None found = None
gives (Some change) found = if is_same_content found change.0 then Some change.1 else None

-- it finds no value
abbrev pub is_put : Option Change → Bool
is_put None = true
is_put (Some change) = is_none change.0

-- any other needs one
pub no_other : (change : Option Change) (v : Content) → true ≡ true → is_put change ≡ false → gives change None ≡ Some v → ⊥
no_other None v c e h = absurd (cc (e))
no_other (Some (None, a)) v c e h = absurd (cc (e))
no_other (Some (Some b, a)) v c e h = absurd (cc (h))

and_right : (b : Bool) → (b && false) ≡ false
and_right true = refl
and_right false = refl

-- no attempt is later than itself
pub not_later : (t : Transid) → is_later t t ≡ false
not_later t = rw (le-ltb t.epoch t.epoch (omega arith), le-ltb t.ordinal t.ordinal (omega arith), le-ltb t.attempt t.attempt (omega arith), and_right (t.ordinal == t.ordinal)) (and_right (t.epoch == t.epoch))

-- what is of an earlier run is earlier
pub later_by_epoch : (t u : Transid) → t.epoch < u.epoch → is_later t u ≡ true
later_by_epoch t u lt = rw (lt-ltb t.epoch u.epoch lt) refl

-- and so is an earlier attempt of one run
pub later_if_before : (t u : Transid) → t.epoch ≡ u.epoch → IsBefore t u → is_later t u ≡ true
later_if_before t u same h =
    rw (le-ltb t.epoch u.epoch (omega (arith, same)), eq-eqb t.epoch u.epoch same)
    (⊎_elim
    (λ (lt : t.ordinal < u.ordinal). rw (lt-ltb t.ordinal u.ordinal lt) refl)
    (λ (x : (t.ordinal ≡ u.ordinal) × (t.attempt < u.attempt)). rw (le-ltb t.ordinal u.ordinal (omega (arith, x.0)), eq-eqb t.ordinal u.ordinal x.0, lt-ltb t.attempt u.attempt x.1) refl)
    h)

-- the discs are those of the declared volumes
abbrev pub layout : Found → Layout
layout found = record {
  Tx = Transid;
  Key = FileKey;
  File = ℕ;
  Block = FileBlock;
  Val = List ℕ;
  Op = Option Change;
  By = By;
  txs = transids;
  keys = file_keys;
  files = numbers;
  blocks = file_blocks;
  epoch = found.epoch;
  worker_of = λ t. t.worker;
  epoch_of = λ t. t.epoch;
  is_later = is_later;
  not_later = not_later;
  discs = each_from (λ n. n) 1 (length found.config.volumes);
  trail_of = trail_of found.config;
  disc_of = λ k. volume_of found.config k.0;
  file_of = λ k. k.0;
  block_of = λ k. (k.0, home_block found.config k.0 k.1);
  room = 62;
  gives = gives;
  is_put = is_put;
  is_change = λ o. true;
  no_other = no_other;
  one_disc = λ j k e. ap (λ (b : FileBlock). volume_of found.config b.0) e;
}
