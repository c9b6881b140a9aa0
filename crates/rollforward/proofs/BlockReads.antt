-- A block that was read at an offset of a file.
use Rattle.std.specs.Prelude.{replicate, option_map, nat_lt, if◌then◌else◌}
use Rattle.std.proofs.Common.{◌≡◌, ℕ, ◌+◌, ◌<◌, ◌≤◌, Bool, true, false, List, [], ◌++◌, length, take, drop, Option, Some, None, refl, sym, ap, subst, ◌∙◌, arith, length-drop}
use Rattle.std.proofs.lemmas.List.{append-nil, drop_all, length-replicate, length-take, take_all}
use Rattle.disk_model.specs.Held.{File, read_of}
use Rattle.keyed_file.specs.declared.home.Home.{Home}
use Rattle.keyed_file.specs.BlockFormat.{bad_block}
use Rattle.keyed_file.specs.Layout.{IsSpelledAt, bytes_at}
use Rattle.rollforward.specs.Body.{bad_from, bytes_in}

is_less : (a b : ℕ) → a < b → nat_lt a b ≡ true
is_less a b lt = grind (arith, lt)

pub is_not_less : (a b : ℕ) → b ≤ a → nat_lt a b ≡ false
is_not_less a b le = grind (arith, le)

-- what a read gives is a part of the file's bytes
front_is : (o : Option File) (at n : ℕ) → read_of o at n ≡ take n (drop at (bytes_in o))
front_is None at n = sym (ap (take n) (drop_all at [] (omega arith)) ∙ take_all n [] (omega arith))
front_is (Some f) at n = refl

module _ (o : Option File) (at count : ℕ) (into : List ℕ) (counted : count ≡ length (read_of o at 4096)) (filled : into ≡ read_of o at 4096 ++ drop count (replicate 4096 0)) where
  abbrev bytes : List ℕ
  bytes = bytes_in o

  counts : count ≡ length (take 4096 (drop at bytes))
  counts = counted ∙ ap length (front_is o at 4096)

  -- a whole block was read
  pub read_long : 4096 ≤ count → at + 4096 ≤ length bytes
  read_long whole = omega (arith, whole, counts, length-take 4096 (drop at bytes), length-drop at bytes)

  pub read_is : 4096 ≤ count → into ≡ bytes_at at 4096 bytes
  read_is whole =
      let none : drop count (replicate 4096 0) ≡ [] = drop_all count (replicate 4096 0) (omega (arith, length-replicate {A = ℕ} 4096 0, whole)) in
      filled ∙ ap (λ (l : List ℕ). l ++ drop count (replicate 4096 0)) (front_is o at 4096) ∙ ap (λ (l : List ℕ). bytes_at at 4096 bytes ++ l) none ∙ append-nil (bytes_at at 4096 bytes)

  -- the file ended
  pub read_short : count < 4096 → at ≤ length bytes → at + count ≡ length bytes
  read_short cut within = omega (arith, cut, within, counts, length-take 4096 (drop at bytes), length-drop at bytes)

pub spelled_at : (into bytes text : List ℕ) (at : ℕ) → into ≡ bytes_at at 4096 bytes → into ≡ text → length text ≡ 4096 → IsSpelledAt bytes at text
spelled_at into bytes text at is spelled long = subst (λ (n : ℕ). bytes_at at n bytes ≡ text) (sym long) (sym is ∙ spelled)

pub bad_long : (home : Home) (at : ℕ) (into bytes : List ℕ) (bad : Option ℕ) → at + 4096 ≤ length bytes → into ≡ bytes_at at 4096 bytes → bad_block (Some home) into ≡ bad → bad_from home at bytes ≡ option_map (λ x. at + x) bad
bad_long home at into bytes bad long is found =
    ap (λ (c : Bool). if c then Some (length bytes) else option_map (λ x. at + x) (bad_block (Some home) (bytes_at at 4096 bytes))) (is_not_less (length bytes) (at + 4096) long)
    ∙ ap (option_map (λ x. at + x)) (ap (bad_block (Some home)) (sym is) ∙ found)

pub bad_short : (home : Home) (at count : ℕ) (bytes : List ℕ) → at + count ≡ length bytes → count < 4096 → bad_from home at bytes ≡ Some (at + count)
bad_short home at count bytes is cut =
    ap (λ (c : Bool). if c then Some (length bytes) else option_map (λ x. at + x) (bad_block (Some home) (bytes_at at 4096 bytes))) (is_less (length bytes) (at + 4096) (omega (arith, is, cut))) ∙ ap Some (sym is)
