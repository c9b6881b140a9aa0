-- What was read of a data file.
use Rattle.std.proofs.Common.{◌≡◌, ℕ, ◌≤◌, List, [], ◌++◌, length, take, drop, Option, Some, None, refl, ap, ◌∙◌, arith, append-nil}
use Rattle.std.proofs.lemmas.List.{take_at, drop_all}
use Rattle.disk_model.specs.Held.{File, read_of, length_of}
use Rattle.keyed_file.specs.Layout.{bytes_at}

pub there_is : (o : Option File) (len : ℕ) → Some len ≡ length_of o → (f : File) × (o ≡ Some f) × (len ≡ length f.bytes)
there_is None len is = cc
there_is (Some f) len is = (f, refl, cc)

-- a whole slot was read
pub whole_read : (o : Option File) (f : File) (at size count : ℕ) (old into : List ℕ) → o ≡ Some f → length old ≡ size → count ≡ length (read_of o at (length old)) → into ≡ read_of o at (length old) ++ drop count old → size ≤ count → into ≡ bytes_at at size f.bytes
whole_read o f at size count old into is long count_is into_is whole =
    let front : read_of o at (length old) ≡ bytes_at at size f.bytes = ap (λ (o : Option File). read_of o at (length old)) is ∙ ap (λ (n : ℕ). take n (drop at f.bytes)) long in
    let none : drop count old ≡ [] = drop_all count old (omega (arith, long, whole)) in
    into_is ∙ ap (λ (l : List ℕ). l ++ drop count old) front ∙ ap (λ (l : List ℕ). bytes_at at size f.bytes ++ l) none ∙ append-nil (bytes_at at size f.bytes)

-- what a vector holds after its slice was filled
pub filled : (into old : List ℕ) (n : ℕ) → length into ≡ n → length old ≤ n → take n (into ++ drop (length into) old) ≡ into
filled into old n long few = take_at into (drop (length into) old) n long

-- how much of a slot was read
pub counted_read : (o : Option File) (f : File) (at size count : ℕ) (old : List ℕ) → o ≡ Some f → length old ≡ size → count ≡ length (read_of o at (length old)) → count ≡ length (bytes_at at size f.bytes)
counted_read o f at size count old is long count_is =
    count_is ∙ ap (λ (o : Option File). length (read_of o at (length old))) is ∙ ap (λ (n : ℕ). length (take n (drop at f.bytes))) long
