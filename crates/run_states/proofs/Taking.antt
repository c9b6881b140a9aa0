-- Devices with their parts' seats, from which one is taken out, and to which one is added.
use Rattle.std.specs.Prelude.{◌≡◌, ℕ, zero, suc, ◌+◌, ◌<◌, List, [], ◌∷◌, ◌++◌, take, drop, length, map, sum_by, Some, slice_get, slice_index_or}
use Rattle.std.proofs.Common.{refl, sym, ap, subst, ◌∙◌, arith}
use Rattle.std.proofs.lemmas.List.Sums.{sum_by-append, sum_by-cons}
use Rattle.chronicle.specs.Seats.{Sight}
use Rattle.node_machine.specs.declared.event.Event.{Event}
use Rattle.run_states.specs.Post.{HasPost, IsTakenOut, PostView, seat_tokens, tokens_in, tokens_of}

pub post_there : (posts : List PostView) (i : ℕ) (d : PostView) → i < length posts → slice_get posts i ≡ Some (slice_index_or posts i d)
post_there [] i d lt = absurd (omega (arith, lt))
post_there (x ∷ xs) zero d lt = refl
post_there (x ∷ xs) (suc i) d lt = post_there xs i d (omega (arith, lt))

pub length-numbers : (posts : List PostView) → length (map (λ p. p.number) posts) ≡ length posts
length-numbers [] = refl
length-numbers (x ∷ xs) = ap suc (length-numbers xs)

-- the number of the device at a place
pub number_at : (posts : List PostView) (i k : ℕ) (d : PostView) → i < length posts → slice_index_or (map (λ p. p.number) posts) i k ≡ (slice_index_or posts i d).number
number_at [] i k d lt = absurd (omega (arith, lt))
number_at (x ∷ xs) zero k d lt = refl
number_at (x ∷ xs) (suc i) k d lt = number_at xs i k d (omega (arith, lt))

-- what is still there when another was taken out
still_has : (xs : List PostView) (i : ℕ) (post : PostView) (m : ℕ) → (post.number ≡ m → ⊥) → slice_get xs i ≡ Some post → HasPost xs m → HasPost (take i xs ++ drop (suc i) xs) m
still_has [] i post m apart at (k, lt, e) = absurd (omega (arith, lt))
still_has (x ∷ xs) zero post m apart at (zero, lt, e) = (let same : x ≡ post = cc (at) in absurd (apart (ap (λ p. p.number) (sym same) ∙ e)))
still_has (x ∷ xs) zero post m apart at (suc k, lt, e) = (k, omega (arith, lt), e)
still_has (x ∷ xs) (suc i) post m apart at (zero, lt, e) = (zero, omega arith, e)
still_has (x ∷ xs) (suc i) post m apart at (suc k, lt, e) =
    let r = still_has xs i post m apart at (k, omega (arith, lt), e) in (suc r.0, omega (arith, r.1), r.2)

pub left_has : (posts left : List PostView) (post : PostView) (m : ℕ) → IsTakenOut posts post left → (post.number ≡ m → ⊥) → HasPost posts m → HasPost left m
left_has posts left post m out apart has = subst (λ l. HasPost l m) (sym out.others) (still_has posts out.place post m apart out.is has)

fewer_by : (xs : List PostView) (i : ℕ) (post : PostView) → slice_get xs i ≡ Some post → length (take i xs ++ drop (suc i) xs) + 1 ≡ length xs
fewer_by [] i post at = absurd (cc (at))
fewer_by (x ∷ xs) zero post at = omega arith
fewer_by (x ∷ xs) (suc i) post at = (let less = fewer_by xs i post at in omega (arith, less))

pub left_fewer : (posts left : List PostView) (post : PostView) → IsTakenOut posts post left → length left + 1 ≡ length posts
left_fewer posts left post out = ap (λ l. length l + 1) out.others ∙ fewer_by posts out.place post out.is

tokens_by : (xs : List PostView) (i : ℕ) (post : PostView) → slice_get xs i ≡ Some post → tokens_of (take i xs ++ drop (suc i) xs) + seat_tokens post.seat ≡ tokens_of xs
tokens_by [] i post at = absurd (cc (at))
tokens_by (x ∷ xs) zero post at =
    let same : x ≡ post = cc (at) in
    let count : seat_tokens x.seat ≡ seat_tokens post.seat = ap (λ (p : PostView). seat_tokens p.seat) same in
    let whole = sum_by-cons (λ (p : PostView). seat_tokens p.seat) x xs in
    omega (arith, count, whole)
tokens_by (x ∷ xs) (suc i) post at =
    let less = tokens_by xs i post at in
    let whole = sum_by-cons (λ (p : PostView). seat_tokens p.seat) x xs in
    let left = sum_by-cons (λ (p : PostView). seat_tokens p.seat) x (take i xs ++ drop (suc i) xs) in
    omega (arith, less, whole, left)

pub left_tokens : (posts left : List PostView) (post : PostView) → IsTakenOut posts post left → tokens_of left + seat_tokens post.seat ≡ tokens_of posts
left_tokens posts left post out = ap (λ l. tokens_of l + seat_tokens post.seat) out.others ∙ tokens_by posts out.place post out.is

pub tokens_more : (seats : List (Sight Event)) (seat : Sight Event) → tokens_in (seats ++ seat ∷ []) ≡ tokens_in seats + seat_tokens seat
tokens_more seats seat =
    let split = sum_by-append (λ (v : Sight Event). seat_tokens v) seats (seat ∷ []) in
    let one = sum_by-cons (λ (v : Sight Event). seat_tokens v) seat [] in
    let none : sum_by (λ (v : Sight Event). seat_tokens v) [] ≡ 0 = refl in
    omega (arith, split, one, none)

pub posts_more : (posts : List PostView) (post : PostView) → tokens_of (posts ++ post ∷ []) ≡ tokens_of posts + seat_tokens post.seat
posts_more posts post =
    let split = sum_by-append (λ (p : PostView). seat_tokens p.seat) posts (post ∷ []) in
    let one = sum_by-cons (λ (p : PostView). seat_tokens p.seat) post [] in
    let none : sum_by (λ (p : PostView). seat_tokens p.seat) [] ≡ 0 = refl in
    omega (arith, split, one, none)
