-- What a source has left.
use Rattle.std.specs.Prelude.{length, take, drop}
use Rattle.std.proofs.Common.{zero, suc, ◌≡◌, ◌∷◌, [], ℕ, List, refl, ap, ◌∙◌}

-- a source that gave all of its front, up to a limit, has what is behind it
drop-taken : (limit : ℕ) (xs : List ℕ) → drop (length (take limit xs)) xs ≡ drop limit xs
drop-taken zero xs = refl
drop-taken (suc limit) [] = refl
drop-taken (suc limit) (x ∷ xs) = drop-taken limit xs

pub read-whole : (limit count : ℕ) (bytes before after : List ℕ) → count ≡ length bytes → bytes ≡ take limit before → after ≡ drop count before → after ≡ drop limit before
read-whole limit count bytes before after counted taken rest = rest ∙ ap (λ n. drop n before) (counted ∙ ap length taken) ∙ drop-taken limit before
