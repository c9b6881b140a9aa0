-- The tokens of a run: those that are home, and those that its workers and discs have.
use Rattle.std.specs.Prelude.{◌≡◌, ℕ, ◌+◌, ◌*◌}
use Rattle.std.specs.declared.sync.ledger.Book.{Book}
use Rattle.std.specs.declared.sync.ledger.Share.{Share}
use Rattle.run_outcomes.specs.Devices.{workers}
use Rattle.run_outcomes.specs.Reach.{first_tokens}

-- how many parts the ledger of a run has: one for each worker and each disc, and one at home
abbrev pub all_parts : ℕ
all_parts = 25

-- All tokens that the workers begin with are in the book. So many parts are away, and with them the tokens of so many workers; the others are home.
pub record AreHome {L : Type 0} (away dealt : ℕ) (book : Book L) (home : Share L) : Type 0 where
  pub parts : home.parts + away ≡ all_parts
  pub amount : home.amount + dealt * first_tokens ≡ workers * first_tokens
  pub total : book.total ≡ workers * first_tokens
