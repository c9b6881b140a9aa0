-- An item of a worker that is no transaction: which it is, and what its worker's seat and tokens are behind it.
use Rattle.std.specs.Prelude.{◌≡◌, ◌⊎◌, ◌≤◌, ℕ, true, false, List, Some}
use Rattle.std.specs.declared.sync.ledger.Share.{Share}
use Rattle.chronicle.specs.Seats.{Sight}
use Rattle.tmf_model.specs.Config.{IsValidConfig}
use Rattle.tmf_model.specs.Script.{IsValidItem}
use Rattle.tmf_model.specs.declared.config.Config.{Config}
use Rattle.tmf_model.specs.declared.script.Item.{Item}
use Rattle.tmf_model.specs.declared.script.Phase.{Phase}
use Rattle.tmf_model.specs.declared.transid.Transid.{Transid}
use Rattle.node_machine.specs.Deeds.{count_of}
use Rattle.node_machine.specs.Opening.{Found}
use Rattle.node_machine.specs.Same.{Among}
use Rattle.node_machine.specs.declared.event.Event.{Event}
use Rattle.disc_lock.specs.Tokens.{HasGiven}
use Rattle.run_outcomes.specs.Told.{item_of}

-- The identifier is that of this item of the run, which is valid over the run's configuration, and so is that.
pub record IsItem (config : Config) (phase : Phase) (found : Found) (t : Transid) (item : Item) : Type 0 where
  pub config_is : found.config ≡ config
  pub valid : IsValidConfig config
  pub item_is : item_of phase t ≡ Some item
  pub valid_item : IsValidItem config item

-- the share has given one token, or none
abbrev pub HasGivenOneAtMost : {L : Type 0} → Share L → Share L → Type 0
HasGivenOneAtMost old new = HasGiven true old new ⊎ HasGiven false old new

-- the part is one of these, and has had as many events as the limit allows among what the seat has seen
pub record IsSpentIn (config : Config) (parts : List ℕ) (seat : Sight Event) (part : ℕ) : Type 0 where
  pub which : Among parts part
  pub spent : config.steps ≤ count_of part seat.seen
