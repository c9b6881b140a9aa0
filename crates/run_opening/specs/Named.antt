-- Whether a run names a volume.
use Rattle.std.specs.Prelude.{ℕ, Bool, ◌==◌, List}
use Rattle.std.specs.List.{list_any}
use Rattle.node_machine.specs.Made.{volume_of}
use Rattle.tmf_model.specs.declared.config.Config.{Config}
use Rattle.tmf_model.specs.declared.script.Item.{Item}
use Rattle.tmf_model.specs.declared.script.Item.TheVariants.{Transaction as TransactionItem, Control, Dump}
use Rattle.tmf_model.specs.declared.script.Phase.{Phase}

-- a step of the item is on a file of the volume, or the item is on the volume itself
abbrev pub item_names : Config → ℕ → Item → Bool
item_names config volume (TransactionItem transaction) = list_any (λ step. volume_of config step.file == volume) transaction.steps
item_names config volume (Control named) = named == volume
item_names config volume (Dump named) = named == volume

-- one of the items names the volume
abbrev pub items_name : Config → ℕ → List Item → Bool
items_name config volume items = list_any (item_names config volume) items

-- an item of one of the run's workers names the volume
abbrev pub is_named : Config → ℕ → Phase → Bool
is_named config volume phase = list_any (items_name config volume) phase.workers
