-- What stands behind the contracts of this crate and in none of its public calls.
use Rattle.std.specs.Prelude.{List, [], ◌∷◌}
use Rattle.kx_messages.specs.declared.messages.Items.{Items}
use Rattle.kx_messages.specs.declared.messages.Items.TheVariants.{One, Many}
use Rattle.kx_message.specs.declared.message.Message.{Message}

-- the messages of a step, one or a list
abbrev pub items_of : Items → List Message
items_of (One message) = message ∷ []
items_of (Many messages) = messages.items
