-- What is known of a command while its arguments are added to it.
use Rattle.std.specs.Prelude.{◌≡◌, false}
use Rattle.clap.specs.Words.{app_of, App}
use Rattle.clap.specs.declared.Command.{Command}
use Rattle.clap.specs.declared.Command.TheViews.{out-Command as fields_of}

-- the command parses these arguments, and none of them is global: each belongs to this command alone
abbrev pub ParsesArguments : App → Command → Type 0
ParsesArguments app command = (app_of command ≡ app) × ((fields_of command).has_globals ≡ false)
