-- A program with its commands.
use Rattle.std.proofs.Common.{◌≡◌, ◌∙◌, ap, ap₂, false}
use Rattle.clap.specs.Words.{App, AddsSubcommand, app_of, with_subcommand}
use Rattle.clap.specs.declared.Command.{Command}
use Rattle.clap.specs.declared.Command.TheViews.{out-Command as fields_of}

pub with_command : (program command all : Command) (first second : App) → AddsSubcommand program command all → (fields_of command).has_globals ≡ false → app_of program ≡ first
    → app_of command ≡ second → app_of all ≡ with_subcommand first second.top
with_command program command all first second adds local is_first is_second =
    adds.shape local ∙ ap₂ (λ (a : App) s. with_subcommand a s) is_first (ap (λ (a : App). a.top) is_second)
