use Rattle.std.proofs.Common.{◌≡◌, map, take}
use Rattle.std.specs.String.{string_bytes}
use Rattle.texts.specs.Fields.{line_of}
use Rattle.cut_net.specs.Network.{name_of}
use Rattle.cut_report.proofs.writer.joined_names.Given as goal

abbrev pub invariant-loop-k : goal.invariant-loop-k
invariant-loop-k l = string_bytes l.text ≡ line_of (map (name_of l.net) (take l.k l.modules))
