use Rattle.cut_net.proofs.laws.pinned_path_excludes_cut.Goals as goal
use Rattle.cut_net.proofs.Pinned.{no_cut}

pub returns : goal.returns
returns c = no_cut
