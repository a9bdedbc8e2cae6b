use Rattle.std.proofs.Common.{refl}
use Rattle.text_hash.specs.Digest.{first_state}
use Rattle.text_hash.proofs.digest.State.new.Goals as goal

pub returns : goal.returns
unfolding first_state
returns c = refl
