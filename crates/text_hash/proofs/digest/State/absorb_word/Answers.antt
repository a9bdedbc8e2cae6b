use Rattle.text_hash.specs.Digest.{absorb_word}
use Rattle.text_hash.proofs.digest.State.absorb_word.Goals as goal

pub returns : goal.returns
unfolding absorb_word
returns c = rw (c.product-low.ensures.low, c.product-low.ensures.high)
