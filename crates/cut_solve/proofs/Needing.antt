-- Each reported import of an answer is needed.
use Rattle.std.proofs.Common.{◌≡◌, ◌<◌, ℕ, List, length, Some, sym, ◌∙◌, subst}
use Rattle.std.proofs.lemmas.Option.{same_Some}
use Rattle.cut_net.specs.Network.{Network, index_of}
use Rattle.cut_net.specs.AnswerClaim.{AnswerClaim, CutOf, BlockedBy}
use Rattle.cut_net.specs.WellFormed.{IsNetwork}
use Rattle.cut_net.specs.Lines.{removed_by}
use Rattle.cut_net.specs.Pins.{ArePins, IsAnswerWithPins}
use Rattle.cut_net.proofs.Pinned.{needed_with_pins}
use Rattle.cut_net.proofs.Places.{index_takes}
use Rattle.cut_solve.specs.Solving.{AreNeeded, IsEachNeeded}

module _ (net : Network) (is : IsNetwork net) (pins : ArePins net) where
  each_needed : (a b : ℕ) (claim : AnswerClaim) → a < length net.names → IsAnswerWithPins net a b claim → IsEachNeeded net a b claim
  each_needed a b (CutOf total printed flow) a_in answer = needed_with_pins net a b (removed_by printed) is.between a_in pins answer.free answer.are_printed
  each_needed a b (BlockedBy chain) a_in answer = tt

  pub are_needed : (from to : List ℕ) (a b : ℕ) (claim : AnswerClaim) → index_of net from ≡ Some a → index_of net to ≡ Some b → IsAnswerWithPins net a b claim → AreNeeded net from to claim
  are_needed from to a b claim from_is to_is answer c d c_is d_is =
      let here = each_needed a b claim (index_takes net from a from_is).0 answer in
      subst (λ (m : ℕ). IsEachNeeded net m d claim) (same_Some a c (sym from_is ∙ c_is)) (subst (λ (m : ℕ). IsEachNeeded net a m claim) (same_Some b d (sym to_is ∙ d_is)) here)
