-- The answer for the subnetwork between two modules as an answer for the whole network.
use Rattle.std.proofs.Common.{◌≡◌, ◌∙◌, ℕ, ◌<◌, Bool, List, length, get_or, set, true, sym, subst, subst₂, arith}
use Rattle.std.proofs.lemmas.List.{get_or_default, length-set}
use Rattle.cut_net.specs.declared.priced.Priced.{Priced}
use Rattle.cut_net.specs.Lines.{IsAnswer, IsCheapestAnswer, IsCutAnswer}
use Rattle.cut_net.specs.Network.{Network}
use Rattle.cut_net.specs.AnswerClaim.{AnswerClaim}
use Rattle.cut_net.specs.WellFormed.{AreBetween}
use Rattle.cut_part.proofs.Parts.{end_low, ends_apart, start_low}
use Rattle.cut_part.proofs.Whole.{answer_up, cheapest_up, lines_low}
use Rattle.cut_part.specs.Marks.{claim_in_net, IsSubnetwork}
use Rattle.cut_preflow.specs.Flows.{AreEnds}

module _ (net : Network) (a b : ℕ) (marks : List Bool) (numbers new_numbers : List ℕ) (small : Network) (part : IsSubnetwork net a b marks numbers new_numbers small) (ends : AreEnds net a b) where
  place_in : (m : ℕ) → m < length net.names → m < length new_numbers
  place_in m h =
      let one = length-set marks a true in
      let two = length-set (set marks a true) b true in
      let size = part.size in
      let count = part.renumbering.count in
      omega arith

  pub lines_between : (m n : ℕ) (printed : List Priced) (total : ℕ) (flow : List Priced) → IsCutAnswer small m n printed total flow →
      AreBetween printed (length numbers) × AreBetween flow (length numbers)
  lines_between m n printed total flow is = (
    lines_low net a b ends.from_in ends.to_in marks numbers new_numbers small part printed is.right.printed_in_order,
    lines_low net a b ends.from_in ends.to_in marks numbers new_numbers small part flow is.right.flow_in_order,
  )

  -- the two modules in the subnetwork, as they are read from the indices
  module _ (x y : ℕ) (at_from : x ≡ get_or new_numbers a x) (at_to : y ≡ get_or new_numbers b y) where
    from : x ≡ get_or new_numbers a 0
    from = at_from ∙ get_or_default new_numbers a x 0 (place_in a ends.from_in)

    to : y ≡ get_or new_numbers b 0
    to = at_to ∙ get_or_default new_numbers b y 0 (place_in b ends.to_in)

    pub ends_there : AreEnds small x y
    ends_there = subst₂ (AreEnds small) (sym from) (sym to) (record {
      from_in = start_low net a b ends.from_in ends.to_in marks numbers new_numbers small part;
      to_in = end_low net a b ends.from_in ends.to_in marks numbers new_numbers small part;
      apart = ends_apart net a b ends.from_in ends.to_in marks numbers new_numbers small part ends.apart;
    })

    pub told_whole : (claim whole : AnswerClaim) → whole ≡ claim_in_net numbers claim → IsAnswer small x y claim → IsCheapestAnswer small x y claim → IsAnswer net a b whole × IsCheapestAnswer net a b whole
    told_whole claim whole e is cheapest =
        let here = subst₂ (λ (m n : ℕ). IsAnswer small m n claim) from to is in
        let least = subst₂ (λ (m n : ℕ). IsCheapestAnswer small m n claim) from to cheapest in
        subst (λ (s : AnswerClaim). IsAnswer net a b s × IsCheapestAnswer net a b s) (sym e)
        (answer_up net a b ends.from_in ends.to_in marks numbers new_numbers small part claim here, cheapest_up net a b ends.from_in ends.to_in marks numbers new_numbers small part claim here least)
