-- Without pins the report is of a cut, by the definitions for networks without pins.
use Rattle.std.proofs.Common.{◌≡◌, ◌≢◌, ℕ, true, List, [], ◌∷◌, is_some, sym, subst, ◌∙◌}
use Rattle.std.specs.Prelude.{find}
use Rattle.std.proofs.lemmas.Bool.{false≢true}
use Rattle.cut_net.specs.declared.priced.Priced.{Priced}
use Rattle.cut_net.specs.Network.{Network}
use Rattle.cut_net.specs.Cuts.{have_equal_ends}
use Rattle.cut_net.specs.Lines.{flow_by, removed_by}
use Rattle.cut_net.specs.Pins.{is_pinned, IsPinChain}
use Rattle.cut_net.specs.AnswerClaim.{AnswerClaim, CutOf, BlockedBy}
use Rattle.cut_net.proofs.Pinned.{same_cheapest, same_flow, same_printed}
use Rattle.oscip_run.specs.CutRuns.{IsCutText, IsUnpinnedCutClaim, IsUnpinnedCutText, IsPrinted}

-- no import is one of none
not_pinned : (net : Network) (i : Priced) → net.pins ≡ [] → is_pinned net i ≡ true → ⊥
not_pinned net i e t = false≢true (subst (λ (pins : List Priced). is_some (find (have_equal_ends i) pins) ≡ true) e t)

no_chain : (net : Network) (a b : ℕ) (chain : List ℕ) → net.pins ≡ [] → a ≢ b → IsPinChain net a b chain → ⊥
no_chain net a b [] e apart h = h
no_chain net a b (m ∷ []) e apart (start, end) = apart (sym start ∙ end)
no_chain net a b (m ∷ n ∷ more) e apart (start, ((i, c, from, to, pin), rest)) = not_pinned net i e pin

plain_of : (net : Network) (a b : ℕ) (claim : AnswerClaim) → net.pins ≡ [] → a ≢ b → IsPrinted net a b claim → IsUnpinnedCutClaim net a b claim
plain_of net a b (CutOf total printed flow) e apart h = record {
  printed_in_order = h.printed_in_order;
  flow_in_order = h.flow_in_order;
  cheapest = (same_cheapest net a b e (removed_by printed)).0 h.cheapest;
  weights = record { each = h.weights.each; sum = h.weights.sum };
  is_flow = (same_flow net a b e (flow_by flow) total).0 h.is_flow;
  are_printed = (same_printed net a b e apart (removed_by printed)).0 h.are_printed;
}
plain_of net a b (BlockedBy chain) e apart h = no_chain net a b chain e apart h.least.is_chain

-- the report of a network without pins
pub plain_text : (IsOf : Network → Type 0) → ((net : Network) → IsOf net → net.pins ≡ []) → (first second text : List ℕ) → IsCutText IsOf first second text → IsUnpinnedCutText IsOf first second text
plain_text IsOf none first second text c = record {
  net = c.net;
  reads = c.reads;
  a = c.a;
  first_is = c.first_is;
  b = c.b;
  second_is = c.second_is;
  apart = c.apart;
  claim = c.claim;
  says = c.says;
  holds = plain_of c.net c.a c.b c.claim (none c.net c.reads) c.apart c.holds;
}
