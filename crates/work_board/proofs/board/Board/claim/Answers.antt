use Rattle.std.proofs.Common.{◌≡◌, true, sym, subst}
use Rattle.std.specs.Prelude.{slice_set}
use Rattle.work_board.specs.Graphs.{lists}
use Rattle.work_board.specs.Keeping.{IsChosenClaim}
use Rattle.work_board.specs.declared.claim.Claim.TheVariants.{Module}
use Rattle.work_board.proofs.Claiming.{claims_module, claims_other, free_ready}
use Rattle.work_board.proofs.board.Board.claim.Goals as goal

pub claim_ready-requires : goal.claim_ready-requires
claim_ready-requires g c =
    let b = c.self.inside in
    let choose_claim = subst (λ ss. IsChosenClaim ss (Module c.in-Module.number)) c.as_slice.ensures.value c.in-Module.ensures in
    rw (← c.self.view_is) (free_ready g.E.WorkEntry.is_of g.T.NamedTree.graph b.waiting.items b.states.items (lists b.reached.items) b.spare.items b.entries.items c.self.invariant.1 b.abandoned c.in-Module.number choose_claim.0 choose_claim.1)

pub returns-in-Module : goal.returns-in-Module
returns-in-Module g c =
    let b = c.self.inside in
    let choose_claim = subst (λ ss. IsChosenClaim ss (Module c.in-Module.number)) c.as_slice.ensures.value c.in-Module.ensures in
    rw (← c.self.view_is) (claims_module g.E.WorkEntry.is_of g.T.NamedTree.graph b.waiting.items b.states.items (lists b.reached.items) b.spare.items b.entries.items c.self.invariant.1 b.abandoned c.if-self.false c.in-Module.number choose_claim c.claim_ready.new.self
    (subst (λ core. c.claim_ready.new.self ≡ record core { claimed = slice_set core.claimed c.in-Module.number true }) (sym c.self.view_is) c.claim_ready.ensures))

pub returns-in_default : goal.returns-in_default
returns-in_default g c =
    let b = c.self.inside in
    let choose_claim = subst (λ ss. IsChosenClaim ss c.choose_claim-claim.result) c.as_slice.ensures.value c.choose_claim-claim.ensures in
    rw (← c.self.view_is) (claims_other g.E.WorkEntry.is_of g.T.NamedTree.graph b.waiting.items b.states.items (lists b.reached.items) b.spare.items b.entries.items c.self.invariant.1 b.abandoned c.if-self.false c.choose_claim-claim.result choose_claim c.in_default.not-Module)
