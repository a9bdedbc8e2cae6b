-- Whether a use crosses depends on the declaration that it means.
use Rattle.ob_scope.proofs.ImportUses.{alias_back, crosses_by, import_back, none_crosses}
use Rattle.ob_scope.proofs.crossing_uses.find_crossing.Goals as goal

pub returns-in_err-declared-clause-none : goal.returns-in_err-declared-clause-none
returns-in_err-declared-clause-none c =
    let nothing = c.in_err-declared.ensures.none in
    rw c.from_residual-in_err-declared.ensures (λ bytes ts rows known is_use. none_crosses bytes ts rows c.args.members.now c.args.scopes.now known c.args.imported.now c.args.used is_use nothing)

pub returns-then-is_alias_for-clause-found : goal.returns-then-is_alias_for-clause-found
returns-then-is_alias_for-clause-found c = λ bytes ts rows known is_use.
    crosses_by bytes ts rows c.args.members.now c.args.scopes.now known c.args.imported.now c.args.used is_use c.in_ok-last.last c.in_ok-declared.declared
    c.in_ok-last.was c.in_ok-declared.ensures.found (c.is_alias_for.ensures.alias c.if-is_alias_for.true) (c.is_alias_for.ensures.declared c.if-is_alias_for.true)

pub returns-else-is_alias_for-clause-none : goal.returns-else-is_alias_for-clause-none
returns-else-is_alias_for-clause-none c = λ bytes ts rows known is_use crosses.
    let alias = alias_back bytes ts rows c.args.members.now c.args.scopes.now known c.args.imported.now c.args.used is_use c.in_ok-declared.declared c.in_ok-declared.ensures.found crosses in
    let declared = import_back bytes ts rows c.args.members.now c.args.scopes.now known c.args.imported.now c.args.used is_use c.in_ok-declared.declared c.in_ok-declared.ensures.found crosses in
    let yes = c.is_alias_for.ensures.no alias declared in
    let no = c.if-is_alias_for.false in
    absurd cc
