-- The scopes are those of the entries, and satisfy the invariant.
use Rattle.std.proofs.Common.{subst, sym}
use Rattle.module_table.specs.Tables.{rows_in}
use Rattle.scopes.specs.declared.members.Member.{Member}
use Rattle.module_table.specs.Order.{IsIncreasingBy}
use Rattle.ob_scope.proofs.Assembling.{are_kept, are_scopes_by}
use Rattle.ob_scope.proofs.Placing.{members_ascend}
use Rattle.ob_scope.proofs.build.assemble_scopes.Goals as goal

pub build_aliases-requires-clause-sorted : goal.build_aliases-requires-clause-sorted
build_aliases-requires-clause-sorted c =
    subst (IsIncreasingBy (λ (m : Member). m.number)) (sym c.requires.members) (members_ascend (rows_in c.args.table.now).decl_groups (rows_in c.args.table.now).declared c.requires.ordered.declared)

pub new-requires : goal.new-requires
new-requires c =
    let aliases = rw (c.as_slice.ensures.value, c.imports.ensures) at c.in_ok-aliases.ensures in
    are_kept c.args.text.now.bytes.now c.args.text.now.tokens.now (rows_in c.args.table.now) _ c.requires.few
    (are_scopes_by c.args.text.now.bytes.now c.args.text.now.tokens.now (rows_in c.args.table.now) c.args.members.now c.args.found.counts.items _ c.args.found.meanings.items c.in_ok-aliases.aliases.items c.requires.members c.requires.ordered c.requires.named c.requires.once c.requires.meant c.requires.counted aliases c.in_ok-name.ensures)

pub returns : goal.returns
returns c =
    let aliases = rw (c.as_slice.ensures.value, c.imports.ensures) at c.in_ok-aliases.ensures in
    rw c.new.ensures
    (are_scopes_by c.args.text.now.bytes.now c.args.text.now.tokens.now (rows_in c.args.table.now) c.args.members.now c.args.found.counts.items _ c.args.found.meanings.items c.in_ok-aliases.aliases.items c.requires.members c.requires.ordered c.requires.named c.requires.once c.requires.meant c.requires.counted aliases c.in_ok-name.ensures)
