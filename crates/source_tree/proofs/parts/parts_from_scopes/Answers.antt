use Rattle.std.proofs.Common.{◌∙◌, ℕ, List, refl, ap, subst}
use Rattle.std.specs.String.{string_bytes}
use Rattle.module_table.specs.Tables.{rows_in}
use Rattle.module_table.specs.Parts.{Rows}
use Rattle.ob_interface.specs.Interfaces.{interface_of}
use Rattle.ob_scan.specs.declared.token.Token.{Token}
use Rattle.scopes.specs.Scoped.{AreScopes}
use Rattle.source_tree.proofs.parts.parts_from_scopes.Goals as goal

pub returns : goal.returns
returns c = λ tree is_tree same.
    let source = c.args.source.now in
    let ts = c.args.tokens in
    let scoped = subst (λ (rows : Rows). AreScopes source.bytes.items ts rows c.args.scopes) same c.requires.scoped in (
      record { path = string_bytes source.path; bytes = source.bytes.items; tokens = ts; tree = tree },
      record { path_is = refl; bytes_are = refl; reads = c.requires.spelled; is_tree = is_tree; once = scoped.once },
      rw c.in_ok-parts.ensures.ok (record {
        tokens_are = refl;
        table_is = same;
        scopes_are = scoped;
        interface_is =
            c.in_ok-interface.ensures ∙ ap (λ (bytes : List ℕ). interface_of bytes c.as_slice.result.now (rows_in c.args.table)) c.as_slice-2.ensures.value
            ∙ ap (λ (tokens : List Token). interface_of source.bytes.items tokens (rows_in c.args.table)) c.as_slice.ensures
            ∙ ap (λ (rows : Rows). interface_of source.bytes.items ts rows) same;
      }),
    )
