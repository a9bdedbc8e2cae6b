-- The fields of the symbol strings.
use Rattle.std.proofs.Common.{List, ℕ, ap, sym, ◌∙◌, subst, ◌++◌}
use Rattle.ob_view.specs.World.{text}
use Rattle.ob_emit.specs.StoredTexts.{prefix_text, path_text}
use Rattle.ob_emit.specs.Named.{IsName}
use Rattle.ob_emit.specs.Symbols.{module_path}
use Rattle.ob_emit.proofs.Naming.{own_named}
use Rattle.ob_emit.proofs.target_texts.Texts.from_declarations.Goals as goal

pub module_text-requires : goal.module_text-requires
module_text-requires c = subst IsName (sym (c.text-name.ensures ∙ ap (text c.args.view.now) c.module_name_token.ensures)) (own_named c.args.view.now c.requires)

pub returns : goal.returns
returns c = record {
  prefixes = c.in_ok-prefixes.ensures;
  own =
      c.in_ok-own.ensures
      ∙ (ap (λ (x : List ℕ). x ++ path_text (module_path c.text-name.result.now)) (c.as_str.ensures.value ∙ c.in_ok-prefixes.ensures.tree)
      ∙ ap (λ (x : List ℕ). prefix_text c.args.package_name.now ++ path_text (module_path x)) (c.text-name.ensures ∙ ap (text c.args.view.now) c.module_name_token.ensures));
  declared = c.in_ok-declared.ensures c.args.package_name.now (c.as_str-2.ensures.value ∙ c.in_ok-prefixes.ensures.tree);
  locations = c.in_ok-locations.ensures;
  foreign = c.in_ok-foreign.ensures c.args.package_name.now c.in_ok-prefixes.ensures;
}
