use Rattle.std.proofs.Common.{◌≡◌, ◌∙◌, ◌+◌, ◌<◌, ℕ, List, [], ◌∷◌, ◌++◌, length, map, take, ap, ap₂, subst, sym, arith}
use Rattle.std.specs.Prelude.{Contains}
use Rattle.std.proofs.lemmas.List.{map-append, take_more}
use Rattle.std.proofs.lemmas.List.Elements.{All-push}
use Rattle.cut_net.specs.Network.{index_of, name_of}
use Rattle.cut_net.proofs.Places.{index_takes}
use Rattle.scopes.specs.Scoped.{ModuleScopes}
use Rattle.source_tree.proofs.LocatedFiles.{known}
use Rattle.source_tree.proofs.located.network_numbers.Goals as goal

pub unreachable-requires : goal.unreachable-requires
unreachable-requires c =
    let item = c.module-item.result in
    let within : c.loop-module.module-index < length c.args.scopes.now = (let test = c.loop-module-test.true in omega arith) in
    let has : Contains c.args.net.now.names item.name = subst (λ (s : ModuleScopes). Contains c.args.net.now.names s.name) (sym c.module-item.is) (c.requires c.loop-module.module-index item within) in
    known c.args.net.now item.name has (ap (index_of c.args.net.now) (sym c.name.ensures) ∙ sym c.index_of.ensures ∙ c.in_default.is)

pub loop-module-preserved : goal.loop-module-preserved
loop-module-preserved c =
    let net = c.args.net.now in
    let ss = c.args.scopes.now in
    let at = c.loop-module.module-index in
    let item = c.module-item.result in
    let names : ModuleScopes → List ℕ = λ s. s.name in
    let within : at < length ss = (let test = c.loop-module-test.true in omega arith) in
    let takes = index_takes net c.name.result.now c.in-Some.number (sym c.index_of.ensures ∙ c.in-Some.is) in
    let left = map-append (name_of net) c.loop-module.modules.items (c.in-Some.number ∷ []) ∙ ap₂ (λ (front : List (List ℕ)) (name : List ℕ). front ++ name ∷ []) c.loop-module.invariant.1 (takes.1 ∙ c.name.ensures) in
    let right = ap (map names) (take_more ss at item within ∙ ap (λ (s : ModuleScopes). take at ss ++ s ∷ []) (sym c.module-item.is)) ∙ map-append names (take at ss) (item ∷ []) in
    rw c.in_ok-push.ensures.items (All-push (λ (m : ℕ). m < length net.names) c.loop-module.modules.items c.in-Some.number c.loop-module.invariant.0 takes.0, left ∙ sym right)
