use Rattle.std.proofs.Common.{refl}
use Rattle.type_graph.proofs.Hopping.{added_last}
use Rattle.type_graph.proofs.decompose.append_field_entry.Goals as goal

pub returns-in_ok-push-in-Some : goal.returns-in_ok-push-in-Some
returns-in_ok-push-in-Some g c =
    added_last g.R.PartialEq.eq c.args.paths.now.keys c.args.field.now c.args.field_entries.now.items c.push.new.self.items (record { name = c.in_ok-name-in-Some.name; slot = c.in-Some.slot }) c.in-Some.slot c.get_index_of.result
    c.in_ok-push-in-Some.ensures.items (c.in_ok-name-in-Some.ensures.items_if_clones_equal (λ x y same. same)) refl c.in-Some.is c.get_index_of.ensures.index
