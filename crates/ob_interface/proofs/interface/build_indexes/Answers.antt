use Rattle.ob_interface.specs.declared.rows.Rows.{Rows}
use Rattle.ob_interface.proofs.Made.{members_indexed, aliases_indexed, bases_indexed, owners_indexed}
use Rattle.ob_interface.proofs.interface.build_indexes.Goals as goal

pub returns : goal.returns
returns c =
    let rows : Rows = c.args.rows.now in
    let members = members_indexed rows _ _ c.in_ok-members.members.items c.as_slice-text.ensures.value c.as_slice-declarations.ensures.value c.in_ok-members.ensures.sorted c.in_ok-members.ensures.same in
    let aliases = aliases_indexed rows _ _ c.in_ok-aliases.aliases.items c.as_slice-text.ensures.value c.as_slice.ensures.value c.in_ok-aliases.ensures.sorted c.in_ok-aliases.ensures.same in
    record {
      few = c.requires;
      by_name = members.0;
      declared = members.1;
      by_alias = aliases.0;
      imported = aliases.1;
      by_record = c.in_ok-bases.ensures.sorted;
      based = bases_indexed rows _ c.in_ok-bases.bases.items c.as_slice-2.ensures.value c.in_ok-bases.ensures.same;
      by_owner = c.in_ok-owners.ensures.sorted;
      owned = owners_indexed rows _ _ c.in_ok-owners.owners.items c.as_slice-3.ensures.value c.as_slice-declarations.ensures.value c.in_ok-owners.ensures.same;
    }
