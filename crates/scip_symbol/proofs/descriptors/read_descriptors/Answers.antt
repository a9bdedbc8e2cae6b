use Rattle.std.proofs.Common.{rules, ◌-◌, length, arith}
use Rattle.scip_symbol.specs.Views.{descriptor_model, descriptor_models}
use Rattle.scip_symbol.proofs.DescriptorLaws.{read_of, descriptor_shortens}
use Rattle.scip_symbol.proofs.DescriptorRows.{read_more, plain_pushed}
use Rattle.scip_symbol.proofs.descriptors.read_descriptors.Goals as goal

pub loop-rest-smaller : goal.loop-rest-smaller
loop-rest-smaller c =
    omega (arith, descriptor_shortens (c.args.whole - length c.loop-rest.rest.now) c.loop-rest.rest.now (descriptor_model c.in_ok-descriptor.descriptor) c.in_ok-descriptor.after.now c.in_ok-descriptor.ensures)

pub loop-rest-preserved : goal.loop-rest-preserved
loop-rest-preserved c = record {
  text = search rules;
  read =
      let t = read_of (c.args.whole - length c.loop-rest.rest.now) c.loop-rest.rest.now (descriptor_model c.in_ok-descriptor.descriptor, c.in_ok-descriptor.after.now) c.in_ok-descriptor.ensures in
      rw (c.in_ok-push.ensures.items, plain_pushed c.loop-rest.descriptors.items c.in_ok-descriptor.descriptor)
      (read_more c.args.text.now (descriptor_models c.loop-rest.descriptors.items) (descriptor_model c.in_ok-descriptor.descriptor) c.loop-rest.rest.now t.first c.in_ok-descriptor.after.now c.loop-rest.invariant.read t.first_is t.split);
}
