use Rattle.std.proofs.Common.{◌++◌, sym, ap, ◌∙◌, map}
use Rattle.std.specs.Option.{option_to_list}
use Rattle.proto_wire.proofs.FaultLaws.{UnlessMemory-then}
use Rattle.scip_index.specs.Plain.{document_model, DocumentModel}
use Rattle.std.proofs.Common.{List}
use Rattle.scip_index.proofs.StreamingLaws.{all_given, given_is, none-then, onward, read_means}
use Rattle.scip_index.proofs.reader.IndexReader.next.Goals as goal

pub invariant_of-self : goal.invariant_of-self
invariant_of-self c =
    let bytes = c.self.inside.bytes.now in
    none-then c.self.inside.error _ _ c.self.invariant (λ k. let f = c.in-Ok.ensures.found bytes k.0 k.1 in (k.0 ++ f.0, f.1))

pub returns-in-Ok-clause-found : goal.returns-in-Ok-clause-found
returns-in-Ok-clause-found c =
    let r = c.self.inside in
    let bytes = r.bytes.now in
    rw (← c.self.view_is)
    (none-then r.error _ _ c.self.invariant
    (λ k.
    let f = c.in-Ok.ensures.found bytes k.0 k.1 in
    given_is bytes c.in-Ok.at r.error (k.0 ++ f.0) c.in-Ok.rest.now f.1.reached ∙ f.2
    ∙ ap (λ (ds : List DocumentModel). ds ++ map document_model (option_to_list c.in-Ok.document)) (sym (given_is bytes r.at r.error k.0 r.rest.now k.1.reached))))

pub returns-in-Ok-clause-sound : goal.returns-in-Ok-clause-sound
returns-in-Ok-clause-sound c =
    let r = c.self.inside in
    let bytes = r.bytes.now in
    rw (← c.self.view_is)
    (none-then r.error _ _ c.self.invariant
    (λ k.
    let f = c.in-Ok.ensures.found bytes k.0 k.1 in
    read_means bytes c.in-Ok.at r.error (k.0 ++ f.0) c.in-Ok.rest.now f.1.reached f.1.clean))

pub returns-in-Ok-clause-end : goal.returns-in-Ok-clause-end
returns-in-Ok-clause-end c =
    let r = c.self.inside in
    let bytes = r.bytes.now in
    rw (← c.self.view_is)
    (none-then r.error _ _ c.self.invariant
    (λ k.
    let f = c.in-Ok.ensures.found bytes k.0 k.1 in
    all_given bytes k.0 f.0 c.in-Ok.at c.in-Ok.rest.now _ _ c.in-Ok.document _ f.1 f.2 f.3 (given_is bytes r.at r.error k.0 r.rest.now k.1.reached)))

pub returns-in-Err-clause-fault : goal.returns-in-Err-clause-fault
returns-in-Err-clause-fault c =
    let r = c.self.inside in
    rw (← c.self.view_is)
    (none-then r.error _ _ c.self.invariant
    (λ k. UnlessMemory-then c.in-Err.fault (c.in-Err.ensures.err r.bytes.now k.0 k.1) (λ f. (f.0, f.1, f.2, f.3 ∙ sym (given_is r.bytes.now r.at r.error k.0 r.rest.now k.1.reached)))))

pub returns-in-Ok-clause-onward : goal.returns-in-Ok-clause-onward
returns-in-Ok-clause-onward c =
    let r = c.self.inside in
    let bytes = r.bytes.now in
    rw (← c.self.view_is)
    (none-then r.error _ _ c.self.invariant
    (λ k.
    let f = c.in-Ok.ensures.found bytes k.0 k.1 in
    onward bytes k.0 (k.0 ++ f.0) r.at c.in-Ok.at r.rest.now c.in-Ok.rest.now c.in-Ok.document k.1.reached f.1.reached c.in-Ok.ensures.shorter))
