use Rattle.ob_emit.proofs.documents.document_in_package.Goals as goal

pub returns : goal.returns
returns c = c.document_from_texts.ensures c.args.package_name.now c.in_ok-texts.ensures
