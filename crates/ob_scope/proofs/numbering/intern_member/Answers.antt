-- The member's name is numbered.
use Rattle.std.proofs.lemmas.Option.{slice_get-get_or}
use Rattle.ob_scan.specs.Texts.{text_at}
use Rattle.ob_scope.proofs.Numberings.{numbered_more}
use Rattle.ob_scope.proofs.numbering.intern_member.Goals as goal

pub returns-in_ok-push-in-Ok-clause-numbered : goal.returns-in_ok-push-in-Ok-clause-numbered
returns-in_ok-push-in-Ok-clause-numbered c =
    rw c.in_ok-push-in-Ok.ensures.items
    (numbered_more (text_at c.args.text.now.bytes.now c.args.text.now.tokens.now) c.args.members.now c.args.at _ _ (record { bytes = c.token_text-bytes.result }) c.args.named.now.names.keys c.insert_full.new.self.keys c.args.named.now.numbers.items c.requires.numbered
    (slice_get-get_or c.args.members.now c.args.at _ c.requires.within) c.token_text-bytes.ensures c.in-Ok.ensures.index c.in-Ok.ensures.keys)
