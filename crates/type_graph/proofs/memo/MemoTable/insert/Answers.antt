use Rattle.std.proofs.Common.{refl}
use Rattle.type_graph.proofs.Memoized.{adds_few, adds_more, adds_nothing}
use Rattle.type_graph.proofs.memo.MemoTable.insert.Goals as goal

pub returns-in_err-insert : goal.returns-in_err-insert
returns-in_err-insert g c = adds_nothing g.K.PartialEq.eq c.args.self.now (record { few = c.insert.new.self; most = c.args.self.now.most; more = c.args.self.now.more }) c.args.key c.args.value c.in_err-insert.ensures.err refl

pub returns-in_err-insert-2 : goal.returns-in_err-insert-2
returns-in_err-insert-2 g c = adds_nothing g.K.PartialEq.eq c.args.self.now (record { few = c.args.self.now.few; most = c.args.self.now.most; more = c.insert-else-len-self.new.self }) c.args.key c.args.value refl c.in_err-insert-2.ensures.err

pub returns-in_ok-insert : goal.returns-in_ok-insert
returns-in_ok-insert g c =
    adds_few g.K.PartialEq.eq c.args.self.now (record { few = c.insert.new.self; most = c.args.self.now.most; more = c.args.self.now.more }) c.args.key c.args.value refl c.in_ok-insert.ensures.updates.0

pub returns-in_ok-insert-2 : goal.returns-in_ok-insert-2
returns-in_ok-insert-2 g c =
    adds_more g.K.PartialEq.eq c.args.self.now (record { few = c.args.self.now.few; most = c.args.self.now.most; more = c.insert-else-len-self.new.self }) c.args.key c.args.value c.hash_of.result refl c.in_ok-insert-2.ensures.updates.0
