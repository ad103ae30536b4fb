use Rattle.std.proofs.Common.{arith}
use Rattle.trees.specs.Names.{without_first}
use Rattle.steps.specs.Outcome.{const_refusal, parse_const}
use Rattle.steps.proofs.NameLaws.{const_told}
use Rattle.steps.proofs.SizeLaws.{const_bounded, parent-bounded}
use Rattle.steps.proofs.ReadLaws.{exit, node_of, node_stopped, by_name, next_begun, bounded_went}
use Rattle.steps.proofs.Parser.const_node_of.Goals as goal

pub returns-in_err-put_const-clause-reads : goal.returns-in_err-put_const-clause-reads
unfolding parse_const
returns-in_err-put_const-clause-reads c = exit c.from_residual.ensures (node_stopped _ _ c.begin-node.ensures.begun (by_name const_refusal without_first c.args.t (next_begun c.begin-node.ensures.begun c.requires.next) (const_told _ _ c.requires.constant) c.in_err-put_const.ensures.reads))

pub returns-clause-reads : goal.returns-clause-reads
unfolding parse_const
returns-clause-reads c = node_of _ c.requires.next c.begin-node.ensures.start c.begin-node.ensures.begun (by_name const_refusal without_first c.args.t (next_begun c.begin-node.ensures.begun c.requires.next) (const_told _ _ c.requires.constant) c.in_ok-put_const.ensures.reads) c.close_of.ensures

pub returns-clause-within : goal.returns-clause-within
returns-clause-within c = bounded_went 1 1 0 (λ s. parent-bounded 1 2 0 1 1 0 _ _ _ _ (omega arith) (omega arith) (const_bounded s)) (returns-clause-reads c)
