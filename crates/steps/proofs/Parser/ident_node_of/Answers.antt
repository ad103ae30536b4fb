use Rattle.std.proofs.Common.{arith}
use Rattle.tokens.specs.Ident.{ident_refusal}
use Rattle.steps.specs.Outcome.{parse_ident}
use Rattle.steps.proofs.SizeLaws.{ident-bounded, parent-bounded}
use Rattle.steps.proofs.ReadLaws.{exit, node_of, node_stopped, by_name, next_begun, bounded_went}
use Rattle.steps.proofs.Parser.ident_node_of.Goals as goal

pub returns-in_err-put_name-clause-reads : goal.returns-in_err-put_name-clause-reads
unfolding parse_ident
returns-in_err-put_name-clause-reads c = exit c.from_residual.ensures (node_stopped _ _ c.begin-node.ensures.begun (by_name ident_refusal (λ w. w) c.args.t (next_begun c.begin-node.ensures.begun c.requires.next) c.requires.symbol c.in_err-put_name.ensures.reads))

pub returns-clause-reads : goal.returns-clause-reads
unfolding parse_ident
returns-clause-reads c = node_of _ c.requires.next c.begin-node.ensures.start c.begin-node.ensures.begun (by_name ident_refusal (λ w. w) c.args.t (next_begun c.begin-node.ensures.begun c.requires.next) c.requires.symbol c.in_ok-put_name.ensures.reads) c.close_of.ensures

pub returns-clause-within : goal.returns-clause-within
returns-clause-within c = bounded_went 1 1 0 (λ s. parent-bounded 1 2 0 1 1 0 _ _ _ _ (omega arith) (omega arith) (ident-bounded s)) (returns-clause-reads c)
