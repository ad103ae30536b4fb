use Rattle.steps.specs.Read.{read_by}
use Rattle.exprs.proofs.IfletLaws.{none_there, iflet_there, if_there}
use Rattle.exprs.proofs.iflets.no_iflet.Goals as goal

pub returns-then-is_word : goal.returns-then-is_word
returns-then-is_word c = iflet_there (read_by c.args.p.now) c.args.p.now.state.next _ _ c.next_token.ensures c.is_lparen.ensures _ _ c.if-is_lparen.true c.second_token-u.ensures c.is_word.ensures c.if-is_word.true

pub returns-then-is_lparen : goal.returns-then-is_lparen
returns-then-is_lparen c = if_there (read_by c.args.p.now) c.args.p.now.state.next _ _ c.next_token.ensures c.is_lparen.ensures _ _ c.if-is_lparen.true c.second_token-u.ensures c.is_word.ensures _ c.if-is_word.false c.is_word-then-is_lparen.ensures

pub returns : goal.returns
returns c = none_there (read_by c.args.p.now) c.args.p.now.state.next _ _ c.next_token.ensures c.is_lparen.ensures c.if-is_lparen.false
