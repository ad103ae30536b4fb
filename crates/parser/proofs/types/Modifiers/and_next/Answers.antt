use Rattle.steps.specs.Read.{read_by}
use Rattle.parser.proofs.ModifierLaws.{turned_extern, turned_nodebug, turned_none}
use Rattle.parser.proofs.types.Modifiers.and_next.Goals as goal

pub returns-then-is_word : goal.returns-then-is_word
returns-then-is_word c = turned_extern (read_by c.args.p.now) _ _ _ _ c.next_token-t.ensures c.is_word.ensures c.if-is_word.true

pub returns-then-is_word-2 : goal.returns-then-is_word-2
returns-then-is_word-2 c = turned_nodebug (read_by c.args.p.now) _ _ _ _ c.next_token-t.ensures c.is_word.ensures _ c.if-is_word.false c.is_word-2.ensures c.if-is_word-2.true

pub returns : goal.returns
returns c = turned_none (read_by c.args.p.now) _ _ _ _ c.next_token-t.ensures c.is_word.ensures _ c.if-is_word.false c.is_word-2.ensures c.if-is_word-2.false
