use Rattle.texts.proofs.ReadLaws.{lexed-count, within-is}
use Rattle.texts.proofs.parse_within.Goals as goal

pub parse_lexed-requires-clause-few : goal.parse_lexed-requires-clause-few
parse_lexed-requires-clause-few c = lexed-count _ _ _ _ c.lex-n.ensures c.requires

pub returns-clause-reads : goal.returns-clause-reads
returns-clause-reads c = within-is _ _ _ _ c.lex-n.ensures _ _ _ c.requires c.parse_lexed.ensures.reads
