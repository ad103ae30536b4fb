use Rattle.tokens.specs.Input.{input}
use Rattle.reading.proofs.ReadLaws.{read_finished}
use Rattle.reading.proofs.read.Goals as goal

pub returns : goal.returns
returns c = read_finished (input c.args.tokens.now c.args.text.now c.args.end) _ _ _ _ _ c.parse-p.ensures.reads c.parse-p.auto.out c.finish_on.ensures
