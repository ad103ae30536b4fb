use Rattle.texts.proofs.ReadLaws.{text_finished}
use Rattle.texts.proofs.read_text.Goals as goal

pub returns : goal.returns
returns c = text_finished _ _ _ _ _ _ c.parse-p.ensures.reads c.parse-p.auto.out c.finish_on.ensures
