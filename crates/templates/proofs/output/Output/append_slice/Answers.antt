use Rattle.std.proofs.Common.{refl, arith}
use Rattle.templates.proofs.WriteLaws.{no_copy, copied, copying_turn, same_copying}
use Rattle.templates.proofs.output.Output.append_slice.Goals as goal

pub returns-then-self-upto-clause-wrote : goal.returns-then-self-upto-clause-wrote
returns-then-self-upto-clause-wrote c = search no_copy

pub loop-i-preserved : goal.loop-i-preserved
loop-i-preserved c = copying_turn _ _ _ _ _ _ _ _ c.put.ensures c.rec_at.ensures (refl, refl, refl) c.loop-i.invariant (omega arith) c.loop-i-test.true c.requires.inside

pub returns-clause-wrote : goal.returns-clause-wrote
returns-clause-wrote c = copied _ _ _ _ c.requires.ordered c.requires.inside _ _ c.loop-i.invariant c.loop-i-test.false (omega arith) c.if-self-upto.false c.args.self.now.within

pub returns-clause-same : goal.returns-clause-same
returns-clause-same c = same_copying _ _ _ _ _ _ c.loop-i.invariant
