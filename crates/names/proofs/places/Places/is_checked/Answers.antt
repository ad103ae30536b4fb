use Rattle.std.proofs.Common.{rules, arith}
use Rattle.std.proofs.lemmas.Iterator.{YieldsList-from_range, cases_from_all}
use Rattle.names.specs.Order.{Leads}
use Rattle.names.proofs.Laws.{checked_all}
use Rattle.names.proofs.places.Places.is_checked.Goals as goal

pub returns : goal.returns
returns c =
    let n = c.args.self.now.names.n in
    checked_all _ _ _ _ _ _ (cases_from_all _ _ _ (λ j. Leads c.args.self.now.names c.args.self.now.numbers.now c.args.marks.now j) (λ j. Unit {0}) c.all.ensures.ran (YieldsList-from_range 0 n n (cc) (omega arith)) (λ x q k. search rules) (λ x q k. tt))
