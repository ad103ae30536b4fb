use Rattle.std.proofs.Common.{◌≡◌, ◌-◌, length, take, drop, not, tests, rules, arith}
use Rattle.std.proofs.lemmas.Iterator.{YieldsList-from_slice}
use Rattle.std.proofs.lemmas.Iterator.Search.{position_from_yields_List}
use Rattle.lexer.proofs.GapLaws.{run_found}
use Rattle.lexer.proofs.gaps.run_end.Goals as goal

pub returns-clause-where_it_fails : goal.returns-clause-where_it_fails
returns-clause-where_it_fails g c =
    let found = position_from_yields_List (λ x. not (g.test x)) _ _ _ c.position.ensures.ran (YieldsList-from_slice c.iter.result.rest.now cc) (λ x b q k. search (rules, tests)) in
    let w = run_found g.test c.args.text.now c.iter.result.rest.now c.args.from c.position.result (omega arith) c.iter.ensures.rest found in
    let e : c.iter.result.rest.now ≡ take (length c.args.text.now - c.args.from) (drop c.args.from c.args.text.now) = c.iter.ensures.rest in
    rw (c.unwrap_or-run.ensures, ← e) w
