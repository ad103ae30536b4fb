use Rattle.closed.proofs.Theorem.{worth_closed}
use Rattle.isle.proofs.EntryLaws.{read_worth}
use native.Mathlib.Omega.{arith}
use Rattle.isle.proofs.isle_read.Goals as goal

pub returns : goal.returns
returns c =
    let answer = c.read.ensures in
    let worth = read_worth _ _ _ _ _ answer in
    record {
      answer = answer;
      meaning = worth;
      closed = worth_closed (record { byte = λ i. omega (arith, c.type_inv.tokens i); end = omega (arith, c.ranges.end) }) worth;
    }
