use borrow.Author.Rules.{rules}
use Rattle.opening.proofs.WroteLaws.{append-out, append-store}
use Rattle.opening.proofs.walk.Opening.append.Goals.{in-Store, in-Output}
use Rattle.opening.proofs.walk.Opening.append.Goals as goal

pub returns : goal.returns
returns c = elim c.match-self.branch [
  | in-Store w ↦ rw (w.store-is, w.out-is) (append-store _ _ _ _ _ _ _ w.put.ensures (search rules) w.in-Store.is c.requires c.if-n-self.false)
  | in-Output w ↦ rw (w.store-is, w.out-is) (append-out _ _ _ _ _ _ _ w.put-in-Output.ensures (search rules) w.in-Output.is c.requires c.if-n-self.false)
]
