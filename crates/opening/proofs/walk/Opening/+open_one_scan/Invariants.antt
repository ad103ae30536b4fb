use Rattle.std.proofs.Common.{◌+◌, ◌-◌, ◌*◌}
use Rattle.records.specs.Slots.{slots}
use Rattle.opening.proofs.WalkLaws.{Walking}
use Rattle.opening.proofs.ScanLaws.{Scanning}
use Rattle.opening.proofs.walk.Opening.+open_one_scan.Given as goal

abbrev pub decreases-open_one : goal.decreases-open_one
decreases-open_one l = 2 * (slots l.self.now.source.records.now - l.i) + 1

abbrev pub decreases-scan : goal.decreases-scan
decreases-scan l = 2 * (slots l.self.now.source.records.now - l.k)

abbrev pub invariant-open_one-loop-todo : goal.invariant-open_one-loop-todo
invariant-open_one-loop-todo l =
    Walking l.self.to l.self.space l.self.known.text.now l.self.known.rows.now l.self.starts.now l.self.source.records.now l.self.source.ends.now l.self.params.first l.self.params.count l.initial.store l.initial.out l.i l.m l.store l.out l.todo l.k l.y

abbrev pub decreases-open_one-loop-todo : goal.decreases-open_one-loop-todo
decreases-open_one-loop-todo l = slots l.self.source.records.now - l.k

abbrev pub invariant-scan-loop-j : goal.invariant-scan-loop-j
invariant-scan-loop-j l =
    Scanning l.self.to l.self.space l.self.known.text.now l.self.known.rows.now l.self.starts.now l.self.source.records.now l.self.source.ends.now l.self.params.first l.self.params.count l.initial.store l.initial.out l.k l.m l.store l.out l.j-end l.j l.y l.from l.last
