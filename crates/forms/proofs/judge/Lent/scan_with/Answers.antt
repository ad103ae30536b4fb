use Rattle.forms.proofs.ScanLaws.{same_pending}
use Rattle.forms.proofs.judge.Lent.scan_with.Goals as goal

pub returns : goal.returns
returns g c = search same_pending
