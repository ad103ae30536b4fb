use Rattle.forms.proofs.TableLaws.{table-row}
use Rattle.forms.proofs.table.row_of.Goals as goal

pub returns : goal.returns
returns c = table-row _ _ _ _ c.row_number-i.ensures.in_table c.row_number-i.ensures.row
