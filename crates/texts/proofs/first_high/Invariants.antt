use Rattle.texts.specs.TextReading.{is_ascii}
use Rattle.texts.proofs.first_high.Given as goal

abbrev pub ghost-run_end : goal.ghost-run_end
ghost-run_end a = is_ascii
