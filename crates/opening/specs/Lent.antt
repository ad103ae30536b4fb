-- The outputs of a call, as they are lent to its functions.
use Rattle.std.specs.Prelude.{◌≡◌, length}
use Rattle.opening.specs.declared.lent.Outputs.{Outputs as Lent}
use Rattle.opening.specs.Answers.{Outputs, outputs}

-- what they hold
abbrev pub held : Lent → Outputs
held l = outputs l.store.now l.out.now

-- they are the same two that were lent, of the same lengths
pub record SameLent (l l' : Lent) : Type 0 where
  pub store : l'.store.ghost_name ≡ l.store.ghost_name
  pub out : l'.out.ghost_name ≡ l.out.ghost_name
  pub store_size : length l'.store.now ≡ length l.store.now
  pub out_size : length l'.out.now ≡ length l.out.now
