use Prim.Native.Nat.{ℕ, ◌≤◌}
use mathlib.Core.Path.{◌≡◌, subst}
use mathlib.Core.List.{List}
use Rattle.trees.specs.declared.Rec.{Rec}
use Rattle.records.specs.Slots.{slots, word0, put}
use Rattle.records.proofs.Laws.{no_slot}
use Rattle.tally.proofs.put_within.Goals as goal

past : (l : List ℕ) (n space : ℕ) (r : Rec) → space ≡ slots l → space ≤ n → l ≡ put l n r
unfolding put
past l n space r e h = no_slot l n (word0 r) r.word1 r.word2 (subst (λ (x : ℕ). x ≤ n) e h)

pub returns-else-n-space : goal.returns-else-n-space
returns-else-n-space c = search past
