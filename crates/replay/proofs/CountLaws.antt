-- Calls that differ are counted. Assumes nothing.
use Rattle.std.proofs.Common.{◌≡◌, ℕ, ◌+◌, ◌-◌, ◌%◌, ◌^◌, ◌<◌, ◌≤◌, Bool, true, false, List, [], length, le-ltb, lt-ltb, eq-eqb, ne_eqb}
use Rattle.records.specs.Result.{refused}
use Rattle.replay.specs.Said.{Said, SaidBoth}
use Rattle.replay.specs.Agreed.{agreed, agreed_both}
use Rattle.replay.specs.Counted.{after, without_space, after_room, after_short, after_case, after_opening}

pub same_count : (d : ℕ) (good : Bool) → good ≡ true → d ≡ after d good
unfolding after
same_count d good e = rw e

pub one_more : (d x : ℕ) (good : Bool) → good ≡ false → x ≡ (d + 1) % 2 ^ 64 → x ≡ after d good
unfolding after
one_more d x good e q = rw e q

pub no_space : (answer r : ℕ) → answer < 72057594037927936 → r ≡ refused 6 0 → r ≡ without_space answer
unfolding without_space
no_space answer r h e = rw (lt-ltb answer 72057594037927936 h) e

pub refused_anyway : (answer : ℕ) → 72057594037927936 ≤ answer → answer ≡ without_space answer
unfolding without_space
refused_anyway answer h = rw (le-ltb answer 72057594037927936 h)

module _ (s : ℕ → Said) (answer d : ℕ) where
  pub room-counted : (more : ℕ) (records : List ℕ) (x y : ℕ) (a b : Bool) → a ≡ agreed (s (length records)) answer records → b ≡ agreed (s (length records + more)) answer records → x ≡ after d a → y ≡ after x b → y ≡ after_room d s more answer records
  unfolding after_room
  room-counted more records x y a b e f g h = rw (← e, ← f, ← g) h

  pub short_none : (n : ℕ) → n ≡ 0 → d ≡ after_short d s answer n
  unfolding after_short
  short_none n e = rw (eq-eqb n 0 e)

  pub short-counted : (n z x : ℕ) (a : Bool) → (n ≡ 0 → ⊥) → z ≡ without_space answer → a ≡ agreed (s (n - 1)) z [] → x ≡ after d a → x ≡ after_short d s answer n
  unfolding after_short
  short-counted n z x a h e f g = rw (ne_eqb n 0 h, ← e, ← f) g

  pub case-counted : (more : ℕ) (records : List ℕ) (x y z : ℕ) → x ≡ d → y ≡ after_room x s more answer records → z ≡ after_short y s answer (length records) → z ≡ after_case d s more answer records
  unfolding after_case
  case-counted more records x y z e f g = rw (← e, ← f) g

pub opening-counted : (s : ℕ → ℕ → SaidBoth) (n m answer : ℕ) (templates records : List ℕ) (d w x y : ℕ) (a b : Bool) → a ≡ agreed_both (s n m) answer templates records → b ≡ agreed_both (s (n + 10) (m + 10)) answer templates records → w ≡ d → x ≡ after w a → y ≡ after x b → y ≡ after_opening d s n m answer templates records
unfolding after_opening
opening-counted s n m answer templates records d w x y a b e f i g h = rw (← e, ← f, ← i, ← g) h
