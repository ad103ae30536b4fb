-- How many calls differ, counted modulo 2^64 from d on.
use Rattle.std.specs.Prelude.{ℕ, ◌+◌, ◌-◌, ◌%◌, ◌^◌, Bool, true, false, List, [], length, ◌==◌, nat_lt}
use Rattle.trees.specs.Choice.{pick}
use Rattle.records.specs.Result.{refused}
use Rattle.replay.specs.Said.{Said, SaidBoth}
use Rattle.replay.specs.Agreed.{agreed, agreed_both}

-- after a call, by whether it agrees
unfoldable pub after : ℕ → Bool → ℕ
after d true = d
after d false = (d + 1) % 2 ^ 64

-- what is answered where the output is too small: 6 instead of an acceptance
unfoldable pub without_space : ℕ → ℕ
without_space answer = pick (nat_lt answer 72057594037927936) (refused 6 0) answer

-- after two calls, s being what is said of an output of so many bytes: just the size of the records, and `more` bytes more
unfoldable pub after_room : ℕ → (ℕ → Said) → ℕ → ℕ → List ℕ → ℕ
after_room d s more answer records = after (after d (agreed (s (length records)) answer records)) (agreed (s (length records + more)) answer records)

-- after the call with an output that lacks a byte of n, where one is needed at all
unfoldable pub after_short : ℕ → (ℕ → Said) → ℕ → ℕ → ℕ
after_short d s answer n = pick (n == 0) d (after d (agreed (s (n - 1)) (without_space answer) []))

-- after a case of an entry with one output
unfoldable pub after_case : ℕ → (ℕ → Said) → ℕ → ℕ → List ℕ → ℕ
after_case d s more answer records = after_short (after_room d s more answer records) s answer (length records)

-- after a case of opening, s being what is said of a store and an output of so many bytes: n and m, and a part of a record more, which is no more space
unfoldable pub after_opening : ℕ → (ℕ → ℕ → SaidBoth) → ℕ → ℕ → ℕ → List ℕ → List ℕ → ℕ
after_opening d s n m answer templates records = after (after d (agreed_both (s n m) answer templates records)) (agreed_both (s (n + 10) (m + 10)) answer templates records)
