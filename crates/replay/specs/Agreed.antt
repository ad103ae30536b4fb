-- Whether stored answers are the definition's.
use Rattle.std.specs.Prelude.{ℕ, ◌-◌, Bool, false, List, ◌++◌, length, replicate, ◌==◌}
use Rattle.trees.specs.Choice.{pick}
use Rattle.words.specs.Bytes.{same_bytes}
use Rattle.replay.specs.Said.{Said, SaidBoth}

-- the records, and zeros up to n bytes
unfoldable pub padded : List ℕ → ℕ → List ℕ
padded records n = records ++ replicate (n - length records) 0

-- the bytes l are the records and then zeros
unfoldable pub held : List ℕ → List ℕ → Bool
held l records = same_bytes l (padded records (length l))

-- the number is the answer, and the output is the records and then zeros
unfoldable pub agreed : Said → ℕ → List ℕ → Bool
agreed s answer records = pick (s.number == answer) (held s.output records) false

-- opening: the same, and the store is the templates and then zeros
unfoldable pub agreed_both : SaidBoth → ℕ → List ℕ → List ℕ → Bool
agreed_both s answer templates records = pick (held s.store templates) (agreed s.said answer records) false
