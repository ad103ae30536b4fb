-- Identifiers start with a letter, `_` or `$`, then letters, digits, `_ . $`.
use Rattle.std.specs.Prelude.{ℕ, List, [], ◌∷◌, Bool, true, ◌&&◌, ◌||◌, leb, eqb}
use Rattle.trees.specs.Choice.{pick}

unfoldable pub letter : ℕ → Bool
letter c = (leb 65 c && leb c 90) || (leb 97 c && leb c 122)

-- a letter, `_` or `$`
unfoldable pub starts : ℕ → Bool
starts c = letter c || (eqb c 95 || eqb c 36)

-- a letter, a digit, `_`, `.` or `$`
unfoldable pub goes_on : ℕ → Bool
goes_on c = starts c || (eqb c 46 || (leb 48 c && leb c 57))

unfoldable pub all_go_on : List ℕ → Bool
all_go_on [] = true
all_go_on (c ∷ cs) = goes_on c && all_go_on cs

abbrev pub later_refusal : List ℕ → ℕ
later_refusal cs = pick (all_go_on cs) 0 15

-- 0 where the bytes are an identifier, and otherwise the refusal: 13 empty, 14 bad first character, 15 bad later character
unfoldable pub ident_refusal : List ℕ → ℕ
ident_refusal [] = 13
ident_refusal (c ∷ cs) = pick (starts c) (later_refusal cs) 14
