-- A text of ASCII characters as bytes.
use Rattle.std.specs.Prelude.{ℕ}
use Prim.Native.Char.{code}
use Prim.Native.String.{String, [], ◌∷◌}
use mathlib.Core.List as list

unfoldable pub bytes : String → list.List ℕ
bytes [] = list.[]
bytes (c ∷ cs) = list.◌∷◌ (code c) (bytes cs)
