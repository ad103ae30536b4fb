-- Both of two tests. Shut, so that its two sides are found by looking at it.
use Rattle.std.specs.Prelude.{Bool, true, false}

infixr 35 ◌and◌
unfoldable pub ◌and◌ : Bool → Bool → Bool
true and b = b
false and b = false
