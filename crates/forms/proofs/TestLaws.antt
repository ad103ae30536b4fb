-- Laws of `and`. Assumes nothing.
use mathlib.Core.Path.{◌≡◌, refl}
use mathlib.Core.Bool.{Bool, true, false, false≢true}
use Rattle.forms.specs.Tests.{◌and◌}

pub both : {a b : Bool} → a and b ≡ true → (a ≡ true) × (b ≡ true)
unfolding ◌and◌
both {a = true} e = (refl, e)
both {a = false} e = absurd (false≢true e)

pub true_and : (b : Bool) → true and b ≡ b
unfolding ◌and◌
true_and b = refl

pub false_and : (b : Bool) → false and b ≡ false
unfolding ◌and◌
false_and b = refl

pub and_false : (a : Bool) → a and false ≡ false
unfolding ◌and◌
and_false true = refl
and_false false = refl
