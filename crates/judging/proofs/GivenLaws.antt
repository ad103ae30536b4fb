-- What an answer gives, where one ground is judged after another. Assumes nothing.
use mathlib.Core.Path.{◌≡◌, ap, ◌∙◌}
use mathlib.Core.Option.{Option, none}
use Prim.Native.Nat.{ℕ, ◌<◌}
use native.Mathlib.Omega.{arith}
use Rattle.grounds.specs.Stages.{Refusal, ◌or_else◌}
use Rattle.std.specs.Prelude.{Result, Ok, Err}
use Rattle.records.specs.declared.Ground.{Ground}
use Rattle.records.specs.declared.Ground.TheVariants.{PartOfARecord, BadToken, MalformedList, MacroArg, MacroArgIndex, NoSpace, TooMuch, TooDeep, UnexpectedToken, UnexpectedEnd, UnknownDefinition, EmptyIdentifier, FirstCharacter, LaterCharacter, NotAConstant, UnknownPragma, TypeModifier, TypeDefinition, Attribute, VerificationAttribute, Extern, RuleName, Priority, Pattern, Expression, UncoveredWord, ExtractorName, ArgumentCount, CallOrder, TooManyExtractors, NotAToken, NotAscii}
use Rattle.records.specs.Grounds.{number}
use Rattle.judging.specs.declared.Flaw.{Flaw}
use Rattle.judging.specs.Judging.{given}

-- a refusal is the first of two, whatever comes after it
pub flawed_first : (f : Flaw) (g h : Option Refusal) → given {A = ℕ} (Err f) ≡ g → given {A = ℕ} (Err f) ≡ g or_else h
flawed_first f g h q = ap (◌or_else h) q

-- a fine answer leaves the second
pub fine-next : {A : Type 0} (j : Result A Flaw) (g h : Option Refusal) → none ≡ g → given j ≡ h → given j ≡ g or_else h
fine-next j g h p q = q ∙ ap (◌or_else h) p

pub flawed_fine : {A : Type 0} (f : Flaw) (n : A) → ◌≡◌ {A = Result A Flaw} (Err f) (Ok n) → ⊥
flawed_fine f n e = let z : ◌≡◌ {A = ℕ} 0 1 = cc in omega arith

-- no ground has the number 0
pub number_some : (g : Ground) → 0 < number g
number_some PartOfARecord = omega arith
number_some BadToken = omega arith
number_some MalformedList = omega arith
number_some MacroArg = omega arith
number_some MacroArgIndex = omega arith
number_some NoSpace = omega arith
number_some TooMuch = omega arith
number_some TooDeep = omega arith
number_some UnexpectedToken = omega arith
number_some UnexpectedEnd = omega arith
number_some UnknownDefinition = omega arith
number_some EmptyIdentifier = omega arith
number_some FirstCharacter = omega arith
number_some LaterCharacter = omega arith
number_some NotAConstant = omega arith
number_some UnknownPragma = omega arith
number_some TypeModifier = omega arith
number_some TypeDefinition = omega arith
number_some Attribute = omega arith
number_some VerificationAttribute = omega arith
number_some Extern = omega arith
number_some RuleName = omega arith
number_some Priority = omega arith
number_some Pattern = omega arith
number_some Expression = omega arith
number_some UncoveredWord = omega arith
number_some ExtractorName = omega arith
number_some ArgumentCount = omega arith
number_some CallOrder = omega arith
number_some TooManyExtractors = omega arith
number_some NotAToken = omega arith
number_some NotAscii = omega arith
