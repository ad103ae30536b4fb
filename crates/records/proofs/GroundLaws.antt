-- No ground has the number 0, which stands for none. Assumes nothing.
use Prim.Native.Nat.{◌<◌}
use native.Mathlib.Omega.{arith}
use mathlib.Core.Path.{◌≡◌, refl}
use Rattle.records.specs.declared.Ground.{Ground}
use Rattle.records.specs.declared.Ground.TheVariants.{PartOfARecord, BadToken, MalformedList, MacroArg, MacroArgIndex, NoSpace, TooMuch, TooDeep, UnexpectedToken, UnexpectedEnd, UnknownDefinition, EmptyIdentifier, FirstCharacter, LaterCharacter, NotAConstant, UnknownPragma, TypeModifier, TypeDefinition, Attribute, VerificationAttribute, Extern, RuleName, Priority, Pattern, Expression, UncoveredWord, ExtractorName, ArgumentCount, CallOrder, TooManyExtractors, NotAToken, NotAscii}
use Rattle.records.specs.Grounds.{number}

pub number_above : (g : Ground) → 0 < number g
number_above PartOfARecord = omega arith
number_above BadToken = omega arith
number_above MalformedList = omega arith
number_above MacroArg = omega arith
number_above MacroArgIndex = omega arith
number_above NoSpace = omega arith
number_above TooMuch = omega arith
number_above TooDeep = omega arith
number_above UnexpectedToken = omega arith
number_above UnexpectedEnd = omega arith
number_above UnknownDefinition = omega arith
number_above EmptyIdentifier = omega arith
number_above FirstCharacter = omega arith
number_above LaterCharacter = omega arith
number_above NotAConstant = omega arith
number_above UnknownPragma = omega arith
number_above TypeModifier = omega arith
number_above TypeDefinition = omega arith
number_above Attribute = omega arith
number_above VerificationAttribute = omega arith
number_above Extern = omega arith
number_above RuleName = omega arith
number_above Priority = omega arith
number_above Pattern = omega arith
number_above Expression = omega arith
number_above UncoveredWord = omega arith
number_above ExtractorName = omega arith
number_above ArgumentCount = omega arith
number_above CallOrder = omega arith
number_above TooManyExtractors = omega arith
number_above NotAToken = omega arith
number_above NotAscii = omega arith

-- one number is one ground
pub rule_name_number : (g : Ground) → number g ≡ 23 → g ≡ RuleName
rule_name_number PartOfARecord e = absurd (omega arith)
rule_name_number BadToken e = absurd (omega arith)
rule_name_number MalformedList e = absurd (omega arith)
rule_name_number MacroArg e = absurd (omega arith)
rule_name_number MacroArgIndex e = absurd (omega arith)
rule_name_number NoSpace e = absurd (omega arith)
rule_name_number TooMuch e = absurd (omega arith)
rule_name_number TooDeep e = absurd (omega arith)
rule_name_number UnexpectedToken e = absurd (omega arith)
rule_name_number UnexpectedEnd e = absurd (omega arith)
rule_name_number UnknownDefinition e = absurd (omega arith)
rule_name_number EmptyIdentifier e = absurd (omega arith)
rule_name_number FirstCharacter e = absurd (omega arith)
rule_name_number LaterCharacter e = absurd (omega arith)
rule_name_number NotAConstant e = absurd (omega arith)
rule_name_number UnknownPragma e = absurd (omega arith)
rule_name_number TypeModifier e = absurd (omega arith)
rule_name_number TypeDefinition e = absurd (omega arith)
rule_name_number Attribute e = absurd (omega arith)
rule_name_number VerificationAttribute e = absurd (omega arith)
rule_name_number Extern e = absurd (omega arith)
rule_name_number RuleName e = refl
rule_name_number Priority e = absurd (omega arith)
rule_name_number Pattern e = absurd (omega arith)
rule_name_number Expression e = absurd (omega arith)
rule_name_number UncoveredWord e = absurd (omega arith)
rule_name_number ExtractorName e = absurd (omega arith)
rule_name_number ArgumentCount e = absurd (omega arith)
rule_name_number CallOrder e = absurd (omega arith)
rule_name_number TooManyExtractors e = absurd (omega arith)
rule_name_number NotAToken e = absurd (omega arith)
rule_name_number NotAscii e = absurd (omega arith)
