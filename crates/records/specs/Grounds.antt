-- The number of a refusal's ground, as isle.h names them.
use Rattle.std.specs.Prelude.{ℕ, Result, Ok, Err}
use Rattle.records.specs.declared.Ground.{Ground}
use Rattle.records.specs.declared.Ground.TheVariants.{PartOfARecord, BadToken, MalformedList, MacroArg, MacroArgIndex, NoSpace, TooMuch, TooDeep, UnexpectedToken, UnexpectedEnd, UnknownDefinition, EmptyIdentifier, FirstCharacter, LaterCharacter, NotAConstant, UnknownPragma, TypeModifier, TypeDefinition, Attribute, VerificationAttribute, Extern, RuleName, Priority, Pattern, Expression, UncoveredWord, ExtractorName, ArgumentCount, CallOrder, TooManyExtractors, NotAToken, NotAscii}

abbrev pub number : Ground → ℕ
number PartOfARecord = 1
number BadToken = 2
number MalformedList = 3
number MacroArg = 4
number MacroArgIndex = 5
number NoSpace = 6
number TooMuch = 7
number TooDeep = 8
number UnexpectedToken = 10
number UnexpectedEnd = 11
number UnknownDefinition = 12
number EmptyIdentifier = 13
number FirstCharacter = 14
number LaterCharacter = 15
number NotAConstant = 16
number UnknownPragma = 17
number TypeModifier = 18
number TypeDefinition = 19
number Attribute = 20
number VerificationAttribute = 21
number Extern = 22
number RuleName = 23
number Priority = 24
number Pattern = 25
number Expression = 26
number UncoveredWord = 27
number ExtractorName = 30
number ArgumentCount = 31
number CallOrder = 32
number TooManyExtractors = 33
number NotAToken = 40
number NotAscii = 41

-- that of a test, 0 where it is passed
abbrev pub code : Result (Unit {0}) Ground → ℕ
code (Ok x) = 0
code (Err g) = number g
