-- What making a template and substituting answer (document 01, 'Templates' and 'Who can cause a refusal'), on lists of records and their trees.
use Rattle.std.specs.Prelude.{ℕ, ◌-◌, ◌*◌, ◌≤◌, min, ◌≡◌, Bool, true, false, Result, Ok, Err, List, ◌++◌, length, take, replicate, ltb, leb}
use Rattle.trees.specs.Choice.{pick, choose}
use Rattle.trees.specs.declared.Rec.{Rec}
use Rattle.trees.specs.Tree.{count, records_all, trees_of}
use Rattle.records.specs.Slots.{slots, recs, writes}
use Rattle.records.specs.Result.{accepted, refused}
use Rattle.expansion.specs.Nodes.{is_macro_arg}
use Rattle.expansion.specs.Templates.{make_templates, substitutes}
use Rattle.expansion.specs.Flat.{Placed, All}
use Rattle.forms.specs.Lists.{first_of}
use Rattle.templates.specs.declared.Refused.{Refused}
use Rattle.templates.specs.declared.Refused.TheVariants.{MacroArg, NoPattern, NoSpace}

-- ---- the number and the place that document 01 gives to each answer

abbrev pub refusal_of : Refused → ℕ
refusal_of (MacroArg at) = refused 4 at
refusal_of (NoPattern at) = refused 5 at
refusal_of NoSpace = refused 6 0

-- the count of records written, or why there are none
abbrev pub Answer : Type 0
Answer = Result ℕ Refused

unfoldable pub number_of : Answer → ℕ
number_of (Ok count) = accepted count
number_of (Err refused) = refusal_of refused

-- where a count is one that the number has space for
unfoldable pub Countable : Answer → Type 0
Countable (Ok count) = count ≤ 65536
Countable (Err refused) = Unit {0}

-- ---- refusals

-- 4: a MacroArg
unfoldable pub is_arg : Rec → Bool
is_arg r = is_macro_arg r.kind

-- 5: a MacroArg whose index is not below the n patterns given
unfoldable pub lacks_pattern : ℕ → Rec → Bool
lacks_pattern n r = pick (is_macro_arg r.kind) (leb n r.word1) false

-- space: the whole records lent or 65,536, the smaller
unfoldable pub space : List ℕ → ℕ
space out = min (slots out) 65536

-- 6: the complete list is longer than the space
unfoldable pub fitted : List Rec → ℕ → Answer
fitted complete room = pick (leb (length complete) room) (Ok (length complete)) (Err NoSpace)

-- ---- the complete lists, and the answers

unfoldable pub template_records : List ℕ → List Rec → List Rec → List Rec
template_records text pattern params = records_all (make_templates text (trees_of params) (trees_of pattern))

unfoldable pub template_answer : List ℕ → List Rec → List Rec → ℕ → Answer
template_answer text pattern params room =
    choose (ltb (first_of is_arg pattern) (length pattern)) (λ _. Err (MacroArg (first_of is_arg pattern))) (λ _. fitted (template_records text pattern params) room)

unfoldable pub substituted_records : List Rec → List Rec → List Rec
substituted_records template patterns = records_all (substitutes (trees_of template) (trees_of patterns))

-- the first MacroArg that has none of the patterns given
unfoldable pub first_lacking : List Rec → List Rec → ℕ
first_lacking template patterns = first_of (lacks_pattern (count (trees_of patterns))) template

unfoldable pub substitute_answer : List Rec → List Rec → ℕ → Answer
substitute_answer template patterns room =
    choose (ltb (first_lacking template patterns) (length template)) (λ _. Err (NoPattern (first_lacking template patterns))) (λ _. fitted (substituted_records template patterns) room)

-- ---- the promise: r is the answer wanted, and where it accepts n records the complete list stands in the output b, which was a

pub record Written (n : ℕ) (complete : List Rec) (a b : List ℕ) : Type 0 where
  pub counted : n ≡ length complete
  pub few : n ≤ 65536
  pub inside : n ≤ slots a
  pub wrote : b ≡ writes a 0 complete

pub record Answered (wanted : Answer) (complete : List Rec) (a b : List ℕ) (r : Answer) : Type 0 where
  pub answer : r ≡ wanted
  pub output : (n : ℕ) → r ≡ Ok n → Written n complete a b

-- ---- what an entry leaves in an output: after an acceptance its records, then zeros to its end; after a refusal zeros

-- of an output l
unfoldable pub cleared : Answer → List ℕ → List ℕ
cleared (Ok n) l = take (n * 24) l ++ replicate (length l - n * 24) 0
cleared (Err refused) l = replicate (length l) 0

-- of an output of so many bytes, by the complete list
unfoldable pub output_of : Answer → List Rec → ℕ → List ℕ
output_of (Ok n) complete size = writes (replicate size 0) 0 complete
output_of (Err refused) complete size = replicate size 0

-- the number returned and the output left, for an answer
pub record Finished (answer : Answer) (a b : List ℕ) (r : ℕ) : Type 0 where
  pub number : r ≡ number_of answer
  pub output : b ≡ cleared answer a

-- ---- what the lists must be, which refusals 7, 1 and 3 are for

-- a parameter has no children
abbrev pub Leaf : Rec → List Rec → Type 0
Leaf r rs = r.count ≡ 0

-- a MacroArg has no children
abbrev pub ArgLeaf : Rec → List Rec → Type 0
ArgLeaf r rs = is_macro_arg r.kind ≡ true → r.count ≡ 0

pub record Params (params : List ℕ) : Type 0 where
  pub leaves : All Leaf (recs params)

pub record MakeReady (pattern params : List ℕ) : Type 0 where
  pub few : slots pattern ≤ 65536
  pub placed : All Placed (recs pattern)
  pub idents : Params params

pub record SubstituteReady (template patterns : List ℕ) : Type 0 where
  pub few : slots template ≤ 65536
  pub few_patterns : slots patterns ≤ 65536
  pub placed : All Placed (recs template)
  pub args : All ArgLeaf (recs template)
  pub patterns_placed : All Placed (recs patterns)
