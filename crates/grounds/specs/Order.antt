-- The grounds on which opening is refused before space, and their order (document 01, 'Opened patterns' and 'Who can cause a refusal'):
-- 4, 8, 33; then per extractor 30, then its calls in order with 32 before 31; calls in the pattern, 31.
-- Places are indices of records; the pattern's go on after the definition list's.
use Rattle.std.specs.Prelude.{Bool, true, false, List, [], ◌∷◌, ◌++◌, ℕ, suc, ◌+◌, ◌<◌, eqb, ltb, length, get_or}
use Rattle.std.proofs.Math.Option.{Option, none, some}
use Rattle.trees.specs.Choice.{pick}
use Rattle.trees.specs.declared.Head.{Head}
use Rattle.trees.specs.Tree.{Tree, Trees, node, ∅, ◌▸◌, count, records, records_all}
use Rattle.forms.specs.Lists.{kinds_all, macro_arg}
use Rattle.forms.specs.Depth.{depths_all, too_deep}
use Rattle.expansion.specs.Nodes.{rest, is_extractor, name_of}
use Rattle.expansion.specs.Expansion.{find, Extractor, Extractors, extractor, extractors, called}
use Rattle.grounds.specs.Facts.{CallFlaw, NamedIn}
use Rattle.grounds.specs.Stages.{Refusal, Stage, verdict, in_turn, single, listed, within}

-- ---- of trees whose first record has the place i

-- 4: a MacroArg
abbrev pub macro_args : Trees → ℕ → Stage
macro_args ts i = listed 4 macro_arg (kinds_all ts) i

-- 8: a pattern or an expression at depth 65
abbrev pub too_deeps : Trees → ℕ → Stage
too_deeps ts i = listed 8 too_deep (depths_all 0 ts) i

-- 31, 32: a call, by what it calls among the earlier extractors and among all, and by the number of its arguments
abbrev pub by_call : Option Extractor → Option Extractor → ℕ → ℕ
by_call (some x) o n = pick (eqb n (count x.params)) 0 31
by_call none (some x) n = 32
by_call none none n = 0

unfoldable pub call_flaw : List ℕ → Extractors → Extractors → Head → Trees → ℕ
call_flaw text D E h ts = by_call (called text E h ts) (called text D h ts) (count (rest ts))

abbrev pub calls : List ℕ → Extractors → Extractors → Trees → ℕ → Stage
calls text D E ts i = within (CallFlaw text D E) (call_flaw text D E) ts i

-- ---- of an Extractor

-- where it stands: its record's index, its children (name, parameters, template), and the extractors before it
pub record Site : Type 0 where
  pub place : ℕ
  pub children : Trees
  pub earlier : Extractors

-- whether anything was found
abbrev pub is_some : {A : Type 0} → Option A → Bool
is_some none = false
is_some (some x) = true

unfoldable pub named_in : List ℕ → Extractors → Trees → Bool
named_in text E ∅ = false
named_in text E (term ▸ ts) = is_some (find (name_of text term) E)

module _ (text : List ℕ) (D : Extractors) (x : Site) where
  -- 30: name of an earlier extractor
  abbrev pub named_again : Stage
  named_again = single 30 x.place (NamedIn text x.earlier x.children) (named_in text x.earlier x.children)

  -- 32, 31: its calls
  abbrev pub its_calls : Stage
  its_calls = calls text D x.earlier x.children (suc x.place)

  -- THE STAGES OF AN EXTRACTOR, all extractors being D
  abbrev pub stages_of : List Stage
  stages_of = named_again ∷ its_calls ∷ []

-- ---- of a definition list

-- the places of the Extractors, the first definition's being i
unfoldable pub extractor_places : ℕ → Trees → List ℕ
extractor_places i ∅ = []
extractor_places i (node h ts ▸ list) = pick (is_extractor h.kind) (i ∷ []) [] ++ extractor_places (i + length (records (node h ts))) list

abbrev pub most_extractors : ℕ
most_extractors = 256

-- 33: the 257th Extractor
abbrev pub too_many : List ℕ → Stage
too_many places = single 33 (get_or places most_extractors 0) (most_extractors < length places) (ltb most_extractors (length places))

module _ (text : List ℕ) where
  -- the Extractors of a definition list whose first record has the place i, the extractors before it being E
  unfoldable pub sites : ℕ → Extractors → Trees → List Site
  sites i E ∅ = []
  sites i E (node h ts ▸ list) =
      pick (is_extractor h.kind) (record { place = i; children = ts; earlier = E } ∷ []) []
      ++ sites (i + length (records (node h ts))) (E ++ pick (is_extractor h.kind) (extractor text ts) []) list

  -- 33; then of each extractor its stages
  unfoldable pub of_definitions : Trees → List Stage
  of_definitions ds = too_many (extractor_places 0 ds) ∷ in_turn (stages_of text (extractors text ds)) (sites 0 [] ds)

-- ---- of the definitions ds and the pattern p

-- 4 of both, then 8 of both
unfoldable pub of_both : Trees → Tree → List Stage
of_both ds p =
    macro_args ds 0
    ∷ macro_args (p ▸ ∅) (length (records_all ds))
    ∷ too_deeps ds 0
    ∷ too_deeps (p ▸ ∅) (length (records_all ds))
    ∷ []

module _ (text : List ℕ) where
  -- 31: calls in the pattern
  unfoldable pub of_pattern : Trees → Tree → List Stage
  of_pattern ds p = calls text (extractors text ds) (extractors text ds) (p ▸ ∅) (length (records_all ds)) ∷ []

  -- THE ORDER
  unfoldable pub order : Trees → Tree → List Stage
  order ds p = of_both ds p ++ (of_definitions text ds ++ of_pattern ds p)

  abbrev pub grounds : Trees → Tree → Option Refusal
  grounds ds p = verdict (order ds p)
