-- What reading writes, opening takes (document 01): as a definition list, the records give no ground for the refusals 7, 3, 4 and 8,
-- and their bytes none for 1. What opening may still refuse is what the extractors say to each other (30 to 33), or space (6).
-- And no name of it is empty, a constant's without its `$` included (document 02, note 7).
use Rattle.std.specs.Prelude.{ℕ, ◌*◌, ◌%◌, ◌≤◌, ◌≡◌, true, List, length, take}
use Rattle.trees.specs.declared.Rec.{Rec}
use Rattle.trees.specs.Tree.{Trees, records_all, AllRecords}
use Rattle.trees.specs.Ast.{kind_identifier}
use Rattle.trees.specs.Names.{Nonempty}
use Rattle.records.specs.Slots.{recs}
use Rattle.records.specs.Result.{count_of}
use Rattle.tokens.specs.Input.{Input}
use Rattle.grammar.specs.Meaning.{Derived}
use Rattle.forms.specs.Kinds.{definition}
use Rattle.forms.specs.Forms.{is_many}
use Rattle.forms.specs.Lists.{first_macro_arg}
use Rattle.forms.specs.Depth.{first_deep_in}

-- of a list and a text of t bytes
pub record Taken (t : ℕ) (rs : List Rec) : Type 0 where
  -- not too many records or text bytes
  pub few : length rs ≤ 65536
  pub short : t ≤ 65536
  -- definitions of their kind, names inside the text
  pub fits : is_many t definition rs ≡ true
  -- the first MacroArg, and the first pattern or expression at depth 65, would stand behind the last record: there is none
  pub no_arg : first_macro_arg rs ≡ length rs
  pub shallow : first_deep_in rs ≡ length rs

-- the range of every Ident among the records is not empty; where the list is taken, it lies inside the text, so the name has a byte
abbrev pub HasName : Rec → Type 0
HasName r = r.kind ≡ kind_identifier → Nonempty r.word1

abbrev pub NoEmptyName : List Rec → Type 0
NoEmptyName rs = AllRecords HasName rs

-- the part of an output l that is lent on: as many records as the returned number r counts
abbrev pub kept : ℕ → List ℕ → List ℕ
kept r l = take (count_of r * 24) l

-- reading accepted, returned r and left l: the bytes lent on are whole records, those of the trees that the grammar derives, a list that
-- opening takes, and no name in it is empty
pub record Closed (s : Input) (r : ℕ) (l : List ℕ) : Type 0 where
  pub trees : Trees
  pub derived : Derived s trees
  pub whole : length (kept r l) % 24 ≡ 0
  pub back : recs (kept r l) ≡ records_all trees
  pub taken : Taken (length s.text) (recs (kept r l))
  pub no_empty_name : NoEmptyName (recs (kept r l))
