use borrow.Author.Rules.{rules}
use borrow.Author.Tests.{not-true, not-false}
use Rattle.tokens.proofs.NameLaws.{ident-empty, ident-first, ident-good, ident-bad}
use Rattle.tokens.proofs.names.check_ident.Goals as goal

pub returns-then-is_empty : goal.returns-then-is_empty
returns-then-is_empty c = search (rules, ident-empty, not-true, not-false)

pub returns-then-not-may_start : goal.returns-then-not-may_start
returns-then-not-may_start c = search (rules, ident-first, not-true)

pub returns-then-not-may_all_follow : goal.returns-then-not-may_all_follow
returns-then-not-may_all_follow c = search (rules, ident-bad, not-true, not-false)

pub returns : goal.returns
returns c = search (rules, ident-good, not-true, not-false)
