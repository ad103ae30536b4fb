use Rattle.std.proofs.Common.{true}
use Rattle.steps.specs.Met.{seen}
use Rattle.texts.proofs.ReadLaws.{foremost_many, foremost_none, foremost_name, foremost_refused}
use Rattle.texts.proofs.foremost.Goals as goal

pub returns-then-is_too_many : goal.returns-then-is_too_many
returns-then-is_too_many c = foremost_many (seen c.args.s.now) c.args.d _ _ true c.token_at-t.ensures c.is_too_many.ensures c.if-is_too_many.true

pub returns-then-not-is_refused : goal.returns-then-not-is_refused
returns-then-not-is_refused c = foremost_none (seen c.args.s.now) c.args.d _ _ _ c.token_at-t.ensures c.is_too_many.ensures c.if-is_too_many.false c.is_refused.ensures c.if-not-is_refused.true

pub returns-in-RuleName : goal.returns-in-RuleName
returns-in-RuleName c = foremost_name (seen c.args.s.now) c.args.d _ _ _ c.token_at-t.ensures c.is_too_many.ensures c.if-is_too_many.false c.is_refused.ensures c.if-not-is_refused.false c.in-RuleName.is

pub returns-in_default : goal.returns-in_default
returns-in_default c = foremost_refused (seen c.args.s.now) c.args.d _ _ _ c.token_at-t.ensures c.is_too_many.ensures c.if-is_too_many.false c.is_refused.ensures c.if-not-is_refused.false c.in_default.not-RuleName
