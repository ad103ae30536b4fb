use Rattle.std.proofs.Common.{refl, sym, arith}
use Rattle.steps.proofs.NameLaws.{identifier-long, const_bad, const_plain, const_alone, const_dollar, code_exit}
use Rattle.steps.proofs.names.check_const.Goals as goal

pub returns-in_err-check_ident : goal.returns-in_err-check_ident
returns-in_err-check_ident c = code_exit _ _ _ c.from_residual.ensures (const_bad _ _ c.in_err-check_ident.ensures)

pub bounds-s-0 : goal.bounds-s-0
bounds-s-0 c = omega (arith, identifier-long c.args.s.now (sym c.in_ok-check_ident.ensures))

pub returns-then-s-ne36 : goal.returns-then-s-ne36
returns-then-s-ne36 c = const_plain _ _ c.in_ok-check_ident.ensures refl c.if-s-ne36.true

pub returns-then-s-eq1 : goal.returns-then-s-eq1
returns-then-s-eq1 c = const_alone _ _ c.in_ok-check_ident.ensures refl c.if-s-ne36.false c.if-s-eq1.true

pub returns : goal.returns
returns c = const_dollar _ _ c.in_ok-check_ident.ensures refl c.if-s-ne36.false c.if-s-eq1.false
