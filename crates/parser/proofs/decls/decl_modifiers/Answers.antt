use Rattle.parser.proofs.DeclLaws.{decl_flagged, decl_passed}
use Rattle.parser.proofs.decls.decl_modifiers.Goals as goal

pub returns-clause-flags : goal.returns-clause-flags
returns-clause-flags c = rw (c.from.ensures, c.from-2.ensures, c.from-3.ensures, c.from-4.ensures) (decl_flagged c.eat-pure.ensures.reads c.eat-multi.ensures.reads c.eat-partial.ensures.reads c.eat-pure.ensures.stands c.eat-multi.ensures.stands c.eat-partial.ensures.stands c.eat-rec.ensures.stands)

pub returns-clause-reads : goal.returns-clause-reads
returns-clause-reads c = decl_passed c.eat-pure.ensures.reads c.eat-multi.ensures.reads c.eat-partial.ensures.reads c.eat-rec.ensures.reads
