use Rattle.dockets.proofs.Noting.{own_low, inner_low, noted_none, noted_own, noted_inner}
use borrow.Author.Rules.{rules}
use Rattle.dockets.proofs.note.Goals as goal

pub returns-in-Nothing : goal.returns-in-Nothing
returns-in-Nothing c =
    noted_none c.args.text.now c.args.at c.args.k c.args.names.now c.args.nameends.now c.args.tags.now c.args.tagends.now c.args.end c.in-Nothing.is c.requires

pub overflow_sub-from : goal.overflow_sub-from
overflow_sub-from c =
    let z = own_low c.args.at c.args.end _ c.in-Own.is c.requires.low in
    search (z, rules)

pub enrol-more-requires : goal.enrol-more-requires
enrol-more-requires c =
    search rules

pub returns-in-Own : goal.returns-in-Own
returns-in-Own c =
    let e = c.enrol-more in
    let f = c.enrol-tag in
    noted_own c.args.text.now c.args.at c.args.k c.args.names.now c.args.nameends.now c.args.tags.now c.args.tagends.now c.args.end _ _ _ _ _ e.result f.result c.in-Own.is c.requires e.ensures f.ensures

pub overflow_sub-from-in-Inner : goal.overflow_sub-from-in-Inner
overflow_sub-from-in-Inner c =
    let z = inner_low c.args.at c.args.end _ c.in-Inner.is c.requires.low in
    search (z, rules)

pub returns-in-Inner : goal.returns-in-Inner
returns-in-Inner c =
    let e = c.enrol-more-in-Inner in
    noted_inner c.args.text.now c.args.at c.args.k c.args.names.now c.args.nameends.now c.args.tags.now c.args.tagends.now c.args.end _ _ _ e.result c.in-Inner.is c.requires e.ensures
