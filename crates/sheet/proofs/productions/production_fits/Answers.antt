use Rattle.sheet.proofs.ProductionLaws.{production_told}
use Rattle.sheet.proofs.productions.production_fits.Goals as goal

-- Each test is of a number of the record, or of the sum handed in.
pub returns : goal.returns
returns c =
    let a = c.args in
    production_told a.s.now a.q a.before a.l.tags c.nonterminal_of.result c.tag_number_of.result c.first_node_of.result
    c.node_count_of.result c.production_byte-five.result c.production_byte-ten.result c.production_byte-eleven.result c.requires.before_value c.requires.laid_out.layout_is.tags_is.is
    c.nonterminal_of.ensures.is c.tag_number_of.ensures.is c.first_node_of.ensures.is c.node_count_of.ensures.is
    c.production_byte-five.ensures.is c.production_byte-ten.ensures.is c.production_byte-eleven.ensures.is
