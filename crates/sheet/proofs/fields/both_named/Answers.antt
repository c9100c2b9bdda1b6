use Rattle.sheet.proofs.FieldLaws.{named_told}
use Rattle.sheet.proofs.fields.both_named.Goals as goal

-- The two tests, joined, tell of the programs that fill the section.
pub returns : goal.returns
returns c =
    let a = c.args in
    named_told a.tags a.strings.now a.section.now a.one a.two c.requires c.field_fits.ensures c.field_fits-2.ensures
