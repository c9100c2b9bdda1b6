use mathlib.Core.Path.{◌∙◌}
use Rattle.sentences.proofs.Laws.{rejects, echoes, echoes_not, starts, ends, prints, assigns}
use Rattle.sentences.proofs.put_plain.Goals as goal

-- The first byte tells the form: each return cites the law of its form.
pub returns-then-k-eq4 : goal.returns-then-k-eq4
returns-then-k-eq4 c = rejects c.args.s.now c.args.tags.now c.args.strings.now c.args.i c.requires.0 (record { write = c.args.write; lent = c.args.out.now; at = c.args.at }) _ _ c.if-k-eq4.true c.put_bytes.ensures

pub returns-then-k-eq8 : goal.returns-then-k-eq8
returns-then-k-eq8 c = echoes c.args.s.now c.args.tags.now c.args.strings.now c.args.i c.requires.0 (record { write = c.args.write; lent = c.args.out.now; at = c.args.at }) _ _ c.if-k-eq8.true c.put_bytes-then-k-eq8.ensures

pub returns-then-k-eq9 : goal.returns-then-k-eq9
returns-then-k-eq9 c = echoes_not c.args.s.now c.args.tags.now c.args.strings.now c.args.i c.requires.0 (record { write = c.args.write; lent = c.args.out.now; at = c.args.at }) _ _ c.if-k-eq9.true c.put_bytes-then-k-eq9.ensures

pub returns-then-k-eq5 : goal.returns-then-k-eq5
returns-then-k-eq5 c = starts c.args.s.now c.args.tags.now c.args.strings.now c.args.i c.requires.0 (record { write = c.args.write; lent = c.args.out.now; at = c.args.at }) _ _ c.if-k-eq5.true _ (c.from-t.ensures ∙ c.byte-x.ensures) c.put_tag.ensures

pub returns-then-k-eq6 : goal.returns-then-k-eq6
returns-then-k-eq6 c = ends c.args.s.now c.args.tags.now c.args.strings.now c.args.i c.requires.0 (record { write = c.args.write; lent = c.args.out.now; at = c.args.at }) _ _ c.if-k-eq6.true _ (c.from-t.ensures ∙ c.byte-x.ensures) c.put_tag-then-k-eq6.ensures

pub returns-then-k-eq7 : goal.returns-then-k-eq7
returns-then-k-eq7 c =
    let x = c.from-t in
    let y = c.from in
    let n = c.from-n in
    prints c.args.s.now c.args.tags.now c.args.strings.now c.args.i c.requires.0 (record { write = c.args.write; lent = c.args.out.now; at = c.args.at }) _ _ c.if-k-eq7.true x.result y.result n.result (x.ensures ∙ c.byte-x.ensures) (y.ensures ∙ c.byte-y.ensures) (n.ensures ∙ c.byte.ensures) c.put_string.ensures

pub returns : goal.returns
returns c =
    assigns c.args.s.now c.args.tags.now c.args.strings.now c.args.i c.requires.0 (record { write = c.args.write; lent = c.args.out.now; at = c.args.at }) _ _ c.byte-x.result c.byte-y.result c.byte-x.ensures c.byte-y.ensures c.if-k-eq4.false c.if-k-eq5.false c.if-k-eq6.false c.if-k-eq7.false c.if-k-eq8.false c.if-k-eq9.false c.requires.3 c.put_assignment.ensures
