use Rattle.binding.proofs.Sections.{trailer_fits, end_small, bound}
use Rattle.binding.proofs.bind.Goals as goal

-- `bind`: six puts, each where the last one stopped. Assumes nothing.
pub put_trailer-requires : goal.put_trailer-requires
put_trailer-requires c =
    let a = c.args in
    let few = c.requires.tag_rows.few in
    let fits = c.requires.sections_fit in record {
      at_bound = end_small a.count a.productions.now a.nodes.now a.programs.now a.strings.now a.start _ _ _ _ _ few fits c.put_tags-second.ensures.next c.put_bytes-third.ensures.next c.put_bytes-fourth.ensures.next
          c.put_bytes-fifth.ensures.next c.put_bytes-end.ensures.next;
      trailer_fits = trailer_fits a.count a.productions.now a.nodes.now a.programs.now a.strings.now a.start few fits;
    }

pub returns : goal.returns
returns c =
    let a = c.args in
    bound a.bytes.now a.ends.now a.count a.productions.now a.nodes.now a.programs.now a.strings.now a.start a.area.now _ _ _ _ _ _ _ _ _ _ _ _ c.put_tags-second.ensures
    c.put_bytes-third.ensures c.put_bytes-fourth.ensures c.put_bytes-fifth.ensures c.put_bytes-end.ensures c.put_trailer.ensures
