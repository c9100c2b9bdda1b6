use mathlib.Core.Path.{refl, sym, ◌∙◌}
use native.Mathlib.Omega.{arith}
use borrow.Author.Rules.{rules}
use Rattle.stores.proofs.Behind.{ends_counted, end_read}
use Rattle.binding.proofs.Tags.{has_rows, all_left, next_name, name_put, tags_put, sixteen_more, short_part, same_room}
use Rattle.binding.proofs.put_tags.Goals as goal

pub slice_bounds-to-items-end : goal.slice_bounds-to-items-end
slice_bounds-to-items-end c =
    let a = c.args in
    sym (ends_counted a.bytes.now a.ends.now a.count (has_rows a.bytes.now a.ends.now a.count c.requires.tag_rows))

pub loop-to-init : goal.loop-to-init
loop-to-init c =
    let a = c.args in
    (omega arith, (refl, all_left a.bytes.now a.ends.now a.count a.memory.now a.at))

pub put_tag-n-requires : goal.put_tag-n-requires
put_tag-n-requires c =
    let a = c.args in
    let t = c.requires.tag_rows in
    let l = c.loop-to in
    let r = end_read a.bytes.now a.ends.now a.count l.to-index (has_rows a.bytes.now a.ends.now a.count t) c.loop-to-test.true in
    let e = next_name a.bytes.now a.ends.now a.count a.memory.now a.at t.rows l.to-index l.from l.n l.memory (l.invariant.1.1 t.rows t.are t.short) r.0 _ r.1 in
    let few = t.few in
    record { at_bound = omega (arith, l.invariant.0, r.0, few, c.requires.at_bound); name_len_bound = short_part a.bytes.now l.from _ e.short }

pub loop-to-preserved : goal.loop-to-preserved
loop-to-preserved c =
    let a = c.args in
    let t = c.requires.tag_rows in
    let l = c.loop-to in
    let r = end_read a.bytes.now a.ends.now a.count l.to-index (has_rows a.bytes.now a.ends.now a.count t) c.loop-to-test.true in
    let e = next_name a.bytes.now a.ends.now a.count a.memory.now a.at t.rows l.to-index l.from l.n l.memory (l.invariant.1.1 t.rows t.are t.short) r.0 _ r.1 in
    let put = c.put_tag-n.ensures in (
      (let s = sixteen_more a.bytes.now l.from _ l.n _ l.memory _ e.short e.high put in omega (arith, s, l.invariant.0)),
      (
        same_room l.memory _ _ l.n _ put ∙ l.invariant.1.0,
        λ names h s. name_put a.bytes.now a.ends.now a.count a.memory.now a.at names l.to-index l.from l.n l.memory _ _ _ (l.invariant.1.1 names h s) r.0 r.1 put,
      ),
    )

pub shape_of-memory : goal.shape_of-memory
shape_of-memory c = c.loop-to.invariant.1.0

pub returns : goal.returns
returns c =
    let a = c.args in
    let t = c.requires.tag_rows in
    let l = c.loop-to in
    let k = ends_counted a.bytes.now a.ends.now a.count (has_rows a.bytes.now a.ends.now a.count t) in
    tags_put a.bytes.now a.ends.now a.count a.memory.now a.at l.to-index l.from l.n l.memory t l.invariant.1.1 (omega (arith, k)) (omega (arith, k)) l.invariant.0

pub slice_bounds-put_tag-count : goal.slice_bounds-put_tag-count
slice_bounds-put_tag-count c =
    let a = c.args in
    let t = c.requires.tag_rows in
    let l = c.loop-to in
    let r = end_read a.bytes.now a.ends.now a.count l.to-index (has_rows a.bytes.now a.ends.now a.count t) c.loop-to-test.true in
    let e = next_name a.bytes.now a.ends.now a.count a.memory.now a.at t.rows l.to-index l.from l.n l.memory (l.invariant.1.1 t.rows t.are t.short) r.0 _ r.1 in
    search (e, rules)

pub slice_bounds-put_tag-start : goal.slice_bounds-put_tag-start
slice_bounds-put_tag-start c =
    let a = c.args in
    let t = c.requires.tag_rows in
    let l = c.loop-to in
    let r = end_read a.bytes.now a.ends.now a.count l.to-index (has_rows a.bytes.now a.ends.now a.count t) c.loop-to-test.true in
    let e = next_name a.bytes.now a.ends.now a.count a.memory.now a.at t.rows l.to-index l.from l.n l.memory (l.invariant.1.1 t.rows t.are t.short) r.0 _ r.1 in
    search (e, rules)

pub slice_bounds-put_tag-end : goal.slice_bounds-put_tag-end
slice_bounds-put_tag-end c =
    let a = c.args in
    let t = c.requires.tag_rows in
    let l = c.loop-to in
    let r = end_read a.bytes.now a.ends.now a.count l.to-index (has_rows a.bytes.now a.ends.now a.count t) c.loop-to-test.true in
    let e = next_name a.bytes.now a.ends.now a.count a.memory.now a.at t.rows l.to-index l.from l.n l.memory (l.invariant.1.1 t.rows t.are t.short) r.0 _ r.1 in
    search (e, rules)
