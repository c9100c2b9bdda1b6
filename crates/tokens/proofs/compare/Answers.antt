use mathlib.Core.Path.{sym, ◌∙◌}
use mathlib.Core.Bool.{true≢false}
use lib.ListN.{length, drop}
use Rattle.std.proofs.lemmas.Bool.Decides.{Decides-eqb}
use Rattle.std.proofs.lemmas.Slice.Eq.{starts_is}
use Rattle.tokens.proofs.Reading
use Rattle.tokens.proofs.compare.Goals as goal

pub returns-then-starts_with : goal.returns-then-starts_with
returns-then-starts_with c =
    let a = c.args in
    (drop (length a.w.now) a.f.now, (starts_is Decides-eqb a.f.now a.w.now _ c.starts_with.ensures.value).0 c.if-starts_with.true)

pub returns-then-starts_with-2 : goal.returns-then-starts_with-2
returns-then-starts_with-2 c =
    let a = c.args in
    Reading.begins_word a.f.now a.w.now _ ((starts_is Decides-eqb a.w.now a.f.now _ c.starts_with-2.ensures.value).0 c.if-starts_with-2.true)
    (λ s. true≢false (sym ((starts_is Decides-eqb a.f.now a.w.now _ c.starts_with.ensures.value).1 s.0 s.1) ∙ c.if-starts_with.false))

pub returns : goal.returns
returns c =
    let a = c.args in
    Reading.apart_from a.f.now a.w.now
    (λ s. true≢false (sym ((starts_is Decides-eqb a.f.now a.w.now _ c.starts_with.ensures.value).1 s.0 s.1) ∙ c.if-starts_with.false))
    (λ s. true≢false (sym ((starts_is Decides-eqb a.w.now a.f.now _ c.starts_with-2.ensures.value).1 s.0 s.1) ∙ c.if-starts_with-2.false))
