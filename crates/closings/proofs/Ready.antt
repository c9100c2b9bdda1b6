-- What is kept at the end of a text is ready to be bound. Assumes nothing.
use mathlib.Core.Path.{◌≡◌, refl, sym, ◌∙◌, ap, ap₂, subst}
use mathlib.Core.Option.{Option, none, some}
use mathlib.Core.List.{List, [], ◌∷◌, ◌++◌}
use Prim.Native.Nat.{ℕ, ◌+◌, ◌*◌, ◌≤◌, ◌<◌}
use native.Mathlib.Omega.{arith}
use lib.ListN.{length, length-append}
use Rattle.limits.specs.Limits.{most_tags, most_string_bytes, most_program_bytes, most_productions, most_nodes, nodes_at_most}
use Rattle.expressions.specs.Expr.{nodes_of}
use Rattle.notation.specs.Program.{TextProgram}
use Rattle.notation.specs.Rules.{Tree, TextRule, Rules, content_inside}
use Rattle.notation.specs.Limits.{WithinLimits, EachWithin, nodes_in_all}
use Rattle.notation.specs.RuleText.{RuleText}
use Rattle.encoding.specs.Mentions.{Mention, in_rules, tags_mentioned, strings_mentioned, programs_mentioned}
use Rattle.encoding.specs.Distinct.{distinct, run_together}
use Rattle.encoding.specs.Encoded.{Room, tags_stored, strings_stored, programs_stored, bytes_of_each}
use Rattle.packing.specs.Packed.{field, content_bytes, nodes_of_rule}
use Rattle.reading.specs.Rules.{Head, Progress, beginning, first_word, named, defined, own_front, wants_tag, tagged, within, closed, own_back, complete, rule_read, rules_read, value_of_rules}
use Rattle.reading.proofs.Telling.{none≢some}
use Rattle.stores.specs.Rows.{RowsIn}
use Rattle.mentions.specs.SoFar.{so_far, Tidy}
use Rattle.mentions.proofs.Rules.{mentions_all}
use Rattle.ledgers.specs.Space.{SpaceFor}
use Rattle.ledgers.proofs.Telling.{room_is_space}
use Rattle.records.proofs.Promises.{nodes_counted}
use Rattle.desks.specs.Kept.{StoresHold, PastHolds, SlipHolds, tag_in}
use Rattle.shelves.specs.declared.Shelved.{Shelved}
use Rattle.shelves.specs.Shelves.{Rowed}
use Rattle.shelves.proofs.Rows.{rows_fit}
use Rattle.slips.specs.declared.Slip.{Slip}
use Rattle.slips.specs.Slips.{Slipped, SlipFits}
use Rattle.pasts.specs.declared.Past.{Past}
use Rattle.pasts.specs.Pasts.{PastFits, SlipOf, PastKept, PastEndIs}
use Rattle.pasts.proofs.Ends.{six_bytes}
use Rattle.sealing.specs.declared.Outcome.{Outcome}
use Rattle.closings.specs.Closings.{AllThere, AtTheEnd, SomeWhole, SomeReady, BoundAs, FinishIs}

-- the rule that ends there, behind those before
pub record LastRule (r : Rules) (s : Progress) (slip : Slip) (past : Past) (productions nodes : List ℕ) : Type 0 where
  pub earlier : List TextRule
  pub rule : TextRule
  pub all : r.productions ≡ earlier ++ rule ∷ []
  pub start_is : slip.start ≡ r.start
  pub slip_of : SlipOf r rule slip
  pub past_of : PastKept r earlier (content_bytes r rule.inside) past productions nodes

pub last_rule : (r : Rules) (s : Progress) (slip : Slip) (past : Past) (productions nodes : List ℕ) → value_of_rules s ≡ some r → Slipped r s slip → PastHolds r s past.productions past.before past.nodes productions nodes
    → LastRule r s slip past productions nodes
last_rule r beginning slip past pb nb e k p = absurd (none≢some refl e)
last_rule r (first_word n) slip past pb nb e k p = absurd (none≢some refl e)
last_rule r (named h) slip past pb nb e k p = absurd (none≢some refl e)
last_rule r (defined h) slip past pb nb e k p = absurd (none≢some refl e)
last_rule r (own_front q h) slip past pb nb e k p = absurd (none≢some refl e)
last_rule r (wants_tag f h) slip past pb nb e k p = absurd (none≢some refl e)
last_rule r (tagged f t h) slip past pb nb e k p = absurd (none≢some refl e)
last_rule r (within x f t h) slip past pb nb e k p = absurd (none≢some refl e)
last_rule r (closed f t c h) slip past pb nb e k p =
    let same : rules_read (rule_read f none t c h) h ≡ r = cc in
    record {
      earlier = h.earlier;
      rule = rule_read f none t c h;
      all = ap (λ (z : Rules). z.productions) (sym same);
      start_is = k.0.start_is ∙ ap (λ (z : Rules). z.start) same;
      slip_of = record { nonterm_is = k.0.nonterm_is; tag_is = k.1.1.1; front_is = k.1.0; back_is = k.1.1.0 };
      past_of = p;
    }
last_rule r (own_back q f t c h) slip past pb nb e k p = absurd (none≢some refl e)
last_rule r (complete d h) slip past pb nb e k p =
    let same : rules_read d h ≡ r = cc in
    record {
      earlier = h.earlier;
      rule = d;
      all = ap (λ (z : Rules). z.productions) (sym same);
      start_is = k.0 ∙ ap (λ (z : Rules). z.start) same;
      slip_of = record { nonterm_is = k.1.0; tag_is = k.1.1.1.1; front_is = k.1.1.0; back_is = k.1.1.1.0 };
      past_of = p;
    }

-- the last of rules within the limits
last_within : (ds : List TextRule) (d : TextRule) → EachWithin (ds ++ d ∷ []) → nodes_of_rule d ≤ nodes_at_most
last_within [] d h = h.0.inside.few_nodes
last_within (c ∷ ds) d h = last_within ds d h.1

pub fits_end : (r : Rules) (s : Progress) (slip : Slip) (past : Past) (pb nb : List ℕ) → WithinLimits r → SlipFits slip → LastRule r s slip past pb nb → PastFits past slip
fits_end r s slip past pb nb w f l =
    let p = l.past_of in
    let six = six_bytes r l.rule.inside in
    let few = last_within l.earlier l.rule (subst EachWithin l.all w.each) in
    record {
      few = omega (arith, p.productions_are, w.few_productions, ap length l.all, length-append l.earlier (l.rule ∷ []));
      nodes_behind = omega (arith, p.nodes_are);
      few_nodes = omega (arith, p.nodes_are, six, few);
      nodes_within = omega (arith, p.nodes_are, p.before_is, six, w.few_nodes, ap nodes_in_all l.all, nodes_counted l.earlier l.rule);
      nonterm_small = f.nonterm_small;
      tag_small = f.tag_small;
      front_small = f.front_small;
      back_small = f.back_small;
    }

-- there is room for what is stored
pub has_room : (text : List ℕ) (r : Rules) (s : Progress) (counts : Shelved) (tags tagends strings stringends programs programends : List ℕ) → in_rules r.productions ≡ so_far s → Rowed counts tags tagends strings stringends programs programends
    → StoresHold r s tags tagends counts.tags strings stringends counts.strings programs programends counts.programs → Room r
has_room text r s counts tags tagends strings stringends programs programends e w h =
    room_is_space s r e (record {
      few_tags = omega (arith, (rows_fit tags tagends counts.tags (distinct (tags_mentioned (so_far s))) h.tags_held).0, w.tag_places);
      short_programs = omega (arith, (rows_fit programs programends counts.programs (distinct (bytes_of_each r (programs_mentioned (so_far s)))) h.programs_held).1, w.program_room);
      short_strings = omega (arith, (rows_fit strings stringends counts.strings (distinct (strings_mentioned (so_far s))) h.strings_held).1, w.string_room);
    })

pub ready_at : (text : List ℕ) (r : Rules) (s : Progress) (slip : Slip) (counts : Shelved) (past after : Past) (tags tagends productions productions_after nodes strings stringends programs programends : List ℕ)
    → AtTheEnd text r s slip counts past tags tagends productions nodes strings stringends programs programends → length productions_after ≡ length productions → PastEndIs past slip productions productions_after after
    → AllThere text r slip.start counts after tags tagends productions_after nodes strings stringends programs programends
ready_at text r s slip counts past after tags tagends pb pb' nb strings stringends programs programends w long f =
    let l = last_rule r s slip past pb nb w.value w.slipped w.past_held in
    let all : in_rules r.productions ≡ so_far s = sym (mentions_all s r w.tidy w.value) in
    let k = f.is r l.earlier l.rule nb (fits_end r s slip past pb nb w.is_text.within w.slip_fits l) w.production_room l.slip_of l.past_of in
    record {
      is_text = w.is_text;
      room = has_room text r s counts tags tagends strings stringends programs programends all w.rowed w.stores;
      production_room = long ∙ w.production_room;
      node_room = w.node_room;
      start_small = w.slip_fits.start_small;
      start_is = l.start_is;
      tags_held = subst (λ (m : List Mention). RowsIn tags tagends counts.tags (distinct (tags_mentioned m))) (sym all) w.stores.tags_held;
      strings_held = subst (λ (m : List Mention). RowsIn strings stringends counts.strings (distinct (strings_mentioned m))) (sym all) w.stores.strings_held;
      programs_held = subst (λ (m : List Mention). RowsIn programs programends counts.programs (distinct (bytes_of_each r (programs_mentioned m)))) (sym all) w.stores.programs_held;
      past_held = subst (λ (ds : List TextRule). PastKept r ds [] after pb' nb) (sym l.all) k;
    }

pub some_ready : (slip : Slip) (counts : Shelved) (past after : Past) (tags tagends productions productions_after nodes strings stringends programs programends : List ℕ)
    → SomeWhole slip counts past tags tagends productions nodes strings stringends programs programends → length productions_after ≡ length productions → PastEndIs past slip productions productions_after after
    → SomeReady slip.start counts after tags tagends productions_after nodes strings stringends programs programends
some_ready slip counts past after tags tagends pb pb' nb strings stringends programs programends w long f = record {
  text = w.text;
  rules = w.rules;
  ready = ready_at w.text w.rules w.state slip counts past after tags tagends pb pb' nb strings stringends programs programends w.whole long f;
}

pub finish_as : (slip : Slip) (counts : Shelved) (past after : Past) (tags tagends productions productions_after nodes strings stringends programs programends area area_after' : List ℕ) (o : Outcome)
    → length productions_after ≡ length productions → PastEndIs past slip productions productions_after after
    → BoundAs slip.start counts after tags tagends productions_after nodes strings stringends programs programends area area_after' o
    → FinishIs slip counts past tags tagends productions nodes strings stringends programs programends area area_after' o
finish_as slip counts past after tags tagends pb pb' nb strings stringends programs programends area area_after' o long f b = record {
  is = λ text r s w. b.is text r (ready_at text r s slip counts past after tags tagends pb pb' nb strings stringends programs programends w long f);
}
