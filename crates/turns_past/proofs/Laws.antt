-- The records and nodes before, one token further. Assumes nothing.
use mathlib.Core.Path.{◌≡◌, refl, sym, ◌∙◌, ap, subst}
use mathlib.Core.Option.{Option, none, some}
use mathlib.Core.List.{List, [], ◌∷◌, ◌++◌}
use Prim.Native.Nat.{ℕ, ◌+◌, ◌*◌, ◌≤◌, ◌<◌}
use native.Mathlib.Omega.{arith}
use lib.ListN.{length, length-append}
use Rattle.limits.specs.Limits.{nodes_at_most}
use Rattle.notation.specs.Program.{TextProgram}
use Rattle.notation.specs.Rules.{Tree, TextRule, Rules}
use Rattle.notation.specs.Limits.{WithinLimits, EachWithin, nodes_in_all}
use Rattle.notation.specs.Tokens.{Dollar, plain, left, right, TextToken, nonterminal, value, attribute, name, start_tag, end_tag, empty_tag, string, word, Keyword, CHAR, ECHO, ECHO-OFF, REJECT, PRINT, IF, THEN, ELSE, BEGIN, END, AND, OR, NOT, EMPTY, sign, Sign, DEFINED, ASSIGNED, OPEN, CLOSE, BRACE, UNBRACE, DOT, BAR, STAR, SEMICOLON, EQUALS}
use Rattle.packing.specs.Packed.{content_bytes, nodes_of_rule}
use Rattle.reading.specs.Expressions.{Parsing}
use Rattle.reading.specs.Rules.{Head, Progress, beginning, first_word, named, defined, own_front, wants_tag, tagged, within, closed, own_back, complete, rule_read, finished_rules, step_rules}
use Rattle.lexemes.specs.Kinds.{token_kind}
use Rattle.verdicts.specs.Judged.{Goes}
use Rattle.beds.specs.declared.Bed.{Bed}
use Rattle.beds.specs.declared.Row.{Row}
use Rattle.beds.specs.Bedded.{Lays, FinishedIs}
use Rattle.records.proofs.Promises.{nodes_counted}
use Rattle.desks.specs.Spots.{spot}
use Rattle.desks.specs.Kept.{PastHeld, earlier_of, inside_of}
use Rattle.slips.specs.declared.Slip.{Slip}
use Rattle.slips.specs.Slips.{Slipped, SlipFits}
use Rattle.pasts.specs.declared.Past.{Past}
use Rattle.pasts.specs.Pasts.{PastFits, SlipOf, PastKept, PastEndIs, LayIs}
use Rattle.pasts.proofs.Ends.{six_bytes}
use Rattle.turns_bed.specs.Turned.{BedHolds}
use Rattle.turns_bed.proofs.Turns.{closes_with}
use Rattle.turns_past.specs.Turned.{PastIn, PastTurned}
use Rattle.turns_past.proofs.Steps.{PastStep, same, ends, lays, past_step}

zero_kind : (t : TextToken) → token_kind t ≡ 0 → (m : ℕ) × (t ≡ nonterminal m)
zero_kind (nonterminal n) e = (n, refl)
zero_kind (value v) e = absurd (omega arith)
zero_kind (attribute plain a) e = absurd (omega arith)
zero_kind (attribute left a) e = absurd (omega arith)
zero_kind (attribute right a) e = absurd (omega arith)
zero_kind (name n) e = absurd (omega arith)
zero_kind (start_tag n) e = absurd (omega arith)
zero_kind (end_tag n) e = absurd (omega arith)
zero_kind (empty_tag n) e = absurd (omega arith)
zero_kind (string cs) e = absurd (omega arith)
zero_kind (word CHAR) e = absurd (omega arith)
zero_kind (word ECHO) e = absurd (omega arith)
zero_kind (word ECHO-OFF) e = absurd (omega arith)
zero_kind (word REJECT) e = absurd (omega arith)
zero_kind (word PRINT) e = absurd (omega arith)
zero_kind (word IF) e = absurd (omega arith)
zero_kind (word THEN) e = absurd (omega arith)
zero_kind (word ELSE) e = absurd (omega arith)
zero_kind (word BEGIN) e = absurd (omega arith)
zero_kind (word END) e = absurd (omega arith)
zero_kind (word AND) e = absurd (omega arith)
zero_kind (word OR) e = absurd (omega arith)
zero_kind (word NOT) e = absurd (omega arith)
zero_kind (word EMPTY) e = absurd (omega arith)
zero_kind (sign DEFINED) e = absurd (omega arith)
zero_kind (sign ASSIGNED) e = absurd (omega arith)
zero_kind (sign OPEN) e = absurd (omega arith)
zero_kind (sign CLOSE) e = absurd (omega arith)
zero_kind (sign BRACE) e = absurd (omega arith)
zero_kind (sign UNBRACE) e = absurd (omega arith)
zero_kind (sign DOT) e = absurd (omega arith)
zero_kind (sign BAR) e = absurd (omega arith)
zero_kind (sign STAR) e = absurd (omega arith)
zero_kind (sign SEMICOLON) e = absurd (omega arith)
zero_kind (sign EQUALS) e = absurd (omega arith)

-- the shortest continuation has the productions before, and one more
finished_begins : (s : Progress) → (m : TextRule) × ((finished_rules s).productions ≡ earlier_of s ++ m ∷ [])
finished_begins beginning = (_, refl)
finished_begins (first_word n) = (_, refl)
finished_begins (named h) = (_, refl)
finished_begins (defined h) = (_, refl)
finished_begins (own_front q h) = (_, refl)
finished_begins (wants_tag f h) = (_, refl)
finished_begins (tagged f t h) = (_, refl)
finished_begins (within x f t h) = (_, refl)
finished_begins (closed f t e h) = (_, refl)
finished_begins (own_back q f t e h) = (_, refl)
finished_begins (complete r h) = (_, refl)

mid_within : (ds : List TextRule) (d m : TextRule) → EachWithin ((ds ++ d ∷ []) ++ m ∷ []) → nodes_of_rule d ≤ nodes_at_most
mid_within [] d m h = h.0.inside.few_nodes
mid_within (c ∷ ds) d m h = mid_within ds d m h.1

-- a record can hold the numbers of a production that ends
end_fits : (r : Rules) (s' : Progress) (slip : Slip) (o : Past) (earlier : List TextRule) (d : TextRule) (pb nb : List ℕ) → WithinLimits (finished_rules s') → earlier_of s' ≡ earlier ++ d ∷ [] → SlipFits slip
    → PastKept r earlier (content_bytes r d.inside) o pb nb → PastFits o slip
end_fits r s' slip o earlier d pb nb w e f p =
    let b = finished_begins s' in
    let all : (finished_rules s').productions ≡ (earlier ++ d ∷ []) ++ b.0 ∷ [] = b.1 ∙ ap (λ (z : List TextRule). z ++ b.0 ∷ []) e in
    let few = mid_within earlier d b.0 (subst EachWithin all w.each) in
    let six = six_bytes r d.inside in
    record {
      few = omega (arith, p.productions_are, w.few_productions, ap length all, length-append (earlier ++ d ∷ []) (b.0 ∷ []), length-append earlier (d ∷ []));
      nodes_behind = omega (arith, p.nodes_are);
      few_nodes = omega (arith, p.nodes_are, six, few);
      nodes_within = omega (arith, p.nodes_are, p.before_is, six, w.few_nodes, ap nodes_in_all all, nodes_counted (earlier ++ d ∷ []) b.0, nodes_counted earlier d);
      nonterm_small = f.nonterm_small;
      tag_small = f.tag_small;
      front_small = f.front_small;
      back_small = f.back_small;
    }

moved : (r : Rules) (s s' : Progress) (o : Past) (pb nb : List ℕ) → earlier_of s' ≡ earlier_of s → inside_of r s' ≡ inside_of r s → PastIn r s o pb nb → PastIn r s' o pb nb
moved r s s' o pb nb a b p =
    subst (λ (ds : List TextRule). PastHeld r ds (inside_of r s') o.productions o.before o.nodes pb nb) (sym a) (subst (λ (m : List ℕ). PastHeld r (earlier_of s) m o.productions o.before o.nodes pb nb) (sym b) p)

module _ (o : Past) (slip : Slip) (bed : Bed) (here there kind : ℕ) (pb nb : List ℕ) where
  pub turned_laid : (row : Row) (nb' : List ℕ) (a : Past) → here ≡ 7 → there ≡ 8 → FinishedIs bed row → LayIs o row nb nb' a → PastTurned o slip bed here there kind pb nb pb nb' a
  turned_laid row nb' a e f w l = record { is = λ r s s' t sp sp' k g lp ln sl sf bh p. on r s s' t sp sp' g ln bh p (past_step r s s' t (zero_kind t) g.taken) }
    where
      on : (r : Rules) (s s' : Progress) (t : TextToken) → spot s ≡ here → spot s' ≡ there → Goes s t s' → length nb ≡ 1536 → BedHolds r s bed → PastIn r s o pb nb → PastStep r s t s' → PastIn r s' a pb nb'
      on r s s' t sp sp' g ln bh p (same b c d h) = absurd (d (sp ∙ e) (sp' ∙ f))
      on r s s' t sp sp' g ln bh p (ends earlier d k low b c i j u) = absurd (omega (arith, low, sp, e))
      on r s s' t sp sp' g ln bh p (lays x c v i h es es') =
          let g' : Goes (within x c v h) t (closed c v i h) = subst (λ (z : Progress). Goes (within x c v h) t z) es' (subst (λ (z : Progress). Goes z t s') es g) in
          let bh' : BedHolds r (within x c v h) bed = subst (λ (z : Progress). BedHolds r z bed) es bh in
          let p' : PastIn r (within x c v h) o pb nb = subst (λ (z : Progress). PastIn r z o pb nb) es p in
          let lays' = closes_with r x c c v v h h i t bed row g' bh' w in
          let rule : TextRule = rule_read c none v i h in
          let fits : o.nodes + row.length ≤ 1536 = omega (arith, p'.nodes_are, p'.before_is, lays'.length_is, six_bytes r i, g'.fits.few_nodes, nodes_counted h.earlier rule) in
          subst (λ (z : Progress). PastIn r z a pb nb') (sym es') (l.is r h.earlier i pb lays' fits ln p')

  -- nothing ends, and nothing closes
  stays : ((s s' : Progress) (x : Parsing) (c : Option TextProgram) (v : List ℕ) (e : Option Tree) (h : Head) → spot s ≡ here → spot s' ≡ there → s ≡ within x c v h → s' ≡ closed c v e h → ⊥) → ((t : TextToken) → kind ≡ token_kind t → token_kind t ≡ 0 → 8 ≤ here → ⊥)
      → PastTurned o slip bed here there kind pb nb pb nb o
  stays no_lay no_end = record { is = λ r s s' t sp sp' k g lp ln sl sf bh p. on r s s' t sp sp' k p (past_step r s s' t (zero_kind t) g.taken) }
    where
      on : (r : Rules) (s s' : Progress) (t : TextToken) → spot s ≡ here → spot s' ≡ there → kind ≡ token_kind t → PastIn r s o pb nb → PastStep r s t s' → PastIn r s' o pb nb
      on r s s' t sp sp' k p (same b c d h) = moved r s s' o pb nb b c p
      on r s s' t sp sp' k p (ends earlier d z low b c i j u) = absurd (no_end t k z (subst (λ (n : ℕ). 8 ≤ n) sp low))
      on r s s' t sp sp' k p (lays x c v i h es es') = absurd (no_lay s s' x c v i h sp sp' es es')

  pub turned_inside : here ≡ 7 → (there ≡ 8 → ⊥) → PastTurned o slip bed here there kind pb nb pb nb o
  turned_inside e f = stays (λ s s' x c v i h sp sp' es es'. f (sym sp' ∙ ap spot es')) (λ t k z low. omega (arith, low, e))

  pub turned_early : (here ≡ 7 → ⊥) → here < 8 → PastTurned o slip bed here there kind pb nb pb nb o
  turned_early e f = stays (λ s s' x c v i h sp sp' es es'. e (sym sp ∙ ap spot es)) (λ t k z low. omega (arith, low, f))

  pub turned_other : (here ≡ 7 → ⊥) → (kind ≡ 0 → ⊥) → PastTurned o slip bed here there kind pb nb pb nb o
  turned_other e f = stays (λ s s' x c v i h sp sp' es es'. e (sym sp ∙ ap spot es)) (λ t k z low. f (k ∙ z))

  pub turned_end : (pb' : List ℕ) (a : Past) → (here ≡ 7 → ⊥) → kind ≡ 0 → 8 ≤ here → PastEndIs o slip pb pb' a → PastTurned o slip bed here there kind pb nb pb' nb a
  turned_end pb' a e z low l = record { is = λ r s s' t sp sp' k g lp ln sl sf bh p. on r s s' t sp k g lp sl sf p (past_step r s s' t (zero_kind t) g.taken) }
    where
      on : (r : Rules) (s s' : Progress) (t : TextToken) → spot s ≡ here → kind ≡ token_kind t → Goes s t s' → length pb ≡ 768 → Slipped r s slip → SlipFits slip → PastIn r s o pb nb → PastStep r s t s' → PastIn r s' a pb' nb
      on r s s' t sp k g lp sl sf p (same b c d h) = absurd (h (sym k ∙ z) (subst (λ (n : ℕ). 8 ≤ n) (sym sp) low))
      on r s s' t sp k g lp sl sf p (ends earlier d z' low' b c i j u) =
          let p' : PastKept r earlier (content_bytes r d.inside) o pb nb =
          subst (λ (ds : List TextRule). PastHeld r ds (content_bytes r d.inside) o.productions o.before o.nodes pb nb) b (subst (λ (m : List ℕ). PastHeld r (earlier_of s) m o.productions o.before o.nodes pb nb) c p) in
          let q = l.is r earlier d nb (end_fits r s' slip o earlier d pb nb g.fits i sf p') lp (u slip sl) p' in
          subst (λ (ds : List TextRule). PastHeld r ds (inside_of r s') a.productions a.before a.nodes pb' nb) (sym i) (subst (λ (m : List ℕ). PastHeld r (earlier ++ d ∷ []) m a.productions a.before a.nodes pb' nb) (sym j) q)
      on r s s' t sp k g lp sl sf p (lays x c v i h es es') = absurd (e (sym sp ∙ ap spot es))
