-- A production ends, and its tag's parentheses close. Assumes nothing.
use mathlib.Core.Path.{◌≡◌, refl, sym, ◌∙◌, ap, ap₂, subst}
use mathlib.Core.Bool.{Bool, true, false, ◌&&◌, true≢false}
use mathlib.Core.Option.{Option, some}
use mathlib.Core.List.{List, [], ◌∷◌, ◌++◌, append_assoc, append-nil}
use Prim.Native.Nat.{ℕ, suc, ◌+◌, ◌-◌, ◌*◌, ◌/◌, ◌≤◌, ◌<◌}
use native.Mathlib.Omega.{arith}
use lib.Dec.{ltb, leb}
use lib.ListN.{length, take, drop, length-append, length-take}
use lib.Seq.{sets, sets-eq, length-sets, take_at, length-take-le, take-append_seam}
use borrow.Author.Tests.{ltb-true, leb-true, lt-ltb, le-leb}
use Rattle.lent.specs.Put.{put, PutAs}
use Rattle.notation.specs.Program.{TextProgram}
use Rattle.notation.specs.Rules.{Tree, TextRule, Rules, content_inside}
use Rattle.notation.specs.Limits.{nodes_in_all}
use Rattle.expressions.specs.Expr.{nodes_of}
use Rattle.packing.specs.Packed.{field, content_bytes, nodes_section, nodes_of_rule, production_record, productions_section}
use Rattle.beds.specs.declared.Row.{Row}
use Rattle.beds.specs.Bedded.{Lays}
use Rattle.beds.proofs.Promises.{sheet_nodes, six_each}
use Rattle.records.specs.Records.{record_bytes, FitsRecord}
use Rattle.records.proofs.Promises.{one_more_production, more_nodes, nodes_counted}
use Rattle.desks.specs.Kept.{tag_in}
use Rattle.slips.specs.declared.Slip.{Slip}
use Rattle.pasts.specs.declared.Past.{Past}
use Rattle.pasts.specs.Pasts.{fitting, PastFits, SlipOf, PastKept, PastEndIs, LayIs}

both : (a b : Bool) → a && b ≡ true → (a ≡ true) × (b ≡ true)
both true b e = (refl, e)
both false b e = absurd (true≢false (sym e))

pub fitting_fit : (o : Past) (s : Slip) → fitting o s ≡ true → PastFits o s
fitting_fit o s e =
    let a = both (ltb o.productions 64) _ e in
    let b = both (leb o.before o.nodes) _ a.1 in
    let c = both (leb o.nodes (o.before + 192)) _ b.1 in
    let d = both (leb o.nodes 1536) _ c.1 in
    let f = both (ltb s.nonterm 256) _ d.1 in
    let g = both (ltb s.tag 256) _ f.1 in
    let h = both (leb s.front 65535) _ g.1 in
    record {
      few = ltb-true _ _ a.0;
      nodes_behind = leb-true _ _ b.0;
      few_nodes = leb-true _ _ c.0;
      nodes_within = leb-true _ _ d.0;
      nonterm_small = ltb-true _ _ f.0;
      tag_small = ltb-true _ _ g.0;
      front_small = leb-true _ _ h.0;
      back_small = leb-true _ _ h.1;
    }

and_true : (a b : Bool) → a ≡ true → b ≡ true → a && b ≡ true
and_true a b e f = ap₂ (λ (x y : Bool). x && y) e f

fit_fitting : (o : Past) (s : Slip) → PastFits o s → fitting o s ≡ true
fit_fitting o s f =
    and_true _ _ (lt-ltb _ _ f.few) (and_true _ _ (le-leb _ _ f.nodes_behind) (and_true _ _ (le-leb _ _ f.few_nodes) (and_true _ _ (le-leb _ _ f.nodes_within)
    (and_true _ _ (lt-ltb _ _ f.nonterm_small) (and_true _ _ (lt-ltb _ _ f.tag_small) (and_true _ _ (le-leb _ _ f.front_small) (le-leb _ _ f.back_small)))))))

pub end_unfit : (o : Past) (s : Slip) (memory : List ℕ) (b : Bool) → b ≡ fitting o s → b ≡ false → PastEndIs o s memory memory o
end_unfit o s memory b e h = record { is = λ r earlier d nodes f. absurd (true≢false (sym (fit_fitting o s f) ∙ sym e ∙ h)) }

pub end_far : (o : Past) (s : Slip) (memory : List ℕ) → 2000 ≤ o.before → PastEndIs o s memory memory o
end_far o s memory h = record { is = λ r earlier d nodes f. absurd (omega (arith, h, f.nodes_behind, f.nodes_within)) }

pub fit_of : (o : Past) (s : Slip) (b : Bool) → b ≡ fitting o s → b ≡ true → PastFits o s
fit_of o s b e h = fitting_fit o s (sym e ∙ h)

-- what the record asks
pub record_fits : (o : Past) (s : Slip) (b : Bool) → b ≡ fitting o s → b ≡ true → FitsRecord s.nonterm s.tag (o.before / 6) ((o.nodes - o.before) / 6) s.front s.back
record_fits o s b e h =
    let f = fitting_fit o s (sym e ∙ h) in
    record {
      nonterminal_fits = f.nonterm_small;
      tag_fits = f.tag_small;
      first_fits = omega (arith, f.nodes_behind, f.nodes_within);
      nodes_fit = omega (arith, f.few_nodes);
      front_fits = f.front_small;
      back_fits = f.back_small;
    }

-- new bytes behind the first ones
unfolding_put : (memory : List ℕ) (at : ℕ) (new : List ℕ) → put true memory at new ≡ sets memory at new
unfolding put
unfolding_put memory at new = refl

behind : (memory after new front : List ℕ) (at r : ℕ) → PutAs true memory at new after r → take at memory ≡ front → at ≤ length memory → at + length new ≤ length memory → take (at + length new) after ≡ front ++ new
behind memory after new front at r p e l h =
    let z : after ≡ (take at memory ++ new) ++ drop (at + length new) memory = p.left ∙ unfolding_put memory at new ∙ sets-eq new memory at h in
    let k : length (take at memory ++ new) ≡ at + length new = length-append (take at memory) new ∙ ap (λ (n : ℕ). n + length new) (length-take-le at memory l) in
    ap (take (at + length new)) z ∙ take_at (take at memory ++ new) (drop (at + length new) memory) (at + length new) k ∙ ap (λ (x : List ℕ). x ++ new) e

pub six_bytes : (r : Rules) (e : Option Tree) → length (content_bytes r e) ≡ 6 * nodes_of (content_inside e)
six_bytes r e = ap length (sym (sheet_nodes r e)) ∙ six_each (λ p. field r (some p)) e

pub ended_as : (o : Past) (s : Slip) (memory after : List ℕ) (n : ℕ) (b : Bool) → b ≡ fitting o s → b ≡ true
    → PutAs true memory (12 * o.productions) (record_bytes s.nonterm s.tag (o.before / 6) ((o.nodes - o.before) / 6) s.front s.back) after n
    → PastEndIs o s memory after (record { productions = o.productions + 1; before = o.nodes; nodes = o.nodes })
ended_as o s memory after n b e h p = record { is = λ r earlier d nodes f m w k. on r earlier d nodes f m w k }
  where
    on : (r : Rules) (earlier : List TextRule) (d : TextRule) (nodes : List ℕ) → PastFits o s → length memory ≡ 768 → SlipOf r d s → PastKept r earlier (content_bytes r d.inside) o memory nodes
        → PastKept r (earlier ++ d ∷ []) [] (record { productions = o.productions + 1; before = o.nodes; nodes = o.nodes }) after nodes
    on r earlier d nodes f m w k =
        let six = six_bytes r d.inside in
        let first : o.before / 6 ≡ 0 + nodes_in_all earlier = omega (arith, k.before_is) in
        let count : (o.nodes - o.before) / 6 ≡ nodes_of_rule d = omega (arith, k.nodes_are, six) in
        let new : List ℕ = record_bytes s.nonterm s.tag (o.before / 6) ((o.nodes - o.before) / 6) s.front s.back in
        let same : new ≡ production_record r (0 + nodes_in_all earlier) d =
        ap₂ (λ (a c : ℕ). record_bytes a c (o.before / 6) ((o.nodes - o.before) / 6) s.front s.back) w.nonterm_is w.tag_is
        ∙ ap₂ (λ (a c : ℕ). record_bytes d.nonterminal (tag_in r d.tag) a c s.front s.back) first count
        ∙ ap₂ (λ (a c : ℕ). record_bytes d.nonterminal (tag_in r d.tag) (0 + nodes_in_all earlier) (nodes_of_rule d) a c) w.front_is w.back_is in
        let at : ℕ = 12 * o.productions in
        let far : 12 * (o.productions + 1) ≡ at + length new = omega arith in
        record {
          productions_are = omega (arith, k.productions_are, length-append earlier (d ∷ []));
          records = ap (λ (z : ℕ). take z after) far ∙ behind memory after new (productions_section r 0 earlier) at n p k.records (omega (arith, m, f.few)) (omega (arith, m, f.few))
              ∙ ap (λ (z : List ℕ). productions_section r 0 earlier ++ z) same ∙ sym (one_more_production r 0 earlier d);
          before_is = omega (arith, k.nodes_are, k.before_is, six, nodes_counted earlier d);
          nodes_are = omega arith;
          laid = k.laid ∙ sym (more_nodes r earlier d) ∙ sym (append-nil (nodes_section r (earlier ++ d ∷ [])));
        }

pub lay_long : (o : Past) (row : Row) (memory : List ℕ) → 192 < row.length → LayIs o row memory memory o
lay_long o row memory h = record { is = λ r earlier e productions l. absurd (omega (arith, h, l.short, l.length_is)) }

pub lay_far : (o : Past) (row : Row) (memory : List ℕ) → 1536 < o.nodes → LayIs o row memory memory o
lay_far o row memory h = record { is = λ r earlier e productions l k. absurd (omega (arith, h, k)) }

pub laid_as : (o : Past) (row : Row) (memory after : List ℕ) (n : ℕ) → PutAs true memory o.nodes (take row.length row.bytes) after n
    → LayIs o row memory after (record { productions = o.productions; before = o.before; nodes = n })
laid_as o row memory after n p = record { is = λ r earlier e productions l h m k. on r earlier e productions l h m k }
  where
    on : (r : Rules) (earlier : List TextRule) (e : Option Tree) (productions : List ℕ) → Lays (content_bytes r e) row → o.nodes + row.length ≤ 1536 → length memory ≡ 1536
        → PastKept r earlier [] o productions memory → PastKept r earlier (content_bytes r e) (record { productions = o.productions; before = o.before; nodes = n }) productions after
    on r earlier e productions l h m k =
        let p' = subst (λ (z : List ℕ). PutAs true memory o.nodes z after n) l.bytes_are p in
        let there : o.nodes + length (content_bytes r e) ≤ length memory = omega (arith, h, m, l.length_is) in
        record {
          productions_are = k.productions_are;
          records = k.records;
          before_is = k.before_is;
          nodes_are = omega (arith, p'.next, k.nodes_are);
          laid = ap (λ (z : ℕ). take z after) p'.next
              ∙ behind memory after (content_bytes r e) (nodes_section r earlier) o.nodes n p' (k.laid ∙ append-nil (nodes_section r earlier)) (omega (arith, there)) there;
        }

pub laid_part : (o : Past) (row : Row) (memory after : List ℕ) (n : ℕ) → PutAs true memory o.nodes (take (row.length - 0) row.bytes) after n
    → LayIs o row memory after (record { productions = o.productions; before = o.before; nodes = n })
laid_part o row memory after n p =
    let k : row.length - 0 ≡ row.length = omega arith in
    laid_as o row memory after n (subst (λ (m : ℕ). PutAs true memory o.nodes (take m row.bytes) after n) k p)
