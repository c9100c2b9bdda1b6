-- The machine reads what stands between a tag's parentheses. Assumes nothing.
use mathlib.Core.Path.{◌≡◌, refl, sym, ◌∙◌, ap, subst}
use mathlib.Core.Bool.{Bool, true, false}
use mathlib.Core.Option.{Option, none, some}
use mathlib.Core.List.{List, [], ◌∷◌, ◌++◌, append_assoc, append-nil}
use Prim.Native.Nat.{ℕ, ◌≤◌}
use native.Mathlib.Omega.{arith}
use Rattle.notation.specs.Rules.{Tree}
use Rattle.notation.specs.Limits.{ContentWithin}
use Rattle.notation.specs.Tokens.{TextToken}
use Rattle.notation.specs.Productions.{ContentIs}
use Rattle.reading.specs.Machine.{and_then, walk}
use Rattle.reading.specs.Reads.{Ends, ReadBy}
use Rattle.reading.specs.Expressions.{ExpressionLevel, fresh_expression, whole_expression, fronted, sealed, around_expression, Parsing, wants, in_front, after, behind, over, step_expression, whole_value, empty_value, value_of_content, shortest_at, finished_content, contents}
use Rattle.reading.specs.Promises.{ReadsContents}
use Rattle.reading.proofs.Telling.{none≢some, held_after}
use Rattle.reading.proofs.ExpressionWalk.{content_walk}
use Rattle.reading.proofs.ExpressionHeld.{Held, held_step, held_start, held_value, held_shortest}
use Rattle.reading.proofs.ExpressionSize.{Under, UnderContent, Grown, step_grows, fronted_sealed}

empty_finished : (b : Bool) (l : ExpressionLevel) (ls : List ExpressionLevel) (v : Option Tree) → empty_value b ls ≡ some v → shortest_at b l ls ≡ v
empty_finished true l [] v e = cc
empty_finished true l (m ∷ ls) v e = absurd (none≢some refl e)
empty_finished false l ls v e = absurd (none≢some refl e)

whole_finished : (ls : List ExpressionLevel) (o v : Option Tree) (t : Tree) → ((u : Tree) → o ≡ some u → t ≡ u) → whole_value ls o ≡ some v → some (around_expression ls t) ≡ v
whole_finished [] none v t h e = absurd (none≢some refl e)
whole_finished [] (some u) v t h e = let same : some u ≡ v = cc in ap some (h u refl) ∙ same
whole_finished (l ∷ ls) none v t h e = absurd (none≢some refl e)
whole_finished (l ∷ ls) (some u) v t h e = absurd (none≢some refl e)

pub finished_value : (s : Parsing) (v : Option Tree) → value_of_content s ≡ some v → finished_content s ≡ v
finished_value (wants b l ls) v e = empty_finished b l ls v e
finished_value (in_front q ls) v e = absurd (none≢some refl e)
finished_value (after x l ls) v e = whole_finished ls (fronted l.before (whole_expression l x)) v (sealed l.before (whole_expression l x)) (fronted_sealed l.before (whole_expression l x)) e
finished_value (behind q f k ls) v e = absurd (none≢some refl e)
finished_value (over x ls) v e = whole_finished ls (some x) v x (λ u i. cc) e

held : (ts : List TextToken) (s : Parsing) → walk step_expression (wants true fresh_expression []) ts ≡ some s → Held s ts
held ts s e = held_after step_expression Held held_step (wants true fresh_expression []) s ts held_start e

pub ends : (ts : List TextToken) (v : Option Tree) → ContentIs ts v → Ends contents ts v
ends ts v h = let w = content_walk h in record { last = w.0; walked = w.1; told = w.2 }

pub nothing_within : ContentWithin none
nothing_within = record { few_nodes = omega arith; shallow = omega arith; programs = tt }

pub content_smaller : (o o' : Option Tree) → UnderContent o o' → ContentWithin o' → ContentWithin o
content_smaller none o' u w = nothing_within
content_smaller (some t) none u w = absurd u
content_smaller (some t) (some t') u w = record { few_nodes = omega (arith, u.few, w.few_nodes); shallow = omega (arith, u.low, w.shallow); programs = u.programs w.programs }

pub reads_contents : ReadsContents
reads_contents = record {
  complete = ends;
  sound = λ ts s v e t. held_value s ts v (held ts s e) t;
  shortest = λ ts s e. held_shortest s ts (held ts s e);
  finished_last = finished_value;
  grows = λ s s' t e f. content_smaller (finished_content s) (finished_content s') (subst (Grown s) e (step_grows s t)) f;
  starts = nothing_within;
}
