-- One answer for each question: of two that are right, the way and the lent bytes are the same.
-- Assumes nothing.
use mathlib.Core.Path.{◌≡◌, refl, sym, ◌∙◌, ap, ap₂}
use mathlib.Core.List.{List, ◌++◌}
use mathlib.Core.Option.{Option, none, some}
use Rattle.std.specs.Prelude.{Option as Past, Some, None, IfSome, MatchOption}
use Rattle.few.specs.Strings.{most_brackets}
use Prim.Native.Nat.{ℕ, ◌≤◌}
use native.Mathlib.Omega.{arith}
use lib.ListN.{length, drop, take-append-drop}
use Rattle.expressions.specs.Grammar.{Production, Nth}
use Rattle.expressions.specs.Words.{Bracket}
use Rattle.runs.specs.Way.{Way as Found}
use Rattle.trees.specs.declared.Symbol.{Symbol}
use Rattle.trees.specs.declared.Symbol.TheVariants.{Tag, Character, End}
use Rattle.trees.specs.GrammarAt.{GrammarIs}
use Rattle.ways.specs.declared.Way.{Way}
use Rattle.ways.specs.Held.{codes, HoldsString, length_of, LineIs, a_line, no_line, WayIs, no_way, a_way}
use Rattle.ways.specs.Answers.{WayAs}

way_by : {q r : Way} → q.length ≡ r.length → q.place ≡ r.place → q.kind ≡ r.kind → q.argument ≡ r.argument → q ≡ r
way_by {q} {r} x y z u =
    let w : record { length = q.length; place = q.place; kind = q.kind; argument = q.argument } ≡ r = rw (x, y, z, u) refl in
    w

module _ (lent : List ℕ) where
  -- the string, and behind it the lent bytes as they were
  bytes_by : (α : List Bracket) (n : ℕ) (d : List ℕ) → HoldsString α n d → n ≤ length d → drop n d ≡ drop n lent → d ≡ codes α ++ drop (length α) lent
  bytes_by α n d h room behind =
      sym (take-append-drop n d) ∙ ap₂ (λ (u v : List ℕ). u ++ v) (h.bytes_are room) (behind ∙ ap (λ (i : ℕ). drop i lent) h.length_is)

  one_bytes : (α : List Bracket) (n m : ℕ) (d e : List ℕ) → HoldsString α n d → HoldsString α m e → n ≤ length d → m ≤ length e → drop n d ≡ drop n lent → drop m e ≡ drop m lent → d ≡ e
  one_bytes α n m d e h k f g x y = bytes_by α n d h f x ∙ sym (bytes_by α m e k g y)

  abbrev Behind : Past Way → List ℕ → Type 0
  Behind None d = d ≡ lent
  Behind (Some r) d = (r.length ≤ length d) × (drop r.length d ≡ drop r.length lent)

  abbrev Nowhere : Past Way → Type 0
  Nowhere r = IfSome r (λ w. (w.place ≡ 0) × (w.kind ≡ 0) × (w.argument ≡ 0))

  one_found : (o : Option Found) (r u : Past Way) (d e : List ℕ) → WayIs o r d → WayIs o u e → Behind r d → Behind u e → (r ≡ u) × (d ≡ e)
  one_found none None None d e no_way no_way x y = (refl, x ∙ sym y)
  one_found none None (Some u) d e h k x y = elim k [ ]
  one_found none (Some r) u d e h k x y = elim h [ ]
  one_found (some w) None u d e h k x y = elim h [ ]
  one_found (some w) (Some r) None d e h k x y = elim k [ ]
  one_found (some w) (Some r) (Some u) d e (a_way h) (a_way k) x y =
      (ap Some (way_by (h.string_is.length_is ∙ sym k.string_is.length_is) (h.place_is ∙ sym k.place_is) (h.kind_is ∙ sym k.kind_is) (h.argument_is ∙ sym k.argument_is)), one_bytes w.string r.length u.length d e h.string_is k.string_is x.0 y.0 x.1 y.1)

  one_ended : (o : Option (List Bracket)) (r u : Past Way) (d e : List ℕ) → LineIs o (length_of r) d → LineIs o (length_of u) e → Nowhere r → Nowhere u → Behind r d → Behind u e → (r ≡ u) × (d ≡ e)
  one_ended none None None d e no_line no_line i j x y = (refl, x ∙ sym y)
  one_ended none None (Some u) d e h k i j x y = elim k [ ]
  one_ended none (Some r) u d e h k i j x y = elim h [ ]
  one_ended (some α) None u d e h k i j x y = elim h [ ]
  one_ended (some α) (Some r) None d e h k i j x y = elim k [ ]
  one_ended (some α) (Some r) (Some u) d e (a_line h) (a_line k) i j x y =
      (ap Some (way_by (h.length_is ∙ sym k.length_is) (i.0 ∙ sym j.0) (i.1 ∙ sym j.1) (i.2 ∙ sym j.2)), one_bytes α r.length u.length d e h k x.0 y.0 x.1 y.1)

  behind_of : (r : Past Way) (d : List ℕ) → IfSome r (λ w. w.length ≤ most_brackets) → most_brackets ≤ length d → MatchOption r (d ≡ lent) (λ w. drop w.length d ≡ drop w.length lent) → Behind r d
  behind_of None d few room x = x
  behind_of (Some r) d few room x = (omega (arith, few, room), x)

  module _ (s : List ℕ) (g : List Production) (γ : GrammarIs s g) (q : ℕ) (c : Production) (m : Nth g q c) (p : ℕ) (r u : Past Way) (d e : List ℕ) where
    pub one_way : (x : Symbol) → WayAs s q p x lent r d → WayAs s q p x lent u e → (r ≡ u) × (d ≡ e)
    one_way (Tag t) h k = one_found _ r u d e (h.told.is g γ c m) (k.told.is g γ c m) (behind_of r d h.few h.told.room h.behind) (behind_of u e k.few k.told.room k.behind)
    one_way Character h k = one_found _ r u d e (h.told.is g γ c m) (k.told.is g γ c m) (behind_of r d h.few h.told.room h.behind) (behind_of u e k.few k.told.room k.behind)
    one_way End h k = one_ended _ r u d e (h.told.0.is g γ c m) (k.told.0.is g γ c m) h.told.1 k.told.1 (behind_of r d h.few h.told.0.room h.behind) (behind_of u e k.few k.told.0.room k.behind)
