-- What is told of a way: by the symbol that it is asked to; and of the lent bytes, into which what was tried is put.
-- Assumes nothing.
use mathlib.Core.Path.{◌≡◌, refl, sym, ◌∙◌, ap, subst}
use mathlib.Core.Bool.{true}
use mathlib.Core.List.{List, ◌++◌}
use mathlib.Core.Option.{Option}
use Rattle.std.specs.Prelude.{Option as Past, Some, None, IfSome}
use Prim.Native.Nat.{ℕ, ◌+◌, ◌≤◌}
use native.Mathlib.Omega.{arith}
use lib.ListN.{length, take, drop}
use lib.Seq.{length-take-le, take_at, drop_at}
use Rattle.lent.specs.Put.{PutAs}
use Rattle.lent.proofs.Laws.{put_all, put_length}
use Rattle.expressions.specs.Words.{Bracket}
use Rattle.runs.specs.Way.{Way as Found}
use Rattle.trees.specs.declared.Symbol.{Symbol}
use Rattle.trees.specs.declared.Symbol.TheVariants.{Tag, Character, End}
use Rattle.ways.specs.declared.Way.{Way}
use Rattle.ways.specs.Held.{length_of, LineIs, no_line, a_line, WayIs, no_way, a_way}
use Rattle.few.specs.Strings.{most_brackets}
use Rattle.ways.specs.Answers.{EndWayIs, AtomWayIs, WayTold, WayAs}
use Rattle.ways.proofs.Holds.{string_with}

-- a way that was not found, and one in other bytes
none_line : {o : Option (List Bracket)} {b d : List ℕ} → LineIs o None b → LineIs o None d
none_line no_line = no_line

none_way : {o : Option Found} {b d : List ℕ} → WayIs o None b → WayIs o None d
none_way no_way = no_way

module _ (s : List ℕ) (q p : ℕ) where
  module _ (x : Symbol) (r : Past Way) (b : List ℕ) where
    pub told_tag : (t : ℕ) → x ≡ Tag t → AtomWayIs s q p x r b → WayTold x s q p r b
    told_tag t e h = subst (λ (y : Symbol). WayTold y s q p r b) (sym e) (subst (λ (y : Symbol). AtomWayIs s q p y r b) e h)

    pub told_character : x ≡ Character → AtomWayIs s q p x r b → WayTold x s q p r b
    told_character e h = subst (λ (y : Symbol). WayTold y s q p r b) (sym e) (subst (λ (y : Symbol). AtomWayIs s q p y r b) e h)

    pub told_end : x ≡ End → EndWayIs s q p (length_of r) b → IfSome r (λ w. (w.place ≡ 0) × (w.kind ≡ 0) × (w.argument ≡ 0)) → WayTold x s q p r b
    told_end e h z = subst (λ (y : Symbol). WayTold y s q p r b) (sym e) (h, z)

  pub told_few : (x : Symbol) (r : Way) (b : List ℕ) → WayTold x s q p (Some r) b → r.length ≤ most_brackets
  told_few (Tag t) r b h = h.few
  told_few Character r b h = h.few
  told_few End r b h = h.0.few

  -- what was found, in other bytes that have room for it
  module _ (r : Way) (b d : List ℕ) (room : most_brackets ≤ length d) (e : take r.length d ≡ take r.length b) where
    line_with : (o : Option (List Bracket)) → r.length ≤ length b → LineIs o (Some r.length) b → LineIs o (Some r.length) d
    line_with o full (a_line h) = a_line (string_with d (λ _. full) e h)

    way_with : (o : Option Found) → r.length ≤ length b → WayIs o (Some r) b → WayIs o (Some r) d
    way_with o full (a_way h) =
        a_way (record { string_is = string_with d (λ _. full) e h.string_is; place_is = h.place_is; kind_is = h.kind_is; argument_is = h.argument_is })

    told_with : (x : Symbol) → WayTold x s q p (Some r) b → WayTold x s q p (Some r) d
    told_with (Tag t) h = record { few = h.few; room = room; is = λ g γ c m. way_with _ (omega (arith, h.few, h.room)) (h.is g γ c m) }
    told_with Character h = record { few = h.few; room = room; is = λ g γ c m. way_with _ (omega (arith, h.few, h.room)) (h.is g γ c m) }
    told_with End h = (record { few = h.0.few; room = room; is = λ g γ c m. line_with _ (omega (arith, h.0.few, h.0.room)) (h.0.is g γ c m) }, h.1)

  told_none : (x : Symbol) (b d : List ℕ) → WayTold x s q p None b → most_brackets ≤ length d → WayTold x s q p None d
  told_none (Tag t) b d h room = record { few = tt; room = room; is = λ g γ c m. none_way (h.is g γ c m) }
  told_none Character b d h room = record { few = tt; room = room; is = λ g γ c m. none_way (h.is g γ c m) }
  told_none End b d h room = (record { few = tt; room = room; is = λ g γ c m. none_line (h.0.is g γ c m) }, tt)

  module _ (x : Symbol) (lent b : List ℕ) (room : most_brackets ≤ length lent) where
    pub way_none : WayTold x s q p None b → WayAs s q p x lent None lent
    way_none h = record { few = tt; long = refl; told = told_none x b lent h room; behind = refl }

    module _ (r : Way) (told : WayTold x s q p (Some r) b) (full : most_brackets ≤ length b) where
      fits : r.length ≤ most_brackets
      fits = told_few x r b told

      as_long : length (take r.length b) ≡ r.length
      as_long = length-take-le r.length b (omega (arith, fits, full))

      pub way_found : (d : List ℕ) (to : ℕ) → PutAs true lent 0 (take r.length b) d to → WayAs s q p x lent (Some r) d
      way_found d to P =
          let n : ℕ = r.length in
          let v : List ℕ = take n b in
          let l : length v ≡ n = as_long in
          let k : 0 + length v ≡ n = omega (arith, l) in
          let is : d ≡ v ++ drop n lent = P.left ∙ put_all lent 0 v (omega (arith, l, fits, room)) ∙ ap (λ (i : ℕ). v ++ drop i lent) k in
          let long : length d ≡ length lent = ap length P.left ∙ put_length true lent 0 v in
          record {
            few = fits;
            long = long;
            told = told_with r b d (omega (arith, long, room)) (ap (take n) is ∙ take_at v (drop n lent) n l) x told;
            behind = ap (drop n) is ∙ drop_at v (drop n lent) n l;
          }
