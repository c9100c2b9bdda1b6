-- What is held in full tells the string and the way: two that are held alike are equal, as no two brackets have one byte.
-- Assumes nothing.
use mathlib.Core.Path.{◌≡◌, refl, sym, ◌∙◌, ap}
use Rattle.std.specs.Prelude.{Option as Past, Some, None, IfSome}
use mathlib.Core.List.{List, [], ◌∷◌}
use mathlib.Core.Option.{Option, none, some}
use Prim.Native.Nat.{ℕ, ◌≤◌}
use native.Mathlib.Omega.{arith}
use lib.ListN.{length}
use Rattle.expressions.specs.Expr.{Atom, nonterminal, anychar}
use Rattle.expressions.specs.Words.{Bracket, opening, closing}
use Rattle.runs.specs.Way.{Way as Found}
use Rattle.ways.specs.declared.Way.{Way}
use Rattle.ways.specs.Held.{code_of, codes, HoldsString, LineIs, no_line, a_line, kind_number, argument_number, WayIs, no_way, a_way}

one_bracket : (c d : Bracket) → code_of c ≡ code_of d → c ≡ d
one_bracket (opening i) (opening k) e = ap opening (omega arith)
one_bracket (opening i) (closing k) e = absurd (omega arith)
one_bracket (closing i) (opening k) e = absurd (omega arith)
one_bracket (closing i) (closing k) e = ap closing (omega arith)

one_string : (α β : List Bracket) → codes α ≡ codes β → α ≡ β
one_string [] [] e = refl
one_string [] (d ∷ β) e = absurd (let z : ◌≡◌ {A = ℕ} 0 1 = cc in omega arith)
one_string (c ∷ α) [] e = absurd (let z : ◌≡◌ {A = ℕ} 0 1 = cc in omega arith)
one_string (c ∷ α) (d ∷ β) e =
    let head : code_of c ≡ code_of d = cc in
    let tail : codes α ≡ codes β = cc in
    let x = one_bracket c d head in
    let y = one_string α β tail in
    cc

one_held : (α β : List Bracket) (n : ℕ) (b : List ℕ) → n ≤ length b → HoldsString α n b → HoldsString β n b → α ≡ β
one_held α β n b room h k = one_string α β (sym (h.bytes_are room) ∙ k.bytes_are room)

pub same_string : (o p : Option (List Bracket)) (r : Past ℕ) (b : List ℕ) → IfSome r (λ n. n ≤ length b) → LineIs o r b → LineIs p r b → o ≡ p
same_string none none None b room no_line no_line = refl
same_string none none (Some n) b room h k = elim h [ ]
same_string none (some β) None b room h k = elim k [ ]
same_string none (some β) (Some n) b room h k = elim h [ ]
same_string (some α) none None b room h k = elim h [ ]
same_string (some α) none (Some n) b room h k = elim k [ ]
same_string (some α) (some β) None b room h k = elim h [ ]
same_string (some α) (some β) (Some n) b room (a_line h) (a_line k) = ap some (one_held α β n b room h k)

one_atom : (a b : Atom) → kind_number a ≡ kind_number b → argument_number a ≡ argument_number b → a ≡ b
one_atom (nonterminal m) (nonterminal n) e f = ap nonterminal f
one_atom (nonterminal m) anychar e f = absurd (omega arith)
one_atom anychar (nonterminal n) e f = absurd (omega arith)
one_atom anychar anychar e f = refl

found_by : {v w : Found} → v.string ≡ w.string → v.place ≡ w.place → v.kind ≡ w.kind → v ≡ w
found_by {v} {w} x y z =
    let u : record { string = v.string; place = v.place; kind = v.kind } ≡ w = rw (x, y, z) refl in
    u

pub same_way : (v w : Option Found) (r : Past Way) (b : List ℕ) → IfSome r (λ u. u.length ≤ length b) → WayIs v r b → WayIs w r b → v ≡ w
same_way none none None b room no_way no_way = refl
same_way none none (Some r) b room h k = elim h [ ]
same_way none (some w) None b room h k = elim k [ ]
same_way none (some w) (Some r) b room h k = elim h [ ]
same_way (some v) none None b room h k = elim h [ ]
same_way (some v) none (Some r) b room h k = elim k [ ]
same_way (some v) (some w) None b room h k = elim h [ ]
same_way (some v) (some w) (Some r) b room (a_way h) (a_way k) =
    ap some (found_by (one_held v.string w.string r.length b room h.string_is k.string_is) (sym h.place_is ∙ k.place_is) (one_atom v.kind w.kind (sym h.kind_is ∙ k.kind_is) (sym h.argument_is ∙ k.argument_is)))
