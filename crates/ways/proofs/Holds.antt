-- One more bracket: the byte goes behind the string's. And what stays in the lent bytes while walks write behind it.
-- Assumes nothing.
use mathlib.Core.Path.{◌≡◌, refl, sym, ◌∙◌, ap, subst}
use mathlib.Core.Bool.{true, false}
use mathlib.Core.List.{List, [], ◌∷◌, ◌++◌}
use mathlib.Core.Option.{Option, some}
use Rattle.std.specs.Prelude.{Option as Past, Some, None}
use Prim.Native.Nat.{ℕ, suc, ◌+◌, ◌≤◌, ◌<◌}
use native.Mathlib.Omega.{arith}
use lib.ListN.{length, take, set, length-append, length-set}
use lib.Seq.{take-take, take-set-le, take-suc-set}
use Rattle.expressions.specs.Words.{Bracket, closing}
use Rattle.runs.specs.Way.{Way as Found, joined, led}
use Rattle.ways.specs.declared.Way.{Way}
use Rattle.ways.specs.Held.{there, code_of, codes, string_of, HoldsString, LineIs, no_line, a_line, Kept, Longer, WayIs, no_way, a_way, PushedBracket, Bracketed}

pub line_moved : {o p : Option (List Bracket)} {r : Past ℕ} {b : List ℕ} → o ≡ p → LineIs o r b → LineIs p r b
line_moved {o} {p} {r} {b} e h = subst (λ (z : Option (List Bracket)). LineIs z r b) e h

pub way_moved : {o p : Option Found} {r : Past Way} {b : List ℕ} → o ≡ p → WayIs o r b → WayIs p r b
way_moved {o} {p} {r} {b} e h = subst (λ (z : Option Found). WayIs z r b) e h

pub length_codes : (α : List Bracket) → length (codes α) ≡ length α
length_codes [] = refl
length_codes (c ∷ α) = ap suc (length_codes α)

codes_snoc : (α : List Bracket) (c : Bracket) → codes (α ++ c ∷ []) ≡ codes α ++ code_of c ∷ []
codes_snoc [] c = refl
codes_snoc (d ∷ α) c = ap (λ (l : List ℕ). code_of d ∷ l) (codes_snoc α c)

-- what stays: itself, and one after another
pub kept_itself : (n : ℕ) (b : List ℕ) → Kept n b b
kept_itself n b = record { long = refl; same = refl }

pub kept_then : {n m : ℕ} {b d e : List ℕ} → n ≤ m → Kept n b d → Kept m d e → Kept n b e
kept_then {n} {m} {b} {d} {e} f h k =
    record { long = k.long ∙ h.long; same = sym (take-take n m e f) ∙ ap (take n) k.same ∙ take-take n m d f ∙ h.same }

-- a string in bytes that start with the same
pub string_with : {α : List Bracket} {n : ℕ} {b : List ℕ} (d : List ℕ) → (n ≤ length d → n ≤ length b) → take n d ≡ take n b → HoldsString α n b → HoldsString α n d
string_with d room same h = record { length_is = h.length_is; bytes_are = λ f. same ∙ h.bytes_are (room f) }

pub string_again : {α : List Bracket} {n : ℕ} {b d : List ℕ} → Kept n b d → HoldsString α n b → HoldsString α n d
string_again {α} {n} {b} {d} k h = string_with d (λ f. omega (arith, f, k.long)) k.same h

-- whether there is one
pub is_there : {o : Option (List Bracket)} {n : ℕ} {b : List ℕ} → LineIs o (Some n) b → there o ≡ true
is_there (a_line h) = refl

pub is_missing : {o : Option (List Bracket)} {b : List ℕ} → LineIs o None b → there o ≡ false
is_missing no_line = refl

pub way_there : {o : Option Found} {r : Way} {b : List ℕ} → WayIs o (Some r) b → there (string_of o) ≡ true
way_there (a_way h) = refl

pub way_missing : {o : Option Found} {b : List ℕ} → WayIs o None b → there (string_of o) ≡ false
way_missing no_way = refl

-- from a string on, and from none
pub line_led : (v : Option (List Bracket)) {o : Option (List Bracket)} {n : ℕ} {b d : List ℕ} {r : Past ℕ} → LineIs o (Some n) b → ((β : List Bracket) → HoldsString β n b → LineIs (joined (some β) v) r d) → LineIs (joined o v) r d
line_led v (a_line {α} h) f = f α h

pub line_stops : (v : Option (List Bracket)) {o : Option (List Bracket)} {b : List ℕ} → LineIs o None b → LineIs (joined o v) None b
line_stops v no_line = no_line

pub way_led : (v : Option Found) {o : Option (List Bracket)} {n : ℕ} {b d : List ℕ} {r : Past Way} → LineIs o (Some n) b → ((β : List Bracket) → HoldsString β n b → WayIs (led (some β) v) r d) → WayIs (led o v) r d
way_led v (a_line {α} h) f = f α h

pub way_stops : (v : Option Found) {o : Option (List Bracket)} {b : List ℕ} → LineIs o None b → WayIs (led o v) None b
way_stops v no_line = no_way

pub line_closed : {o : Option (List Bracket)} {t i n m : ℕ} {b d : List ℕ} → Bracketed closing t n b m d → t ≡ i → LineIs o (Some n) b → LineIs (joined o (some (closing i ∷ []))) (Some m) d
line_closed {i = i} cl e (a_line {α} h) = a_line (cl.is i e α h)

-- where there is a string, it is longer than one that it is longer than by more
pub longer_more : (n m k l : ℕ) (r : Past ℕ) → n ≤ m → m + k ≤ n + l → Longer m k r → Longer n l r
longer_more n m k l None a b h = tt
longer_more n m k l (Some r) a b h = (omega (arith, a, b, h.0), omega (arith, a, b, h.1))

-- the empty string
pub empty_string : (b : List ℕ) → HoldsString [] 0 b
empty_string b = record { length_is = refl; bytes_are = λ _. refl }

module _ (c n : ℕ) (b : List ℕ) where
  module _ (room : n < length b) (r : ℕ) (d : List ℕ) (one_more : r ≡ n + 1) (stored : d ≡ set b n c) where
    some_of : (k : Bracket) → c ≡ code_of k → (α : List Bracket) → HoldsString α n b → HoldsString (α ++ k ∷ []) r d
    some_of k e α h =
        let m : r ≡ suc n = omega (arith, one_more) in
        record {
          length_is = omega (arith, h.length_is, one_more, length-append α (k ∷ []));
          bytes_are = λ _. ap (λ (i : ℕ). take i d) m ∙ ap (take (suc n)) stored ∙ take-suc-set b n c room
              ∙ ap (λ (l : List ℕ). l ++ c ∷ []) (h.bytes_are (omega (arith, room))) ∙ ap (λ (i : ℕ). codes α ++ i ∷ []) e ∙ sym (codes_snoc α k);
        }

    pub pushed_one : PushedBracket c n b r d
    pushed_one =
        record {
          one_more = one_more;
          kept = record { long = ap length stored ∙ length-set b n c; same = ap (take n) stored ∙ take-set-le n b n c (omega arith) };
          is = some_of;
        }

  -- past the lent bytes it is counted only
  pub pushed_past : length b ≤ n → (r : ℕ) → r ≡ n + 1 → PushedBracket c n b r b
  pushed_past past r one_more = record { one_more = one_more; kept = kept_itself n b; is = counted }
    where
      counted : (k : Bracket) → c ≡ code_of k → (α : List Bracket) → HoldsString α n b → HoldsString (α ++ k ∷ []) r b
      counted k e α h = record { length_is = omega (arith, h.length_is, one_more, length-append α (k ∷ [])); bytes_are = λ room. absurd (omega (arith, room, one_more, past)) }

pub bracketed : (bracket : ℕ → Bracket) (i c n : ℕ) (b : List ℕ) (r : ℕ) (d : List ℕ) → c ≡ code_of (bracket i) → PushedBracket c n b r d → Bracketed bracket i n b r d
bracketed bracket i c n b r d e p =
    record { one_more = p.one_more; kept = p.kept; is = λ k q α h. p.is (bracket k) (e ∙ ap (λ (m : ℕ). code_of (bracket m)) q) α h }
