-- Strings kept field after field and record after record; and when all are, whether they have room. Assumes nothing.
use mathlib.Core.Path.{◌≡◌, refl, sym, ap, ◌∙◌, subst}
use Rattle.std.specs.Prelude.{Option as Counted, Some, None, is_some}
use mathlib.Core.Bool.{Bool, true, false, not, true≢false}
use mathlib.Core.Logic.{inl, inr}
use mathlib.Core.List.{List, [], ◌∷◌, ◌++◌, append_assoc, append-nil}
use mathlib.Core.Option.{Option, none, some}
use Prim.Native.Nat.{ℕ, suc, ◌+◌, ◌≤◌, ◌<◌}
use native.Mathlib.Omega.{arith}
use native.Mathlib.Numerals.{add-one}
use lib.ListN.{length, length-append}
use Rattle.limits.specs.Limits.{most_string_bytes}
use Rattle.tells.specs.Tells.{Tells, holds, fails}
use Rattle.programs.specs.Program.{Program}
use Rattle.programs.specs.Limits.{Visit, first, second}
use Rattle.programs.specs.Section.{FieldIs, no_program, names}
use Rattle.layout.specs.Layout.{production_count, node_count}
use Rattle.layout.specs.LaidOut.{LaidOut}
use Rattle.layout.specs.Records.{first_program_of, second_program_of, first_program_of_node, second_program_of_node}
use Rattle.layout.specs.declared.Layout.{Layout}
use Rattle.sheet.specs.Sheet.{Sheet}
use Rattle.notation.specs.Rules.{TextVisits, Rules}
use Rattle.encoding.specs.Distinct.{distinct, run_together}
use Rattle.encoding.specs.Mentions.{in_rules, strings_mentioned}
use Rattle.encoding.specs.Encoded.{strings_stored}
use Rattle.packing.specs.Packs.{Packs}
use Rattle.naming.specs.ByName.{option_named, ByName}
use Rattle.stores.specs.Rows.{RowsIn, HasRows}
use Rattle.stores.specs.Mentioned.{TooManyFor}
use Rattle.stores.proofs.Mentioning.{empty_store}
use Rattle.visits.proofs.Performing.{section_of, strings_of, section_length, strings_are, its_fits, it_lies, it_starts_inside}
use Rattle.asides.specs.Asides.{BothNamed}
use Rattle.asides.proofs.Laws.{filled}
use Rattle.gleans.specs.Gleans.{StoredIf, KeptAs, ListStrings}
use Rattle.gleans.proofs.Stored.{more_too_many, kept_nothing, kept_as, kept_stop, kept_then}
use Rattle.lines.specs.Lines.{RulesNamed}
use Rattle.lines.proofs.Named.{rules_named}
use Rattle.hoards.specs.Hoards.{strings_of_one, strings_of_both, strings_of_each, FieldStrings, BothStrings, EachVisitNamed, EachStrings, FitsIs}
use Rattle.hoards.proofs.Same.{as_long, too_long}
use Rattle.hoards.proofs.Members.{owns, inner, rules_strings, owns_named, inner_named}

same_held : (r : Counted ℕ) (b e : List ℕ) {l m : List (List ℕ)} → l ≡ m → StoredIf r (distinct l) b e → StoredIf r (distinct m) b e
same_held r b e f h = subst (λ (z : List (List ℕ)). StoredIf r (distinct z) b e) f h

-- a test of what was answered
pub kept : (ok : Bool) → not ok ≡ false → ok ≡ true
kept true h = refl
kept false h = absurd (true≢false h)

pub not_kept : (ok : Bool) → not ok ≡ true → ok ≡ false
not_kept true h = absurd (true≢false (sym h))
not_kept false h = refl

-- ---- one field
module _ (s : List ℕ) (field : ℕ) (b e : List ℕ) (n : ℕ) where
  pub no_field : field ≡ 65535 → HasRows b e n → KeptAs (FieldStrings s field) b e n (Some n) b e
  no_field k R = kept_nothing (FieldStrings s field) b e n R (λ xs u. u.are ∙ ap strings_of_one u.names.named ∙ none_there u.sheet u.names.program u.names.is)
    where
      none_there : {ps : List Program} {v : Visit} (a : Sheet) (m : Option Program) → FieldIs ps v field m → strings_of_one (option_named a m) ≡ []
      none_there a none f = refl
      none_there a (some q) (names g q₁ S w) = absurd (g k)

  module _ (l : Layout) (L : LaidOut s l) (f : field ≡ 65535 → ⊥) where
    pub past_section : l.programs < field → HasRows b e n → KeptAs (FieldStrings s field) b e n (Some n) b e
    past_section far R = kept_nothing (FieldStrings s field) b e n R (λ xs u. absurd (go u.sheet u.packs u.visit u.names.program u.names.is))
      where
        go : (a : Sheet) (z : Packs s a) (v : Visit) (o : Option Program) → FieldIs z.programs.programs v field o → ⊥
        go a z v none (no_program k) = f k
        go a z v (some p) (names k p₁ S w) = omega (arith, far, section_length s l L, it_starts_inside (length a.names) (strings_of s l L) (section_of s l L) z.programs.programs (filled s l L a z) field p S)

    pub its_program : (b' e' : List ℕ) (r : Counted ℕ) → KeptAs (ListStrings (section_of s l L) (strings_of s l L) field) b e n r b' e' → KeptAs (FieldStrings s field) b e n r b' e'
    its_program b' e' r K =
        kept_as (FieldStrings s field) b e n (ListStrings (section_of s l L) (strings_of s l L) field) r b' e'
        (λ xs u. go xs u.sheet u.packs u.visit u.names.program u.names.is (u.are ∙ ap strings_of_one u.names.named)) K
      where
        go : (xs : List (List ℕ)) (a : Sheet) (z : Packs s a) (v : Visit) (o : Option Program) → FieldIs z.programs.programs v field o → xs ≡ strings_of_one (option_named a o) → ListStrings (section_of s l L) (strings_of s l L) field xs
        go xs a z v none (no_program k) q = absurd (f k)
        go xs a z v (some p) (names k p₁ S w) q =
            record {
              sheet = a;
              strings_are = z.strings_are ∙ sym (strings_are s l L);
              thing = p;
              lies = it_lies (length a.names) (strings_of s l L) (section_of s l L) z.programs.programs (filled s l L a z) field p S;
              fits = its_fits (length a.names) (strings_of s l L) (section_of s l L) z.programs.programs (filled s l L a z) field p S;
              are = q;
            }

-- ---- two fields
module _ (s : List ℕ) (one two : ℕ) (b e : List ℕ) (n : ℕ) (b₁ e₁ : List ℕ) where
  first_due : (xs : List (List ℕ)) (u : BothStrings s one two xs) → FieldStrings s one (strings_of_one u.programs.first_visit)
  first_due xs u = record { sheet = u.sheet; packs = u.packs; visit = first; program = u.programs.first_visit; names = u.names.first_is; are = refl }

  second_due : (xs : List (List ℕ)) (u : BothStrings s one two xs) → FieldStrings s two (strings_of_one u.programs.second_visit)
  second_due xs u = record { sheet = u.sheet; packs = u.packs; visit = second; program = u.programs.second_visit; names = u.names.second_is; are = refl }

  pub both_kept : (k : ℕ) → KeptAs (FieldStrings s one) b e n (Some k) b₁ e₁ → (b₂ e₂ : List ℕ) (r : Counted ℕ) → KeptAs (FieldStrings s two) b₁ e₁ k r b₂ e₂ → KeptAs (BothStrings s one two) b e n r b₂ e₂
  both_kept k K b₂ e₂ r N =
      kept_then (BothStrings s one two) b e n (FieldStrings s one) b₁ e₁ (FieldStrings s two) k r b₂ e₂ K N
      (λ xs u. record { front = strings_of_one u.programs.first_visit; back = strings_of_one u.programs.second_visit; front_due = first_due xs u; back_due = second_due xs u; is = u.are })

  pub first_full : (r : Counted ℕ) → r ≡ None → KeptAs (FieldStrings s one) b e n None b₁ e₁ → KeptAs (BothStrings s one two) b e n r b₁ e₁
  first_full r k K =
      kept_stop (BothStrings s one two) b e n (FieldStrings s one) b₁ e₁ r k K
      (λ xs u. record { front = strings_of_one u.programs.first_visit; back = strings_of_one u.programs.second_visit; front_due = first_due xs u; back_due = tt; is = u.are })

-- ---- record after record: those from k on are left
module _ (s : List ℕ) (one two : ℕ → ℕ) (many : ℕ) (b e : List ℕ) (n : ℕ) where
  pub record Left (k m : ℕ) (b₁ e₁ : List ℕ) (a : Sheet) (z : Packs s a) (all : List (List ℕ)) : Type 0 where
    pub programs : List TextVisits
    pub named : EachVisitNamed s a z one two k many programs
    pub so_far_lem : List (List ℕ)
    pub are : so_far_lem ++ strings_of_each programs ≡ all
    pub held : RowsIn b₁ e₁ m (distinct so_far_lem)

  pub record EachLeft (k m : ℕ) (b₁ e₁ : List ℕ) : Type 0 where
    pub as_many_bytes : length b₁ ≡ length b
    pub as_many_ends : length e₁ ≡ length e
    pub rows : HasRows b₁ e₁ m
    pub left : (xs : List (List ℕ)) (u : EachStrings s one two many xs) (l : List (List ℕ)) → RowsIn b e n (distinct l) → Left k m b₁ e₁ u.sheet u.packs (l ++ xs)

  pub each_left : HasRows b e n → EachLeft 0 n b e
  each_left R =
      record { as_many_bytes = refl; as_many_ends = refl; rows = R; left = λ xs u l h. record { programs = u.programs; named = u.names; so_far_lem = l; are = ap (λ (z : List (List ℕ)). l ++ z) (sym u.are); held = h } }

  module _ (k m : ℕ) (b₁ e₁ : List ℕ) (low : k < many) (L : EachLeft k m b₁ e₁) (f g : ℕ) (ef : f ≡ one k) (eg : g ≡ two k) (b₂ e₂ : List ℕ) where
    here : (a : Sheet) (z : Packs s a) (v : TextVisits) → BothNamed s a z (one k) (two k) v → BothStrings s f g (strings_of_both v)
    here a z v h =
        record {
          sheet = a;
          packs = z;
          programs = v;
          names = subst (λ (x : ℕ). BothNamed s a z x g v) (sym ef) (subst (λ (x : ℕ). BothNamed s a z (one k) x v) (sym eg) h);
          are = refl;
        }

    pub one_less : (j : ℕ) → KeptAs (BothStrings s f g) b₁ e₁ m (Some j) b₂ e₂ → EachLeft (k + 1) j b₂ e₂
    one_less j K =
        record {
          as_many_bytes = K.same_bytes ∙ L.as_many_bytes;
          as_many_ends = K.same_ends ∙ L.as_many_ends;
          rows = K.rows;
          left = λ xs u l h. let w = L.left xs u l h in on u.sheet u.packs (l ++ xs) w.programs w.named w.so_far_lem w.are w.held;
        }
      where
        on : (a : Sheet) (z : Packs s a) (all : List (List ℕ)) (vs : List TextVisits) → EachVisitNamed s a z one two k many vs → (c : List (List ℕ)) → c ++ strings_of_each vs ≡ all → RowsIn b₁ e₁ m (distinct c) → Left (k + 1) j b₂ e₂ a z all
        on a z all [] d c q R = absurd (omega (arith, d, low))
        on a z all (v ∷ vs) d c q R =
            record {
              programs = vs;
              named = subst (λ (x : ℕ). EachVisitNamed s a z one two x many vs) (sym (add-one k)) d.1;
              so_far_lem = c ++ strings_of_both v;
              are = append_assoc c (strings_of_both v) (strings_of_each vs) ∙ q;
              held = K.right (strings_of_both v) (here a z v d.0) c R;
            }

    pub one_full : (r : Counted ℕ) → r ≡ None → KeptAs (BothStrings s f g) b₁ e₁ m None b₂ e₂ → KeptAs (EachStrings s one two many) b e n r b₂ e₂
    one_full r ok K =
        subst (λ (y : Counted ℕ). KeptAs (EachStrings s one two many) b e n y b₂ e₂) (sym ok)
        (record {
          same_bytes = K.same_bytes ∙ L.as_many_bytes;
          same_ends = K.same_ends ∙ L.as_many_ends;
          rows = tt;
          right = λ xs u l h. let w = L.left xs u l h in on u.sheet u.packs (l ++ xs) w.programs w.named w.so_far_lem w.are w.held;
        })
      where
        on : (a : Sheet) (z : Packs s a) (all : List (List ℕ)) (vs : List TextVisits) → EachVisitNamed s a z one two k many vs → (c : List (List ℕ)) → c ++ strings_of_each vs ≡ all → RowsIn b₁ e₁ m (distinct c) → TooManyFor (distinct all) b₂ e₂
        on a z all [] d c q R = absurd (omega (arith, d, low))
        on a z all (v ∷ vs) d c q R =
            same_held None b₂ e₂ (append_assoc c (strings_of_both v) (strings_of_each vs) ∙ q) (more_too_many (c ++ strings_of_both v) (strings_of_each vs) b₂ e₂ (K.right (strings_of_both v) (here a z v d.0) c R))

  pub none_left : (k m : ℕ) (b₁ e₁ : List ℕ) → many ≤ k → EachLeft k m b₁ e₁ → KeptAs (EachStrings s one two many) b e n (Some m) b₁ e₁
  none_left k m b₁ e₁ high L =
      record {
        same_bytes = L.as_many_bytes;
        same_ends = L.as_many_ends;
        rows = L.rows;
        right = λ xs u l h. let w = L.left xs u l h in on u.sheet u.packs (l ++ xs) w.programs w.named w.so_far_lem w.are w.held;
      }
    where
      past : (a : Sheet) (z : Packs s a) (j : ℕ) (vs : List TextVisits) → EachVisitNamed s a z one two j many vs → j + length vs ≡ many
      past a z j [] d = omega (arith, d)
      past a z j (v ∷ vs) d = omega (arith, past a z (suc j) vs d.1)

      on : (a : Sheet) (z : Packs s a) (all : List (List ℕ)) (vs : List TextVisits) → EachVisitNamed s a z one two k many vs → (c : List (List ℕ)) → c ++ strings_of_each vs ≡ all → RowsIn b₁ e₁ m (distinct c) → RowsIn b₁ e₁ m (distinct all)
      on a z all [] d c q N = subst (λ (x : List (List ℕ)). RowsIn b₁ e₁ m (distinct x)) (sym (append-nil c) ∙ q) N
      on a z all (v ∷ vs) d c q N = absurd (omega (arith, high, past a z k (v ∷ vs) d))

-- ---- all
module _ (s b e b₁ e₁ : List ℕ) (r₁ : Counted ℕ) (bytes : length b ≡ most_string_bytes) (ends : length e ≡ most_string_bytes + 1)
    (K : KeptAs (EachStrings s (first_program_of s) (second_program_of s) (production_count s)) b e 0 r₁ b₁ e₁) where
  module _ (a : Sheet) (z : Packs s a) (x : Rules) (h : ByName a x) where
    abbrev outer : List (List ℕ)
    outer = strings_of_each (owns x.productions)

    abbrev within : List (List ℕ)
    within = strings_of_each (inner x.productions)

    named : RulesNamed s a z 0 x.productions
    named = rules_named s a z 0 a.rules x.productions z.rules_are h.rules_are

    as_many : length (run_together (strings_stored x)) ≡ length (run_together (distinct (outer ++ within)))
    as_many = as_long (strings_mentioned (in_rules x.productions)) (outer ++ within) (rules_strings x.productions)

    first_held : StoredIf r₁ (distinct outer) b₁ e₁
    first_held = K.right outer (record { sheet = a; packs = z; programs = owns x.productions; names = owns_named s a z 0 x.productions named; are = refl }) [] (empty_store b e)

    over : (l : List (List ℕ)) (b' e' : List ℕ) → length b' ≡ most_string_bytes → length e' ≡ most_string_bytes + 1 → TooManyFor (distinct l) b' e' → most_string_bytes < length (run_together (distinct l))
    over l b' e' u v (inl k) = omega (arith, u, k)
    over l b' e' u v (inr k) = too_long l most_string_bytes (omega (arith, v, k))

    told : (r : Counted ℕ) (b' e' : List ℕ) → length b' ≡ most_string_bytes → length e' ≡ most_string_bytes + 1 → StoredIf r (distinct (outer ++ within)) b' e' → Tells (length (run_together (strings_stored x)) ≤ most_string_bytes) (is_some r)
    told (Some n) b' e' u v R = holds (omega (arith, as_many, u, ap length R.bytes_are, length-append (run_together (distinct (outer ++ within))) R.free_bytes))
    told None b' e' u v R = fails (λ y. omega (arith, y, as_many, over (outer ++ within) b' e' u v R))

  pub not_all : r₁ ≡ None → FitsIs s false
  not_all k a z x h =
      told a z x h None b₁ e₁ (K.same_bytes ∙ bytes) (K.same_ends ∙ ends)
      (more_too_many (outer a z x h) (within a z x h) b₁ e₁ (subst (λ (r : Counted ℕ). StoredIf r (distinct (outer a z x h)) b₁ e₁) k (first_held a z x h)))

  pub all_kept : (k : ℕ) → r₁ ≡ Some k → (b₂ e₂ : List ℕ) (r₂ : Counted ℕ) → KeptAs (EachStrings s (first_program_of_node s) (second_program_of_node s) (node_count s)) b₁ e₁ k r₂ b₂ e₂ → FitsIs s (is_some r₂)
  all_kept k q b₂ e₂ r₂ N a z x h =
      let R = subst (λ (r : Counted ℕ). StoredIf r (distinct (outer a z x h)) b₁ e₁) q (first_held a z x h) in
      let H = N.right (within a z x h) (record { sheet = a; packs = z; programs = inner x.productions; names = inner_named s a z 0 x.productions (named a z x h); are = refl }) (outer a z x h) R in
      told a z x h r₂ b₂ e₂ (N.same_bytes ∙ K.same_bytes ∙ bytes) (N.same_ends ∙ K.same_ends ∙ ends) H
