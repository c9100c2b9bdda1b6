-- What a word is that stands at the front of bytes, or behind others. Assumes nothing.
use mathlib.Core.Path.{◌≡◌, refl, sym, ◌∙◌, ap, subst}
use mathlib.Core.Bool.{Bool, true, false, true≢false}
use mathlib.Core.List.{List, [], ◌∷◌, ◌++◌, append_assoc, append-nil, head-eq_of_cons-eq}
use Prim.Native.Nat.{ℕ, ◌+◌, ◌-◌, ◌≤◌, ◌<◌}
use native.Mathlib.Omega.{arith}
use lib.ListN.{length, take, drop, get_or, length-append, length-take, take-append-drop}
use lib.Seq.{drop_at, take_at, take-add, drop-drop, get_or_at}
use Rattle.tells.specs.Tells.{Tells, holds, fails}
use Rattle.text.specs.Chars.{Starts, Begins}
use Rattle.text.specs.Names.{name_byte}
use Rattle.text.proofs.Shapes.{cons≢[]}
use Rattle.tokens.specs.declared.Word.{Word}
use Rattle.tokens.specs.Inner.{WordIs}
use Rattle.models.specs.Answers.{WordAt, EndsWith}

behind_word : (word u v : List ℕ) → word ++ u ≡ word ++ v → u ≡ v
behind_word word u v e = sym (drop_at word u (length word) refl) ∙ ap (drop (length word)) e ∙ drop_at word v (length word) refl

pub alone : (word bytes : List ℕ) → bytes ≡ word ++ [] → WordAt word bytes
alone word bytes e = record { rest = []; is = e; whole = λ b after f h. cons≢[] (sym f) }

pub parted : (word bytes u : List ℕ) (c : ℕ) → bytes ≡ word ++ c ∷ u → (name_byte c ≡ true → ⊥) → WordAt word bytes
parted word bytes u c e h = record { rest = c ∷ u; is = e; whole = λ b after f k. h (subst (λ x. name_byte x ≡ true) (sym (head-eq_of_cons-eq f)) k) }

pub goes_on : (word bytes u : List ℕ) (c : ℕ) → bytes ≡ word ++ c ∷ u → name_byte c ≡ true → WordAt word bytes → ⊥
goes_on word bytes u c e h w = w.whole c u (behind_word word w.rest (c ∷ u) (sym w.is ∙ e)) h

-- the same by the byte behind the word
pub nothing_behind : (word bytes : List ℕ) → Starts bytes word → (length word < length bytes → ⊥) → WordAt word bytes
nothing_behind word bytes (v, e) h = on v e
  where
    on : (v : List ℕ) → bytes ≡ word ++ v → WordAt word bytes
    on [] e = alone word bytes e
    on (c ∷ u) e = absurd (h (rw (ap length e) (simp length-append (omega arith))))

behind_it_lem : (word bytes : List ℕ) → Starts bytes word → length word < length bytes → (u : List ℕ) × (bytes ≡ word ++ get_or bytes (length word) 0 ∷ u)
behind_it_lem word bytes (v, e) h = on v e
  where
    on : (v : List ℕ) → bytes ≡ word ++ v → (u : List ℕ) × (bytes ≡ word ++ get_or bytes (length word) 0 ∷ u)
    on [] e = absurd (omega (arith, h, ap length (e ∙ append-nil word)))
    on (c ∷ u) e = (u, e ∙ ap (λ x. word ++ x ∷ u) (sym (ap (λ l. get_or l (length word) 0) e ∙ get_or_at word c u 0 (length word) refl)))

-- told by how the word compares with the bytes
module _ (front word : List ℕ) (r : Word) (is : WordIs front word r) where
  pub only_begun : r ≡ Word.Begun → Tells (WordAt word front) false
  only_begun e = fails (λ w. out (subst (WordIs front word) e is) w)
    where
      out : Begins front word → WordAt word front → ⊥
      out ([], f, h) w = h refl
      out (c ∷ v, f, h) w = omega (arith, ap length f, length-append front (c ∷ v), ap length w.is, length-append word w.rest)

  pub is_apart : r ≡ Word.No → Tells (WordAt word front) false
  is_apart e = fails (λ w. subst (WordIs front word) e is [] w.rest (append-nil front ∙ w.is))

  module _ (whole : r ≡ Word.Whole) where
    pub nothing_more : (length word < length front → ⊥) → Tells (WordAt word front) true
    nothing_more h = holds (nothing_behind word front (subst (WordIs front word) whole is) h)

    module _ (long : length word < length front) (b : Bool) (behind : b ≡ name_byte (get_or front (length word) 0)) where
      next : (u : List ℕ) × (front ≡ word ++ get_or front (length word) 0 ∷ u)
      next = behind_it_lem word front (subst (WordIs front word) whole is) long

      pub name_behind : b ≡ true → Tells (WordAt word front) false
      name_behind e = fails (goes_on word front next.0 (get_or front (length word) 0) next.1 (sym behind ∙ e))

      pub no_name_behind : b ≡ false → Tells (WordAt word front) true
      no_name_behind e = holds (parted word front next.0 (get_or front (length word) 0) next.1 (λ k. true≢false (sym k ∙ sym behind ∙ e)))

-- a word behind others is one word with them
module _ (text front word : List ℕ) (k : ℕ) (inside : k ≤ length text) where
  taken : length (take k text) ≡ k
  taken = length-take k text ∙ omega (arith, inside)

  pub one_word : EndsWith front (take k text) → WordAt word (drop k text) → (length front ≤ k) × WordAt (front ++ word) (drop (k - length front) text)
  one_word b w =
      let long : length b.before + length front ≡ k = sym (length-append b.before front) ∙ ap length (sym b.is) ∙ taken in
      let all : text ≡ b.before ++ (front ++ (word ++ w.rest)) = sym (take-append-drop k text) ∙ ap (λ l. l ++ drop k text) b.is ∙ ap (λ l. (b.before ++ front) ++ l) w.is ∙ append_assoc b.before front (word ++ w.rest) in
      let from : length b.before ≡ k - length front = omega (arith, long) in (
        omega (arith, long),
        record {
          rest = w.rest;
          is = ap (drop (k - length front)) all ∙ drop_at b.before (front ++ (word ++ w.rest)) (k - length front) from ∙ sym (append_assoc front word w.rest);
          whole = w.whole;
        },
      )

  module _ (reaches : length front ≤ k) (w : WordAt (front ++ word) (drop (k - length front) text)) where
    from : drop (k - length front) text ≡ front ++ (word ++ w.rest)
    from = w.is ∙ append_assoc front word w.rest

    up_to_lem : k ≡ (k - length front) + length front
    up_to_lem = omega (arith, reaches)

    pub front_behind : EndsWith front (take k text)
    front_behind = record {
      before = take (k - length front) text;
      is = ap (λ n. take n text) up_to_lem ∙ take-add (k - length front) (length front) text ∙ ap (λ l. take (k - length front) text ++ l) (ap (take (length front)) from ∙ take_at front (word ++ w.rest) (length front) refl);
    }

    pub word_there : WordAt word (drop k text)
    word_there = record {
      rest = w.rest;
      is = ap (λ n. drop n text) up_to_lem ∙ sym (drop-drop (length front) (k - length front) text) ∙ ap (drop (length front)) from ∙ drop_at front (word ++ w.rest) (length front) refl;
      whole = w.whole;
    }
